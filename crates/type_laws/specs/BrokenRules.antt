-- Broken rules of types: which rules each part of a source breaks itself and where, one definition for each rule.
use Rattle.std.specs.Prelude.{◌≡◌, ◌⊎◌, ◌<◌, ◌≤◌, ℕ, ℤ, pos, negsuc, zero, suc, Bool, true, false, not, ◌&&◌, ◌||◌, if◌then◌else◌, is_some, nat_eq, List}
use Rattle.std.specs.Prelude.{Option, Some, None}
use Rattle.std.specs.List.{Contains}
use Rattle.std.specs.Map.{lookup}
use Rattle.apply_options.specs.declared.reduction.Reduction.{Reduction}
use Rattle.syntax.specs.Terminals.{Identifier}
use Rattle.syntax.specs.SourceTrees as source
use Rattle.syntax.specs.SourceTrees.{StatementKindTree, DeclarationTree, EndsTree, InitialTree, SourceTree}
use Rattle.syntax.specs.declared.declaration.DeclaredType.{DeclaredType}
use Rattle.syntax.specs.declared.declaration.DeclaredType.TheVariants as declared
use Rattle.typed_tree.specs.declared.expression.Endpoint.{Endpoint}
use Rattle.expression_types.specs.declared.fault.TypeRule.{TypeRule}
use Rattle.expression_types.specs.declared.fault.TypeRule.TheVariants as rule
use Rattle.expression_types.specs.declared.scope.Entity.{Entity}
use Rattle.expression_types.specs.declared.scope.Entity.TheVariants as entity
use Rattle.expression_types.specs.declared.scope.Inside.{Inside}
use Rattle.expression_types.specs.declared.scope.Inside.TheVariants as inside
use Rattle.expression_types.specs.Expression.{index_value, used_name, value_of, vector_index}
use Rattle.expression_types.specs.Faults.{number_of}
use Rattle.expression_types.specs.ScopeTree.{found}
use Rattle.expression_types.specs.ValueTree.{ValueTree, Integer, Condition, Vertex, Set, ErrorValue, is_error, entity_set, named_vector}
use Rattle.initializer_types.specs.Checker.{CheckerTree}
use Rattle.initializer_types.specs.DeclarationForms.{FunctionKindTree, NoKind, kind, literal_condition, literal_integer}
use Rattle.types.specs.Declaration.{DeclaredTree, declarations_typed}
use Rattle.initializer_types.specs.Initial.{ApplyEndTree, InitializerTree, Typed, Members, Loaded, Degrees, ErrorInitializer, edge_function, apply_end_of, filter_function}
use Rattle.initializer_types.specs.Initial.{initializer_of, is_all, is_degrees, is_edges, is_loaded, is_sound, is_wrong, lacks_weights, names_error, vector_of, vertex_function, writes_vector}
use Rattle.types.specs.Program.{no_declarations, set_count}
use Rattle.types.specs.Statement.{has_ends}
use Rattle.types.specs.Step.{own_vertex, same_endpoint, same_reduction}
use Rattle.type_laws.specs.ExpressionParts.{any_faulty, parts}
use Rattle.type_laws.specs.ExpressionRules.{breaks_indexes, breaks_types, breaks_visibility, holds_entry, is_bool, is_int, place_of}
use Rattle.type_laws.specs.SourceParts.{Part, Source, Declaration, MainStatement, FunctionStatement, Label, NewName, Initial, IntWanted, BoolWanted}
use Rattle.type_laws.specs.SourceParts.{VectorWanted, MainIndex, FunctionIndex, InExpression, initial_forms, parts_of}

-- a value may be where an int, a bool or a set is wanted; of a faulty one no type is known
abbrev pub may_be_int : ValueTree → Bool
may_be_int v = is_error v || is_int v

abbrev pub may_be_bool : ValueTree → Bool
may_be_bool v = is_error v || is_bool v

abbrev pub may_be_set : ValueTree → Bool
may_be_set (Integer e) = false
may_be_set (Condition c) = false
may_be_set (Vertex p) = false
may_be_set (Set slot) = true
may_be_set ErrorValue = true

-- initial and assigned values
abbrev pub gives_int : InitializerTree → Bool
gives_int (Typed v) = may_be_int v
gives_int (Members s) = false
gives_int Loaded = false
gives_int Degrees = false
gives_int ErrorInitializer = true

abbrev pub gives_bool : InitializerTree → Bool
gives_bool (Typed v) = may_be_bool v
gives_bool (Members s) = false
gives_bool Loaded = false
gives_bool Degrees = false
gives_bool ErrorInitializer = true

abbrev pub gives_set : InitializerTree → Bool
gives_set (Typed v) = may_be_set v
gives_set (Members s) = true
gives_set Loaded = false
gives_set Degrees = false
gives_set ErrorInitializer = true

-- variables are int, bool or, in main, vertex sets
abbrev pub declares_in_main : DeclaredType → InitializerTree → Bool
declares_in_main declared.Int x = gives_int x
declares_in_main declared.Bool x = gives_bool x
declares_in_main declared.VertexSet x = gives_set x
declares_in_main _ x = false

abbrev pub declares_in_function : DeclaredType → InitializerTree → Bool
declares_in_function declared.Int x = gives_int x
declares_in_function declared.Bool x = gives_bool x
declares_in_function _ x = false

-- variables are assigned, and a filter's result
abbrev pub assigns_in_main : Entity → InitializerTree → Bool
assigns_in_main (entity.IntVariable slot) x = gives_int x
assigns_in_main (entity.BoolVariable slot) x = gives_bool x
assigns_in_main (entity.SetVariable slot) x = gives_set x
assigns_in_main entity.Error x = true
assigns_in_main _ x = false

abbrev pub assigns_in_function : Entity → InitializerTree → Bool
assigns_in_function (entity.IntVariable slot) x = gives_int x
assigns_in_function (entity.BoolVariable slot) x = gives_bool x
assigns_in_function entity.Error x = true
assigns_in_function _ x = false

-- int variables are reduced, and set variables get vertices
abbrev pub reduces : Entity → ValueTree → Bool
reduces (entity.IntVariable slot) v = may_be_int v
reduces entity.Error v = true
reduces _ v = false

abbrev pub may_add : Entity → ValueTree → Bool
may_add (entity.SetVariable slot) v = may_be_int v
may_add entity.Error v = true
may_add _ v = false

-- an edge function is applied to the edges, with ends that are sets or filters, and a vertex function to a set without ends
abbrev pub applies : Entity → ApplyEndTree → ApplyEndTree → (ends : Bool) → Entity → Bool
applies t a b ends f =
    names_error t
    || (if is_edges t then not (is_wrong a || is_wrong b || lacks_weights t f) && (names_error f || is_some (edge_function f))
    else is_some (entity_set t) && (not ends && (names_error f || is_some (vertex_function f))))

-- the vector after `applyModified` is one that the edge function writes
abbrev pub modifies : List (List (ℕ × Reduction)) → Option ℕ → Option ℕ → Bool
modifies written None vector = false
modifies written (Some function) None = false
modifies written (Some function) (Some vector) = writes_vector written function vector

abbrev pub is_zero : ℤ → Bool
is_zero (pos zero) = true
is_zero (pos (suc n)) = false
is_zero (negsuc n) = false

abbrev pub is_unit_weight : ℤ → Bool
is_unit_weight (pos zero) = false
is_unit_weight (pos (suc zero)) = true
is_unit_weight (pos (suc (suc n))) = false
is_unit_weight (negsuc n) = false

-- an initial value of the kinds that there are, whose names are what it takes
abbrev pub is_initial : CheckerTree → ℕ → InitialTree → Bool
is_initial c at (source.NewSet size) = is_zero size
is_initial c at (source.Load argument) = is_unit_weight argument
is_initial c at (source.Vertices edges) = is_edges (used_name c.scope edges).value
is_initial c at (source.OutDegrees edges) = is_edges (used_name c.scope edges).value
is_initial c at (source.Filter set test) = is_some (entity_set (used_name c.scope set).value) && is_some (filter_function (used_name c.scope test).value)
is_initial c at (source.ApplyModified edges ends function vector) =
    let e = (used_name c.scope edges).value in
    let f = (used_name c.scope function).value in
    is_edges e && (not (is_wrong (apply_end_of c.scope ends.from).value || is_wrong (apply_end_of c.scope ends.to).value || lacks_weights e f)
    && modifies c.written (edge_function f) (vector_of (used_name c.scope vector).value))
is_initial c at (source.Value e) = true

-- a constant begins with a literal, all vertices, the edges of the file or the out-degrees, as its type says
abbrev pub begins_constant : DeclaredType → InitializerTree → InitialTree → Bool
begins_constant declared.Int x initial = is_some (literal_integer initial) || not (is_sound x)
begins_constant declared.Bool x initial = is_some (literal_condition initial) || not (is_sound x)
begins_constant declared.Vertex x initial = false
begins_constant declared.VertexSet x initial = not (is_sound x) || is_all x
begins_constant declared.Vector x initial = is_degrees x || (is_some (literal_integer initial) || not (is_sound x))
begins_constant declared.EdgeSet x initial = not (is_sound x) || is_loaded x
begins_constant declared.WeightedEdgeSet x initial = not (is_sound x) || is_loaded x

abbrev pub is_edgeset : DeclaredType → Bool
is_edgeset declared.EdgeSet = true
is_edgeset declared.WeightedEdgeSet = true
is_edgeset _ = false

abbrev pub is_kind : FunctionKindTree → Bool
is_kind NoKind = false
is_kind _ = true

abbrev pub is_edge_function : Inside → Bool
is_edge_function inside.EdgeFunction = true
is_edge_function _ = false

abbrev pub is_filter : Inside → Bool
is_filter inside.Filter = true
is_filter _ = false

abbrev pub reduced_otherwise : Option Reduction → Reduction → Bool
reduced_otherwise None by = false
reduced_otherwise (Some first) by = not (same_reduction first by)

abbrev pub mixes : List (ℕ × Reduction) → Option ℕ → Reduction → Bool
mixes writes None by = false
mixes writes (Some vector) by = reduced_otherwise (lookup (nat_eq vector) writes) by

-- an entry of a function is written at its own vertex
abbrev pub may_be_written : Endpoint → ValueTree → Bool
may_be_written own (Integer e) = false
may_be_written own (Condition c) = false
may_be_written own (Vertex p) = same_endpoint p own
may_be_written own (Set slot) = false
may_be_written own ErrorValue = true

-- 221: a used name is visible
abbrev pub uses_unknown_name : Part → Bool
uses_unknown_name (InExpression scope at form) = breaks_visibility scope form
uses_unknown_name _ = false

-- 222: a declared name is not visible already, and only one constant is an edgeset
abbrev pub redeclares : Part → Bool
redeclares (NewName scope name) = is_some (found name.bytes scope.visible)
redeclares (Declaration d (source.Constant at p initial)) = is_edgeset p.declared && is_some d.edges
redeclares _ = false

-- 223: what is written has the type that its place takes
abbrev pub main_statement_fits : CheckerTree → StatementKindTree → Bool
main_statement_fits c (source.Declare at p initial) = declares_in_main p.declared (initializer_of c at initial).value
main_statement_fits c (source.Print at e) = may_be_int (value_of c.scope at e).value || may_be_bool (value_of c.scope at e).value
main_statement_fits c (source.Assign name initial) = assigns_in_main (used_name c.scope name).value (initializer_of c name.at initial).value
main_statement_fits c (source.Reduce name by e) = reduces (used_name c.scope name).value (value_of c.scope name.at e).value
main_statement_fits c (source.AddVertex set e) = may_add (used_name c.scope set).value (value_of c.scope set.at e).value
main_statement_fits c (source.Apply target ends function) =
    applies (used_name c.scope target).value (apply_end_of c.scope ends.from).value (apply_end_of c.scope ends.to).value (has_ends ends)
    (used_name c.scope function).value
main_statement_fits c _ = true

abbrev pub function_statement_fits : CheckerTree → StatementKindTree → Bool
function_statement_fits c (source.Declare at p initial) = declares_in_function p.declared (initializer_of c at initial).value
function_statement_fits c (source.While at test body) = false
function_statement_fits c (source.For at name first limit body) = false
function_statement_fits c (source.Assign name initial) = assigns_in_function (used_name c.scope name).value (initializer_of c name.at initial).value
function_statement_fits c (source.Reduce name by e) = reduces (used_name c.scope name).value (value_of c.scope name.at e).value
function_statement_fits c (source.SetEntry vector index e) = not (is_filter c.scope.inside)
function_statement_fits c (source.ReduceEntry vector index by e) = not (is_filter c.scope.inside)
function_statement_fits c (source.AddVertex set e) = false
function_statement_fits c (source.Apply target ends function) = false
function_statement_fits c _ = true

abbrev pub declaration_fits : DeclaredTree → DeclarationTree → Bool
declaration_fits d (source.Constant at p initial) = begins_constant p.declared (initializer_of d.checker at initial).value initial
declaration_fits d (source.Function at name parameters result body) = is_kind (kind name.bytes parameters result)

abbrev pub has_wrong_type : Part → Bool
has_wrong_type (Declaration d x) = not (declaration_fits d x)
has_wrong_type (MainStatement c action) = not (main_statement_fits c action)
has_wrong_type (FunctionStatement c action) = not (function_statement_fits c action)
has_wrong_type (Initial c at x) = not (any_faulty c.scope at (initial_forms x) || is_initial c at x)
has_wrong_type (IntWanted scope at e) = not (may_be_int (value_of scope at e).value)
has_wrong_type (BoolWanted scope at e) = not (may_be_bool (value_of scope at e).value)
has_wrong_type (VectorWanted scope at name) = not (names_error (used_name scope name).value || is_some (named_vector (used_name scope name).value))
has_wrong_type (MainIndex scope at e) = not (may_be_int (value_of scope at e).value)
has_wrong_type (InExpression scope at form) = not (any_faulty scope at (parts scope form)) && breaks_types scope at form
has_wrong_type _ = false

-- 224: an edge function assigns no entry of a vector
abbrev pub assigns_by_edge : Part → Bool
assigns_by_edge (FunctionStatement c (source.SetEntry vector index e)) = is_edge_function c.scope.inside
assigns_by_edge _ = false

-- 225: an edge function reduces one vector by one reduction only
abbrev pub mixes_reductions : Part → Bool
mixes_reductions (FunctionStatement c (source.ReduceEntry vector index by e)) =
    is_edge_function c.scope.inside && mixes c.writes (vector_index c.scope vector.at vector).value by
mixes_reductions _ = false

-- 226: entries are read and written where they may be
abbrev pub has_wrong_index : Part → Bool
has_wrong_index (MainIndex scope at e) = holds_entry (value_of scope at e).value
has_wrong_index (FunctionIndex scope at e) = not (may_be_written (own_vertex scope.inside) (index_value scope at e).value)
has_wrong_index (InExpression scope at form) = not (any_faulty scope at (parts scope form)) && breaks_indexes scope at form
has_wrong_index _ = false

-- 227: `print` is in `main` only
abbrev pub prints_outside_main : Part → Bool
prints_outside_main (FunctionStatement c (source.Print at e)) = true
prints_outside_main _ = false

-- 228: a function `main` without parameters and result is there
abbrev pub lacks_main : Part → Bool
lacks_main (Source s length) = not (is_some (declarations_typed (no_declarations (set_count s.declarations)) s.declarations).value.main)
lacks_main _ = false

-- 229: no label is twice in a text
abbrev pub repeats_label : Part → Bool
repeats_label (Label c (Some label)) = is_some (found label.bytes c.labels)
repeats_label _ = false

abbrev pub breaks_itself : Part → TypeRule → Bool
breaks_itself part rule.UnknownName = uses_unknown_name part
breaks_itself part rule.Redeclared = redeclares part
breaks_itself part rule.WrongType = has_wrong_type part
breaks_itself part rule.NotReduction = assigns_by_edge part
breaks_itself part rule.MixedReductions = mixes_reductions part
breaks_itself part rule.WrongIndex = has_wrong_index part
breaks_itself part rule.PrintOutsideMain = prints_outside_main part
breaks_itself part rule.NoMain = lacks_main part
breaks_itself part rule.BadLabel = repeats_label part

-- the first token of a statement, its label aside
abbrev pub statement_place : StatementKindTree → ℕ
statement_place (source.Declare at p initial) = at
statement_place (source.While at test body) = at
statement_place (source.For at name first limit body) = at
statement_place (source.If at test body) = at
statement_place (source.IfElse at test body otherwise) = at
statement_place (source.Print at e) = at
statement_place (source.Assign name initial) = name.at
statement_place (source.Reduce name by e) = name.at
statement_place (source.SetEntry vector index e) = vector.at
statement_place (source.ReduceEntry vector index by e) = vector.at
statement_place (source.AddVertex set e) = set.at
statement_place (source.Apply target ends function) = target.at

abbrev pub declaration_place : DeclarationTree → TypeRule → ℕ
declaration_place (source.Constant at p initial) rule.Redeclared = p.name.at
declaration_place (source.Constant at p initial) _ = at
declaration_place (source.Function at name parameters result body) _ = at

abbrev pub label_place : Option Identifier → ℕ
label_place None = 0
label_place (Some label) = label.at

-- the offset of the fault if a part breaks a rule itself; the last rows break none
abbrev pub place : Part → TypeRule → ℕ
place (Source s length) r = length
place (Declaration d x) r = declaration_place x r
place (MainStatement c action) r = statement_place action
place (FunctionStatement c action) r = statement_place action
place (Label c label) r = label_place label
place (NewName scope name) r = name.at
place (Initial c at x) r = at
place (IntWanted scope at e) r = at
place (BoolWanted scope at e) r = at
place (VectorWanted scope at name) r = at
place (MainIndex scope at e) r = at
place (FunctionIndex scope at e) r = at
place (InExpression scope at form) r = place_of at form
place _ r = 0

-- a rule is broken at an offset in a part: by the part itself, or in a part of it
pub data Breaks (at : ℕ) (r : TypeRule) : Part → Type 0 where
  Itself : (part : Part) → breaks_itself part r ≡ true → at ≡ place part r → Breaks at r part
  InPart : (part inner : Part) → Contains (parts_of part) inner → Breaks at r inner → Breaks at r part

-- a source in a text of this length breaks a rule at an offset
abbrev pub BreaksRule : SourceTree → (length at : ℕ) → TypeRule → Type 0
BreaksRule source length at r = Breaks at r (Source source length)

abbrev pub BreaksNoRule : SourceTree → (length : ℕ) → Type 0
BreaksNoRule source length = (at : ℕ) (r : TypeRule) → BreaksRule source length at r → ⊥

-- it is broken, and no rule is broken before it, or at the same offset with a lesser number
pub record IsLeastBroken (source : SourceTree) (length at : ℕ) (r : TypeRule) : Type 0 where
  pub broken : BreaksRule source length at r
  pub least : (other : ℕ) (s : TypeRule) → BreaksRule source length other s → (at < other) ⊎ ((at ≡ other) × (number_of r ≤ number_of s))
