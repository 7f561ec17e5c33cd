-- The faults that a value, a name or a step of the checker has itself, as broken rules.
use Rattle.std.proofs.Common.{◌≡◌, refl, ap, ◌∙◌, ℕ, ℤ, pos, negsuc, zero, suc, Bool, true, false, not, ◌&&◌, ◌||◌, if◌then◌else◌, List, [], ◌∷◌, ◌++◌, Option, Some, None}
use Rattle.std.specs.Prelude.{is_some, nat_eq}
use Rattle.std.specs.Map.{lookup}
use Rattle.std.proofs.lemmas.List.{append-nil}
use Rattle.apply_options.specs.declared.reduction.Reduction.{Reduction}
use Rattle.syntax.specs.Terminals.{Identifier}
use Rattle.syntax.specs.SourceTrees.{InitialTree}
use Rattle.typed_tree.specs.declared.statement.ApplyEnds.{ApplyEnds}
use Rattle.typed_tree.specs.declared.statement.SetValue.TheVariants as set
use Rattle.typed_tree.specs.declared.expression.Endpoint.{Endpoint}
use Rattle.typed_tree.specs.declared.expression.VarRef.{VarRef}
use Rattle.typed_tree.specs.declared.program.InitialValue.{InitialValue}
use Rattle.typed_tree.specs.declared.program.InitialValue.TheVariants as beginning
use Rattle.typed_tree.specs.BlockTree.{StatementKindTree, BlockTree}
use Rattle.typed_tree.specs.IntExpressionTree.{IntExpressionTree}
use Rattle.expression_types.specs.declared.fault.Fault.{Fault}
use Rattle.expression_types.specs.declared.fault.TypeRule.{TypeRule}
use Rattle.expression_types.specs.declared.fault.TypeRule.TheVariants as rule
use Rattle.expression_types.specs.declared.scope.Entity.{Entity}
use Rattle.expression_types.specs.declared.scope.Entity.TheVariants as entity
use Rattle.expression_types.specs.declared.scope.Inside.{Inside}
use Rattle.expression_types.specs.declared.scope.Inside.TheVariants as inside
use Rattle.expression_types.specs.Expression.{as_vector}
use Rattle.expression_types.specs.ScopeTree.{found, ScopeTree, declared_over}
use Rattle.expression_types.specs.ValueTree.{ValueTree, Integer, Condition, Vertex, Set, ErrorValue, condition_reads_entry, entity_set, named_vector, reads_entry}
use Rattle.expression_types.specs.Faults.{WithFaults, fault_at, sure, ◌>>=◌}
use Rattle.initializer_types.specs.Checker.{CheckerTree, declared_in, with_label, new_label, condition_wanted, as_index, integer_wanted, as_members, no_index}
use Rattle.types.specs.Declaration.{begins, literal_or_fault, wanted}
use Rattle.initializer_types.specs.Initial.{ApplyEndTree, InitializerTree, Typed, Members, Loaded, Degrees, ErrorInitializer, edge_function, ends_given, filter_function, filtered_by, initializer_condition}
use Rattle.initializer_types.specs.Initial.{initializer_integer, initializer_members, is_degrees, is_edges, is_error_end, is_sound, is_wrong, lacks_weights, loaded, initial_modified, modified_by, names_error}
use Rattle.initializer_types.specs.Initial.{new_set, of_edges, vector_of, vertex_function, writes_vector, filtered_set}
use Rattle.initializer_types.specs.DeclarationForms.{literal_integer}
use Rattle.types.specs.Program.{main_of}
use Rattle.types.specs.Statement.{no_action, added_to_set, applied, assigned, edges_applied, printed, reduced, set_applied, vertices_applied}
use Rattle.types.specs.Step.{assigned_step, at_own, may_reduce, may_set, one_reduction, reduced_as, reduced_step, same_endpoint, same_reduction, written_at, written_with}
use Rattle.type_laws.specs.BrokenRules.{may_add, applies, assigns_in_function, assigns_in_main, gives_bool, gives_int, gives_set, is_edge_function, is_filter, is_unit_weight, is_zero, may_be_bool}
use Rattle.type_laws.specs.BrokenRules.{may_be_int, may_be_set, may_be_written, mixes, modifies, reduced_otherwise, reduces}
use Rattle.type_laws.specs.ExpressionRules.{holds_entry}
use Rattle.type_laws.specs.SourceParts.{NewName}
use Rattle.type_laws.proofs.SplitFaults.{faults}

-- a fault if a rule is broken
abbrev pub fault_if : ℕ → TypeRule → Bool → List Fault
fault_if at r b = if b then record { at = at; rule = r } ∷ [] else []

-- of two rules, by their numbers
abbrev pub faults_if : ℕ → (one other : TypeRule) → Bool → Bool → List Fault
faults_if at r s a b = if a then record { at = at; rule = r } ∷ fault_if at s b else fault_if at s b

-- values
pub as_integer_own : (at : ℕ) (v : ValueTree) → (integer_wanted at v).faults ≡ fault_if at rule.WrongType (not (may_be_int v))
as_integer_own at (Integer e) = refl
as_integer_own at (Condition c) = refl
as_integer_own at (Vertex p) = refl
as_integer_own at (Set slot) = refl
as_integer_own at ErrorValue = refl

pub as_condition_own : (at : ℕ) (v : ValueTree) → (condition_wanted at v).faults ≡ fault_if at rule.WrongType (not (may_be_bool v))
as_condition_own at (Integer e) = refl
as_condition_own at (Condition c) = refl
as_condition_own at (Vertex p) = refl
as_condition_own at (Set slot) = refl
as_condition_own at ErrorValue = refl

as_members_own : (at : ℕ) (v : ValueTree) → (as_members at v).faults ≡ fault_if at rule.WrongType (not (may_be_set v))
as_members_own at (Integer e) = refl
as_members_own at (Condition c) = refl
as_members_own at (Vertex p) = refl
as_members_own at (Set slot) = refl
as_members_own at ErrorValue = refl

unread_own : (at : ℕ) (e : IntExpressionTree) (reads : Bool) → (if reads then fault_at at rule.WrongIndex None else sure (Some e)).faults ≡ fault_if at rule.WrongIndex reads
unread_own at e true = refl
unread_own at e false = refl

no_index_own : (at : ℕ) (reads : Bool) → (no_index at reads).faults ≡ faults_if at rule.WrongType rule.WrongIndex true reads
no_index_own at true = refl
no_index_own at false = refl

pub as_index_own : (at : ℕ) (v : ValueTree) → (as_index at v).faults ≡ faults_if at rule.WrongType rule.WrongIndex (not (may_be_int v)) (holds_entry v)
as_index_own at (Integer e) = unread_own at e (reads_entry e)
as_index_own at (Condition c) = no_index_own at (condition_reads_entry c)
as_index_own at (Vertex p) = refl
as_index_own at (Set slot) = refl
as_index_own at ErrorValue = refl

at_own_own : (at : ℕ) (own : Bool) → (at_own at own).faults ≡ fault_if at rule.WrongIndex (not own)
at_own_own at true = refl
at_own_own at false = refl

pub written_own : (at : ℕ) (own : Endpoint) (v : ValueTree) → (written_at at own v).faults ≡ fault_if at rule.WrongIndex (not (may_be_written own v))
written_own at own (Integer e) = refl
written_own at own (Condition c) = refl
written_own at own (Vertex p) = at_own_own at (same_endpoint p own)
written_own at own (Set slot) = refl
written_own at own ErrorValue = refl

pub printed_own : (at : ℕ) (v : ValueTree) → (printed at v).faults ≡ fault_if at rule.WrongType (not (may_be_int v || may_be_bool v))
printed_own at (Integer e) = refl
printed_own at (Condition c) = refl
printed_own at (Vertex p) = refl
printed_own at (Set slot) = refl
printed_own at ErrorValue = refl

-- initial values
pub integer_given : (at : ℕ) (x : InitializerTree) → (initializer_integer at x).faults ≡ fault_if at rule.WrongType (not (gives_int x))
integer_given at (Typed v) = as_integer_own at v
integer_given at (Members s) = refl
integer_given at Loaded = refl
integer_given at Degrees = refl
integer_given at ErrorInitializer = refl

pub condition_given : (at : ℕ) (x : InitializerTree) → (initializer_condition at x).faults ≡ fault_if at rule.WrongType (not (gives_bool x))
condition_given at (Typed v) = as_condition_own at v
condition_given at (Members s) = refl
condition_given at Loaded = refl
condition_given at Degrees = refl
condition_given at ErrorInitializer = refl

pub members_given : (at : ℕ) (x : InitializerTree) → (initializer_members at x).faults ≡ fault_if at rule.WrongType (not (gives_set x))
members_given at (Typed v) = as_members_own at v
members_given at (Members s) = refl
members_given at Loaded = refl
members_given at Degrees = refl
members_given at ErrorInitializer = refl

pub new_set_own : (at : ℕ) (size : ℤ) → (new_set at size).faults ≡ fault_if at rule.WrongType (not (is_zero size))
new_set_own at (pos zero) = refl
new_set_own at (pos (suc n)) = refl
new_set_own at (negsuc n) = refl

pub loaded_own : (at : ℕ) (argument : ℤ) → (loaded at argument).faults ≡ fault_if at rule.WrongType (not (is_unit_weight argument))
loaded_own at (pos zero) = refl
loaded_own at (pos (suc zero)) = refl
loaded_own at (pos (suc (suc n))) = refl
loaded_own at (negsuc n) = refl

pub of_edges_own : (at : ℕ) (x : InitializerTree) (e : Entity) → (of_edges at x e).faults ≡ fault_if at rule.WrongType (not ((names_error e || false) || is_edges e))
of_edges_own at x entity.Error = refl
of_edges_own at x _ = refl

filtered_by_own : (at : ℕ) (s : Option VarRef) (f : Option ℕ) → (filtered_by at s f).faults ≡ fault_if at rule.WrongType (not (is_some s && is_some f))
filtered_by_own at None f = refl
filtered_by_own at (Some slot) None = refl
filtered_by_own at (Some slot) (Some index) = refl

filtered_if : (at : ℕ) (a b fits : Bool) (m : WithFaults InitializerTree) → m.faults ≡ fault_if at rule.WrongType (not fits)
    → (if a || b then sure ErrorInitializer else m).faults ≡ fault_if at rule.WrongType (not ((a || (b || false)) || fits))
filtered_if at true b fits m is = refl
filtered_if at false true fits m is = refl
filtered_if at false false fits m is = is

pub filtered_own : (at : ℕ) (s f : Entity)
    → (filtered_set at s f).faults ≡ fault_if at rule.WrongType (not ((names_error s || (names_error f || false)) || (is_some (entity_set s) && is_some (filter_function f))))
filtered_own at s f = filtered_if at (names_error s) (names_error f) (is_some (entity_set s) && is_some (filter_function f)) (filtered_by at (entity_set s) (filter_function f))
    (filtered_by_own at (entity_set s) (filter_function f))

written_if : (at : ℕ) (x : InitializerTree) (b : Bool) → (if b then sure x else fault_at at rule.WrongType ErrorInitializer).faults ≡ fault_if at rule.WrongType (not b)
written_if at x true = refl
written_if at x false = refl

modified_by_own : (c : CheckerTree) (at : ℕ) (sides : ApplyEnds) (f v : Option ℕ) → (modified_by c at sides f v).faults ≡ fault_if at rule.WrongType (not (modifies c.written f v))
modified_by_own c at sides None v = refl
modified_by_own c at sides (Some function) None = refl
modified_by_own c at sides (Some function) (Some vector) = written_if at (Members (set.Modified sides function vector)) (writes_vector c.written function vector)

modified_if : (at : ℕ) (faulty edges wrong fits : Bool) (m : WithFaults InitializerTree) → m.faults ≡ fault_if at rule.WrongType (not fits)
    → (if faulty then sure ErrorInitializer else (if edges then (if wrong then fault_at at rule.WrongType ErrorInitializer else m) else fault_at at rule.WrongType ErrorInitializer)).faults
    ≡ fault_if at rule.WrongType (not (faulty || (edges && (not wrong && fits))))
modified_if at true edges wrong fits m is = refl
modified_if at false true true fits m is = refl
modified_if at false true false fits m is = is
modified_if at false false wrong fits m is = refl

pub modified_own : (c : CheckerTree) (at : ℕ) (e : Entity) (a b : ApplyEndTree) (f v : Entity) (faulty : Bool)
    → (names_error e || is_error_end a || is_error_end b || names_error f || names_error v) ≡ faulty
    → (initial_modified c at e a b f v).faults ≡ fault_if at rule.WrongType (not (faulty
    || (is_edges e && (not (is_wrong a || is_wrong b || lacks_weights e f) && modifies c.written (edge_function f) (vector_of v)))))
modified_own c at e a b f v faulty is =
    let m = modified_by c at (ends_given a b) (edge_function f) (vector_of v) in
    let fits = modifies c.written (edge_function f) (vector_of v) in
    let wrong = is_wrong a || is_wrong b || lacks_weights e f in
    modified_if at (names_error e || is_error_end a || is_error_end b || names_error f || names_error v) (is_edges e) wrong fits m
    (modified_by_own c at (ends_given a b) (edge_function f) (vector_of v))
    ∙ ap (λ b. fault_if at rule.WrongType (not (b || (is_edges e && (not wrong && fits))))) is

-- assigned, reduced and other names
assigned_some : (fs wanted : List Fault) → fs ≡ wanted → fs ++ [] ≡ wanted
assigned_some fs wanted is = append-nil fs ∙ is

pub assigned_own : (at : ℕ) (x : InitializerTree) (e : Entity) → (assigned at x e).faults ≡ fault_if at rule.WrongType (not (assigns_in_main e x))
assigned_own at x (entity.IntVariable slot) = assigned_some (initializer_integer at x).faults _ (integer_given at x)
assigned_own at x (entity.BoolVariable slot) = assigned_some (initializer_condition at x).faults _ (condition_given at x)
assigned_own at x (entity.SetVariable slot) = assigned_some (initializer_members at x).faults _ (members_given at x)
assigned_own at x _ = refl

pub assigned_step_own : (at : ℕ) (x : InitializerTree) (e : Entity) → (assigned_step at x e).faults ≡ fault_if at rule.WrongType (not (assigns_in_function e x))
assigned_step_own at x (entity.IntVariable slot) = assigned_some (initializer_integer at x).faults _ (integer_given at x)
assigned_step_own at x (entity.BoolVariable slot) = assigned_some (initializer_condition at x).faults _ (condition_given at x)
assigned_step_own at x _ = refl

pub reduced_own : (at : ℕ) (by : Reduction) (v : ValueTree) (e : Entity) → (reduced at by v e).faults ≡ fault_if at rule.WrongType (not (reduces e v))
reduced_own at by v (entity.IntVariable slot) = assigned_some (integer_wanted at v).faults _ (as_integer_own at v)
reduced_own at by v _ = refl

pub reduced_step_own : (at : ℕ) (by : Reduction) (v : ValueTree) (e : Entity) → (reduced_step at by v e).faults ≡ fault_if at rule.WrongType (not (reduces e v))
reduced_step_own at by v (entity.IntVariable slot) = assigned_some (integer_wanted at v).faults _ (as_integer_own at v)
reduced_step_own at by v _ = refl

pub added_own : (at : ℕ) (v : ValueTree) (e : Entity) → (added_to_set at v e).faults ≡ fault_if at rule.WrongType (not (may_add e v))
added_own at v (entity.SetVariable slot) = assigned_some (integer_wanted at v).faults _ (as_integer_own at v)
added_own at v _ = refl

pub as_vector_own : (at : ℕ) (e : Entity) → (as_vector at e).faults ≡ fault_if at rule.WrongType (not (names_error e || is_some (named_vector e)))
as_vector_own at entity.Error = refl
as_vector_own at _ = refl

-- applies
edges_some : (x y : StatementKindTree) (at : ℕ) (faulty error : Bool) → (if faulty then sure x else sure y).faults ≡ fault_if at rule.WrongType (not (error || true))
edges_some x y at true true = refl
edges_some x y at true false = refl
edges_some x y at false true = refl
edges_some x y at false false = refl

edges_own : (at : ℕ) (a b : ApplyEndTree) (error : Bool) (f : Option ℕ) → (edges_applied at a b error f).faults ≡ fault_if at rule.WrongType (not (error || is_some f))
edges_own at a b true None = refl
edges_own at a b false None = refl
edges_own at a b error (Some function) = edges_some _ _ at (is_error_end a || is_error_end b) error

vertices_own : (at : ℕ) (slot : VarRef) (error : Bool) (f : Option ℕ) → (vertices_applied at slot error f).faults ≡ fault_if at rule.WrongType (not (error || is_some f))
vertices_own at slot true None = refl
vertices_own at slot false None = refl
vertices_own at slot true (Some function) = refl
vertices_own at slot false (Some function) = refl

set_if : (at : ℕ) (has fits : Bool) (m : WithFaults StatementKindTree) → m.faults ≡ fault_if at rule.WrongType (not fits)
    → (if has then fault_at at rule.WrongType no_action else m).faults ≡ fault_if at rule.WrongType (not (not has && fits))
set_if at true fits m is = refl
set_if at false fits m is = is

set_own : (at : ℕ) (has : Bool) (f : Entity) (s : Option VarRef)
    → (set_applied at has f s).faults ≡ fault_if at rule.WrongType (not (is_some s && (not has && (names_error f || is_some (vertex_function f)))))
set_own at has f None = refl
set_own at has f (Some slot) =
    set_if at has (names_error f || is_some (vertex_function f)) (vertices_applied at slot (names_error f) (vertex_function f)) (vertices_own at slot (names_error f) (vertex_function f))

applied_if : (at : ℕ) (faulty edges wrong fits set_fits : Bool) (m n : WithFaults StatementKindTree) → m.faults ≡ fault_if at rule.WrongType (not fits)
    → n.faults ≡ fault_if at rule.WrongType (not set_fits)
    → (if faulty then sure no_action else (if edges then (if wrong then fault_at at rule.WrongType no_action else m) else n)).faults
    ≡ fault_if at rule.WrongType (not (faulty || (if edges then not wrong && fits else set_fits)))
applied_if at true edges wrong fits set_fits m n one other = refl
applied_if at false true true fits set_fits m n one other = refl
applied_if at false true false fits set_fits m n one other = one
applied_if at false false wrong fits set_fits m n one other = other

pub applied_own : (at : ℕ) (t : Entity) (a b : ApplyEndTree) (has : Bool) (f : Entity) → (applied at t a b has f).faults ≡ fault_if at rule.WrongType (not (applies t a b has f))
applied_own at t a b has f =
    applied_if at (names_error t) (is_edges t) (is_wrong a || is_wrong b || lacks_weights t f) (names_error f || is_some (edge_function f))
    (is_some (entity_set t) && (not has && (names_error f || is_some (vertex_function f)))) (edges_applied at a b (names_error f) (edge_function f)) (set_applied at has f (entity_set t))
    (edges_own at a b (names_error f) (edge_function f)) (set_own at has f (entity_set t))

-- declared names and labels
declared_same : (o : Option Entity) (name : Identifier) (e other : Entity) (scope : ScopeTree) → (declared_over o name e scope).faults ++ [] ≡ (declared_over o name other scope).faults
declared_same None name e other scope = refl
declared_same (Some old) name e other scope = refl

pub declares : (c : CheckerTree) (name : Identifier) (e : Entity) → (declared_in c name e).faults ≡ faults (NewName c.scope name)
declares c name e = declared_same (found name.bytes c.scope.visible) name e entity.Error c.scope

declared_over_own : (o : Option Entity) (name : Identifier) (e : Entity) (scope : ScopeTree) → (declared_over o name e scope).faults ≡ fault_if name.at rule.Redeclared (is_some o)
declared_over_own None name e scope = refl
declared_over_own (Some old) name e scope = refl

pub declared_own : (scope : ScopeTree) (name : Identifier) → faults (NewName scope name) ≡ fault_if name.at rule.Redeclared (is_some (found name.bytes scope.visible))
declared_own scope name = declared_over_own (found name.bytes scope.visible) name entity.Error scope

new_label_own : (c : CheckerTree) (label : Identifier) (o : Option ℕ) → (new_label c label o).faults ≡ fault_if label.at rule.BadLabel (is_some o)
new_label_own c label None = refl
new_label_own c label (Some index) = refl

pub label_own : (c : CheckerTree) (label : Identifier) → (with_label c (Some label)).faults ≡ fault_if label.at rule.BadLabel (is_some (found label.bytes c.labels))
label_own c label = new_label_own c label (found label.bytes c.labels)

-- written entries of functions
pub may_set_own : (at : ℕ) (i : Inside) → (may_set at i).faults ≡ faults_if at rule.WrongType rule.NotReduction (not (not (is_filter i))) (is_edge_function i)
may_set_own at inside.Main = refl
may_set_own at inside.EdgeFunction = refl
may_set_own at inside.VertexFunction = refl
may_set_own at inside.Filter = refl

reduced_as_own : (at : ℕ) (same : Bool) (writes : List (ℕ × Reduction)) → (reduced_as at same writes).faults ≡ fault_if at rule.MixedReductions (not same)
reduced_as_own at true writes = refl
reduced_as_own at false writes = refl

written_with_own : (at vector : ℕ) (by : Reduction) (writes : List (ℕ × Reduction)) (first : Option Reduction)
    → (written_with at vector by writes first).faults ≡ fault_if at rule.MixedReductions (reduced_otherwise first by)
written_with_own at vector by writes None = refl
written_with_own at vector by writes (Some first) = reduced_as_own at (same_reduction first by) writes

one_reduction_own : (at : ℕ) (vector : Option ℕ) (by : Reduction) (writes : List (ℕ × Reduction))
    → (one_reduction at vector by writes).faults ≡ fault_if at rule.MixedReductions (mixes writes vector by)
one_reduction_own at None by writes = refl
one_reduction_own at (Some vector) by writes = written_with_own at vector by writes (lookup (nat_eq vector) writes)

pub may_reduce_own : (at : ℕ) (i : Inside) (vector : Option ℕ) (by : Reduction) (writes : List (ℕ × Reduction))
    → (may_reduce at i vector by writes).faults ≡ faults_if at rule.WrongType rule.MixedReductions (not (not (is_filter i))) (is_edge_function i && mixes writes vector by)
may_reduce_own at inside.Main vector by writes = refl
may_reduce_own at inside.EdgeFunction vector by writes = one_reduction_own at vector by writes
may_reduce_own at inside.VertexFunction vector by writes = refl
may_reduce_own at inside.Filter vector by writes = refl

-- constants
pub literal_own : {A : Type 0} (at : ℕ) (sound : Bool) (other : A) (o : Option A) → (literal_or_fault at sound other o).faults ≡ fault_if at rule.WrongType (not (is_some o || not sound))
literal_own at true other (Some x) = refl
literal_own at false other (Some x) = refl
literal_own at true other None = refl
literal_own at false other None = refl

pub wanted_own : (at : ℕ) (b : Bool) → (wanted at b).faults ≡ fault_if at rule.WrongType (not b)
wanted_own at true = refl
wanted_own at false = refl

begins_if : (at : ℕ) (degrees fits : Bool) (x : InitialValue) (m : WithFaults ℤ) → m.faults ≡ fault_if at rule.WrongType (not fits)
    → (if degrees then sure x else (m >>= λ n. sure (beginning.Number n))).faults ≡ fault_if at rule.WrongType (not (degrees || fits))
begins_if at true fits x m is = refl
begins_if at false fits x m is = append-nil m.faults ∙ is

pub begins_own : (at : ℕ) (x : InitializerTree) (initial : InitialTree)
    → (begins at x initial).faults ≡ fault_if at rule.WrongType (not (is_degrees x || (is_some (literal_integer initial) || not (is_sound x))))
begins_own at x initial =
    begins_if at (is_degrees x) (is_some (literal_integer initial) || not (is_sound x)) beginning.OutDegrees (literal_or_fault at (is_sound x) (pos 0) (literal_integer initial))
    (literal_own at (is_sound x) (pos 0) (literal_integer initial))

pub main_own : (length : ℕ) (o : Option BlockTree) → (main_of length o).faults ≡ fault_if length rule.NoMain (not (is_some o))
main_own length None = refl
main_own length (Some main) = refl
