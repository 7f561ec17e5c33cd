-- A source without a fault keeps the rules.
use Rattle.std.proofs.Common.{◌≡◌, refl, sym, ap, ◌∙◌, ℕ, zero, suc, ℤ, pos, negsuc, Bool, true, false, not, ◌||◌, ◌&&◌, if◌then◌else◌, List, [], ◌∷◌, ◌++◌, length, Option, Some, None}
use Rattle.std.specs.Prelude.{IsSome, is_some}
use Rattle.std.specs.List.{AllByRecursion}
use Rattle.std.specs.Str.{bytes_eq}
use Rattle.std.proofs.lemmas.Slice.Eq.{bytes_eq-Decides}
use Rattle.syntax.specs.Terminals.{Identifier}
use Rattle.syntax.specs.SourceTrees as source
use Rattle.syntax.specs.SourceTrees.{DeclarationTree, InitialTree, ParameterTree, SourceTree}
use Rattle.syntax.specs.declared.declaration.DeclaredType.{DeclaredType}
use Rattle.syntax.specs.declared.declaration.DeclaredType.TheVariants as declared
use Rattle.typed_tree.specs.declared.expression.Endpoint.{Endpoint}
use Rattle.typed_tree.specs.declared.expression.Endpoint.TheVariants as endpoint
use Rattle.typed_tree.specs.declared.expression.VarRef.{VarRef}
use Rattle.typed_tree.specs.declared.program.InitialValue.TheVariants as beginning
use Rattle.typed_tree.specs.declared.statement.ApplyEnds.{ApplyEnds}
use Rattle.typed_tree.specs.declared.statement.SetValue.TheVariants as set
use Rattle.typed_tree.specs.BlockTree.{BlockTree, Empty}
use Rattle.typed_tree.specs.FunctionStatementTree.{NoStep}
use Rattle.expression_types.specs.declared.fault.TypeRule.TheVariants as rule
use Rattle.expression_types.specs.declared.scope.Entity.{Entity}
use Rattle.expression_types.specs.declared.scope.Entity.TheVariants as entity
use Rattle.expression_types.specs.declared.scope.Inside.{Inside}
use Rattle.expression_types.specs.declared.scope.Inside.TheVariants as inside
use Rattle.expression_types.specs.Expression.{used_name, value_of}
use Rattle.expression_types.specs.ValueTree as value
use Rattle.expression_types.specs.ValueTree.{ValueTree, is_error, entity_set}
use Rattle.expression_types.specs.Faults.{WithFaults, fault_at, sure}
use Rattle.types.specs.Block.{statements_typed}
use Rattle.initializer_types.specs.Checker.{CheckerTree, condition_slot, declared_in, restarted, in_scope}
use Rattle.initializer_types.specs.DeclarationForms.{EdgeKind, FilterKind, MainKind, NoKind, VertexKind, is_bool_type, is_vertex_type, kind_of, main_bytes, takes_nothing, is_int_type}
use Rattle.types.specs.Declaration.{DeclaredTree, begins, declaration_typed, declarations_typed, declare_constant_as, declare_function}
use Rattle.types.specs.Declaration.{declare_name, has_all, literal_or_fault, loads, main_declared, next_name, only_edges, opened, parameter, steps_declared, wanted}
use Rattle.initializer_types.specs.Initial as initial_value
use Rattle.initializer_types.specs.Initial.{ApplyEndTree, Degrees, ErrorInitializer, InitializerTree, Loaded, apply_end_of, edge_function, ends_given, filter_function, filtered_set, filtered_by, initializer_of}
use Rattle.initializer_types.specs.Initial.{is_all, is_degrees, is_edges, is_error_end, is_loaded, is_sound, is_wrong, loaded, initial_modified, modified_by, names_error, new_set, of_edges, vector_of}
use Rattle.initializer_types.specs.Initial.{writes_vector, lacks_weights}
use Rattle.initializer_types.specs.DeclarationForms.{literal_condition, literal_integer}
use Rattle.types.specs.Program.{main_of, no_declarations, program_of, set_count}
use Rattle.types.specs.Step.{steps_typed}
use Rattle.type_laws.specs.ExpressionTypes.{ExpressionType, Number, Set, Truth, Vertex}
use Rattle.type_laws.specs.KeptRules.{ConstantKeeps, DeclarationKeeps, Declarations, DeclarationsKeep, FunctionKeeps, KeepsRules, MainKeeps, after_declaration, after_function, after_main}
use Rattle.type_laws.specs.KeptRules.{constant_meaning, known_at_vertex, known_in_filter, known_in_main, known_on_edge, nothing_declared, known_on_weighted_edge, BlockKeeps}
use Rattle.type_laws.specs.Meanings as meaning
use Rattle.type_laws.specs.Meanings.{IsNew, Known, closed_known, known_after, with_meaning}
use Rattle.type_laws.proofs.Booleans.{false_is_not_true}
use Rattle.type_laws.proofs.Faultless.{no_left, no_right, not_empty}
use Rattle.type_laws.proofs.MainFunction.{MainTakesNothing, mains_take_nothing}
use Rattle.type_laws.proofs.TypedExpressions.{IsOf}
use Rattle.type_laws.proofs.KnownDeclarations.{int_type}
use Rattle.type_laws.proofs.KeptDeclarations.{Agrees, CheckerAgrees, as_matches}
use Rattle.type_laws.proofs.KeptSources.{begun, begun_matches, declaration_kept, edge_opens, filter_opens, left_agrees, parameter_opens, vertex_opens, Opens, weighted_edge_opens}
use Rattle.type_laws.proofs.KeptStatements.{statements_kept}
use Rattle.type_laws.proofs.KeptSteps.{steps_kept}
use Rattle.type_laws.proofs.FaultlessInitials as means_something
use Rattle.type_laws.proofs.FaultlessInitials.{AreMembers, AreSome, Gives, Sees, initial_gives, more_some, value_typed}
use Rattle.type_laws.proofs.FaultlessStatements.{declares_new, statements_keep}
use Rattle.type_laws.proofs.FaultlessSteps.{steps_keep}

pub record SeesAll (d : DeclaredTree) (k : Declarations) : Type 0 where
  pub agrees : Agrees d k
  pub some : AreSome k.known.names

-- between declarations
checker_sees : (c : CheckerTree) (k : Known) → CheckerAgrees c k → AreSome k.names → Sees inside.Main c (record k { reduced = c.writes })
checker_sees c k a some = record { matches = as_matches c k a; some = some }

name_is_new : (c : CheckerTree) (k : Known) → CheckerAgrees c k → AreSome k.names → (name : Identifier) (e : Entity) → (declared_in c name e).faults ≡ [] → IsNew k name
name_is_new c k a some name e none = declares_new inside.Main c (record k { reduced = c.writes }) (checker_sees c k a some) name e none

constant_is_new : (d : DeclaredTree) (k : Declarations) → SeesAll d k → (name : Identifier) (e : Entity) → (declare_name d name e).faults ≡ [] → IsNew k.known name
constant_is_new d k s name e none = name_is_new d.checker k.known s.agrees.checker s.some name e (no_left (declared_in d.checker name e).faults [] none)

-- an initial value without a fault has no faulty part
typed_sound : (type : ExpressionType) (v : ValueTree) → IsOf type v → not (is_error v) ≡ true
typed_sound type (value.Integer e) is = refl
typed_sound type (value.Condition c) is = refl
typed_sound type (value.Vertex p) is = refl
typed_sound type (value.Set slot) is = refl
typed_sound Number value.ErrorValue is = absurd is
typed_sound Truth value.ErrorValue is = absurd is
typed_sound (Vertex p) value.ErrorValue is = absurd is
typed_sound Set value.ErrorValue is = absurd is

members_sound : (g : InitializerTree) → AreMembers g → is_sound g ≡ true
members_sound (initial_value.Members m) are = refl
members_sound (initial_value.Typed v) are = absurd are
members_sound Loaded are = absurd are
members_sound Degrees are = absurd are
members_sound ErrorInitializer are = absurd are

given_sound : (c : CheckerTree) (k : Known) → Sees inside.Main c k → (at : ℕ) (initial : InitialTree) → (initializer_of c at initial).faults ≡ [] → is_sound (initializer_of c at initial).value ≡ true
given_sound c k s at initial none = at_initial initial (initializer_of c at initial).value (initial_gives inside.Main c k s at initial none)
  where
    at_initial : (initial : InitialTree) (g : InitializerTree) → Gives inside.Main c k at initial g → is_sound g ≡ true
    at_initial (source.NewSet size) g is = members_sound g is.1
    at_initial (source.Load argument) g is = ap is_sound is.1
    at_initial (source.Vertices edges) g is = ap is_sound is.1
    at_initial (source.OutDegrees edges) g is = ap is_sound is.1
    at_initial (source.Filter s f) g is = members_sound g is.1
    at_initial (source.ApplyModified edges ends f v) g is = members_sound g is.1
    at_initial (source.Value e) g is =
        let t = value_typed inside.Main c k s at e is.0 in ap is_sound is.1 ∙ typed_sound t.type (value_of c.scope at e).value t.is

-- what an initial value is not
abbrev Plain : InitializerTree → Type 0
Plain g = (is_all g ≡ false) × (is_loaded g ≡ false) × (is_degrees g ≡ false)

new_set_plain : (at : ℕ) (size : ℤ) → Plain (new_set at size).value
new_set_plain at (pos zero) = (refl, refl, refl)
new_set_plain at (pos (suc n)) = (refl, refl, refl)
new_set_plain at (negsuc n) = (refl, refl, refl)

if_plain : (b : Bool) (x y : WithFaults InitializerTree) → Plain x.value → Plain y.value → Plain (if b then x else y).value
if_plain true x y first second = first
if_plain false x y first second = second

filtered_by_plain : (at : ℕ) (s : Option VarRef) (f : Option ℕ) → Plain (filtered_by at s f).value
filtered_by_plain at None f = (refl, refl, refl)
filtered_by_plain at (Some slot) None = (refl, refl, refl)
filtered_by_plain at (Some slot) (Some index) = (refl, refl, refl)

filtered_plain : (at : ℕ) (s f : Entity) → Plain (filtered_set at s f).value
filtered_plain at s f =
    if_plain (names_error s || names_error f) (sure ErrorInitializer) (filtered_by at (entity_set s) (filter_function f)) (refl, refl, refl) (filtered_by_plain at (entity_set s) (filter_function f))

modified_by_plain : (c : CheckerTree) (at : ℕ) (ends : ApplyEnds) (f v : Option ℕ) → Plain (modified_by c at ends f v).value
modified_by_plain c at ends None v = (refl, refl, refl)
modified_by_plain c at ends (Some function) None = (refl, refl, refl)
modified_by_plain c at ends (Some function) (Some vector) =
    if_plain (writes_vector c.written function vector) (sure (initial_value.Members (set.Modified ends function vector))) (fault_at at rule.WrongType ErrorInitializer) (refl, refl, refl)
    (refl, refl, refl)

modified_plain : (c : CheckerTree) (at : ℕ) (e : Entity) (a b : ApplyEndTree) (f v : Entity) → Plain (initial_modified c at e a b f v).value
modified_plain c at e a b f v =
    let inner = if is_wrong a || is_wrong b || lacks_weights e f then fault_at at rule.WrongType ErrorInitializer else modified_by c at (ends_given a b) (edge_function f) (vector_of v) in
    if_plain (names_error e || is_error_end a || is_error_end b || names_error f || names_error v) (sure ErrorInitializer) (if is_edges e then inner else fault_at at rule.WrongType ErrorInitializer)
    (refl, refl, refl)
    (if_plain (is_edges e) inner (fault_at at rule.WrongType ErrorInitializer)
    (if_plain (is_wrong a || is_wrong b || lacks_weights e f) (fault_at at rule.WrongType ErrorInitializer) (modified_by c at (ends_given a b) (edge_function f) (vector_of v)) (refl, refl, refl)
    (modified_by_plain c at (ends_given a b) (edge_function f) (vector_of v))) (refl, refl, refl))

-- a constant
literal_is : {A : Type 0} (at : ℕ) (sound : Bool) (other : A) (o : Option A) → sound ≡ true → (literal_or_fault at sound other o).faults ≡ [] → IsSome o
literal_is at sound other (Some x) is none = refl
literal_is at true other None is none = absurd (not_empty _ _ none)
literal_is at false other None is none = absurd cc

wanted_is : (at : ℕ) (sound b : Bool) → sound ≡ true → (wanted at (not sound || b)).faults ≡ [] → b ≡ true
wanted_is at true true is none = refl
wanted_is at true false is none = absurd (not_empty _ _ none)
wanted_is at false b is none = absurd cc

never : (b : Bool) → b ≡ false → b ≡ true → ⊥
never b first second = cc

only_first : (name : Identifier) (index : ℕ) (o : Option ℕ) → (only_edges name index o).faults ≡ [] → is_some o ≡ false
only_first name index None none = refl
only_first name index (Some x) none = absurd (not_empty _ _ none)

vertices_wanted : (d : DeclaredTree) (k : Declarations) → SeesAll d k → (at : ℕ) (initial : InitialTree) → (initializer_of d.checker at initial).faults ≡ []
    → is_all (initializer_of d.checker at initial).value ≡ true
    → ConstantKeeps k declared.VertexSet initial
vertices_wanted d k s at (source.Vertices edges) none all =
    (initial_gives inside.Main d.checker (record k.known { reduced = d.checker.writes }) (checker_sees d.checker k.known s.agrees.checker s.some) at (source.Vertices edges) none).0
vertices_wanted d k s at (source.NewSet size) none all = never (is_all (new_set at size).value) (new_set_plain at size).0 all
vertices_wanted d k s at (source.Load argument) none all =
    never (is_all (loaded at argument).value)
    (ap is_all (initial_gives inside.Main d.checker (record k.known { reduced = d.checker.writes }) (checker_sees d.checker k.known s.agrees.checker s.some) at (source.Load argument) none).1) all
vertices_wanted d k s at (source.OutDegrees edges) none all =
    never (is_all (initializer_of d.checker at (source.OutDegrees edges)).value)
    (ap is_all (initial_gives inside.Main d.checker (record k.known { reduced = d.checker.writes }) (checker_sees d.checker k.known s.agrees.checker s.some) at (source.OutDegrees edges) none).1) all
vertices_wanted d k s at (source.Filter x f) none all = never _ (filtered_plain at (used_name d.checker.scope x).value (used_name d.checker.scope f).value).0 all
vertices_wanted d k s at (source.ApplyModified edges ends f v) none all =
    never _ (modified_plain d.checker at (used_name d.checker.scope edges).value (apply_end_of d.checker.scope ends.from).value (apply_end_of d.checker.scope ends.to).value
    (used_name d.checker.scope f).value
    (used_name d.checker.scope v).value).0 all
vertices_wanted d k s at (source.Value e) none all = false_is_not_true all

-- the edges, where there were none
abbrev LoadsFirst : Declarations → InitialTree → Type 0
LoadsFirst k (source.Load argument) = (argument ≡ pos 1) × (k.edges ≡ false)
LoadsFirst k _ = ⊥

loaded_wanted : (d : DeclaredTree) (k : Declarations) → SeesAll d k → (at : ℕ) (initial : InitialTree) → (initializer_of d.checker at initial).faults ≡ []
    → is_loaded (initializer_of d.checker at initial).value ≡ true
    → k.edges ≡ false → LoadsFirst k initial
loaded_wanted d k s at (source.Load argument) none all before =
    ((initial_gives inside.Main d.checker (record k.known { reduced = d.checker.writes }) (checker_sees d.checker k.known s.agrees.checker s.some) at (source.Load argument) none).0, before)
loaded_wanted d k s at (source.NewSet size) none all before = never (is_loaded (new_set at size).value) (new_set_plain at size).1 all
loaded_wanted d k s at (source.Vertices edges) none all before =
    never (is_loaded (initializer_of d.checker at (source.Vertices edges)).value)
    (ap is_loaded (initial_gives inside.Main d.checker (record k.known { reduced = d.checker.writes }) (checker_sees d.checker k.known s.agrees.checker s.some) at (source.Vertices edges) none).1) all
loaded_wanted d k s at (source.OutDegrees edges) none all before =
    never (is_loaded (initializer_of d.checker at (source.OutDegrees edges)).value)
    (ap is_loaded (initial_gives inside.Main d.checker (record k.known { reduced = d.checker.writes }) (checker_sees d.checker k.known s.agrees.checker s.some) at
    (source.OutDegrees edges) none).1) all
loaded_wanted d k s at (source.Filter x f) none all before = never _ (filtered_plain at (used_name d.checker.scope x).value (used_name d.checker.scope f).value).1 all
loaded_wanted d k s at (source.ApplyModified edges ends f v) none all before =
    never _ (modified_plain d.checker at (used_name d.checker.scope edges).value (apply_end_of d.checker.scope ends.from).value (apply_end_of d.checker.scope ends.to).value
    (used_name d.checker.scope f).value
    (used_name d.checker.scope v).value).1 all
loaded_wanted d k s at (source.Value e) none all before = false_is_not_true all

-- a vector begins with a literal, where it does not begin with degrees
begins_literal : (at : ℕ) (given : InitializerTree) (initial : InitialTree) → is_sound given ≡ true → is_degrees given ≡ false → (begins at given initial).faults ≡ []
    → IsSome (literal_integer initial)
begins_literal at given initial sound plain none = at_degrees (is_degrees given) plain none
  where
    at_degrees : (b : Bool) → b ≡ false → (if b then sure beginning.OutDegrees else (record {
      faults = (literal_or_fault at (is_sound given) (pos 0) (literal_integer initial)).faults ++ [];
      value = beginning.Number (literal_or_fault at (is_sound given) (pos 0) (literal_integer initial)).value;
    })).faults ≡ [] → IsSome (literal_integer initial)
    at_degrees true plain none = absurd cc
    at_degrees false plain none = literal_is at (is_sound given) (pos 0) (literal_integer initial) sound
        (no_left (literal_or_fault at (is_sound given) (pos 0) (literal_integer initial)).faults [] none)

vector_wanted : (d : DeclaredTree) (k : Declarations) → SeesAll d k → (at : ℕ) (initial : InitialTree) → (initializer_of d.checker at initial).faults ≡ []
    → (begins at (initializer_of d.checker at initial).value initial).faults ≡ [] → ConstantKeeps k declared.Vector initial
vector_wanted d k s at (source.OutDegrees edges) none wanted = (initial_gives inside.Main d.checker (record k.known { reduced = d.checker.writes })
    (checker_sees d.checker k.known s.agrees.checker s.some) at (source.OutDegrees edges) none).0
vector_wanted d k s at (source.NewSet size) none wanted = begins_literal at (initializer_of d.checker at (source.NewSet size)).value (source.NewSet size)
    (given_sound d.checker (record k.known { reduced = d.checker.writes }) (checker_sees d.checker k.known s.agrees.checker s.some) at (source.NewSet size) none) (new_set_plain at size).2 wanted
vector_wanted d k s at (source.Load argument) none wanted = begins_literal at (initializer_of d.checker at (source.Load argument)).value (source.Load argument)
    (given_sound d.checker (record k.known { reduced = d.checker.writes }) (checker_sees d.checker k.known s.agrees.checker s.some) at (source.Load argument) none)
    (ap is_degrees (initial_gives inside.Main d.checker (record k.known { reduced = d.checker.writes }) (checker_sees d.checker k.known s.agrees.checker s.some) at
    (source.Load argument) none).1) wanted
vector_wanted d k s at (source.Vertices edges) none wanted = begins_literal at (initializer_of d.checker at (source.Vertices edges)).value (source.Vertices edges)
    (given_sound d.checker (record k.known { reduced = d.checker.writes }) (checker_sees d.checker k.known s.agrees.checker s.some) at (source.Vertices edges) none)
    (ap is_degrees (initial_gives inside.Main d.checker (record k.known { reduced = d.checker.writes }) (checker_sees d.checker k.known s.agrees.checker s.some) at
    (source.Vertices edges) none).1) wanted
vector_wanted d k s at (source.Filter x f) none wanted = begins_literal at (initializer_of d.checker at (source.Filter x f)).value (source.Filter x f)
    (given_sound d.checker (record k.known { reduced = d.checker.writes }) (checker_sees d.checker k.known s.agrees.checker s.some) at (source.Filter x f) none)
    (filtered_plain at (used_name d.checker.scope x).value (used_name d.checker.scope f).value).2 wanted
vector_wanted d k s at (source.ApplyModified edges ends f v) none wanted = begins_literal at (initializer_of d.checker at (source.ApplyModified edges ends f v)).value
    (source.ApplyModified edges ends f v) (given_sound d.checker (record k.known { reduced = d.checker.writes }) (checker_sees d.checker k.known s.agrees.checker s.some) at
    (source.ApplyModified edges ends f v) none) (modified_plain d.checker at (used_name d.checker.scope edges).value (apply_end_of d.checker.scope ends.from).value
    (apply_end_of d.checker.scope ends.to).value
    (used_name d.checker.scope f).value (used_name d.checker.scope v).value).2 wanted
vector_wanted d k s at (source.Value e) none wanted = begins_literal at (initializer_of d.checker at (source.Value e)).value (source.Value e)
    (given_sound d.checker (record k.known { reduced = d.checker.writes }) (checker_sees d.checker k.known s.agrees.checker s.some) at (source.Value e) none) refl wanted

loads_edges : (k : Declarations) (initial : InitialTree) → LoadsFirst k initial → ConstantKeeps k declared.EdgeSet initial
loads_edges k (source.Load argument) first = first
loads_edges k (source.NewSet size) first = absurd first
loads_edges k (source.Vertices edges) first = absurd first
loads_edges k (source.OutDegrees edges) first = absurd first
loads_edges k (source.Filter x f) first = absurd first
loads_edges k (source.ApplyModified edges ends f v) first = absurd first
loads_edges k (source.Value e) first = absurd first

loads_weighted_edges : (k : Declarations) (initial : InitialTree) → LoadsFirst k initial → ConstantKeeps k declared.WeightedEdgeSet initial
loads_weighted_edges k (source.Load argument) first = first
loads_weighted_edges k (source.NewSet size) first = absurd first
loads_weighted_edges k (source.Vertices edges) first = absurd first
loads_weighted_edges k (source.OutDegrees edges) first = absurd first
loads_weighted_edges k (source.Filter x f) first = absurd first
loads_weighted_edges k (source.ApplyModified edges ends f v) first = absurd first
loads_weighted_edges k (source.Value e) first = absurd first

constant_keeps : (d : DeclaredTree) (k : Declarations) → SeesAll d k → (at : ℕ) (p : ParameterTree) (initial : InitialTree) (type : DeclaredType)
    → (initializer_of d.checker at initial).faults ++ (declare_constant_as d at p.name initial type (initializer_of d.checker at initial).value).faults ≡ []
    → ConstantKeeps k type initial × IsNew k.known p.name
constant_keeps d k s at p initial declared.Int none =
    let g = initializer_of d.checker at initial in
    let given = no_left g.faults _ none in
    let after_g = no_right g.faults _ none in
    let x = literal_or_fault at (is_sound g.value) (pos 0) (literal_integer initial) in
    let sound = given_sound d.checker (record k.known { reduced = d.checker.writes }) (checker_sees d.checker k.known s.agrees.checker s.some) at initial given in (
      literal_is at (is_sound g.value) (pos 0) (literal_integer initial) sound (no_left x.faults _ after_g),
      constant_is_new d k s p.name (entity.IntConstant (next_name d) x.value) (no_right x.faults _ after_g),
    )
constant_keeps d k s at p initial declared.Bool none =
    let g = initializer_of d.checker at initial in
    let given = no_left g.faults _ none in
    let after_g = no_right g.faults _ none in
    let x = literal_or_fault at (is_sound g.value) false (literal_condition initial) in
    let sound = given_sound d.checker (record k.known { reduced = d.checker.writes }) (checker_sees d.checker k.known s.agrees.checker s.some) at initial given in (
      literal_is at (is_sound g.value) false (literal_condition initial) sound (no_left x.faults _ after_g),
      constant_is_new d k s p.name (entity.BoolConstant (next_name d) x.value) (no_right x.faults _ after_g),
    )
constant_keeps d k s at p initial declared.Vertex none = absurd (not_empty _ _ (no_right (initializer_of d.checker at initial).faults _ none))
constant_keeps d k s at p initial declared.VertexSet none =
    let g = initializer_of d.checker at initial in
    let given = no_left g.faults _ none in
    let after_g = no_right g.faults _ none in
    let x = has_all at g.value in
    let sound = given_sound d.checker (record k.known { reduced = d.checker.writes }) (checker_sees d.checker k.known s.agrees.checker s.some) at initial given in
    let e = entity.ConstantSet (record { index = length d.sets; name = next_name d }) in (
      vertices_wanted d k s at initial given (wanted_is at (is_sound g.value) (is_all g.value) sound (no_left x.faults _ after_g)),
      constant_is_new d k s p.name e (no_left (declare_name d p.name e).faults [] (no_right x.faults _ after_g)),
    )
constant_keeps d k s at p initial declared.Vector none =
    let g = initializer_of d.checker at initial in
    let given = no_left g.faults _ none in
    let after_g = no_right g.faults _ none in
    let x = begins at g.value initial in
    let e = entity.Vector (length d.vectors) in (
      vector_wanted d k s at initial given (no_left x.faults _ after_g),
      constant_is_new d k s p.name e (no_left (declare_name d p.name e).faults [] (no_right x.faults _ after_g)),
    )
constant_keeps d k s at p initial declared.EdgeSet none =
    let g = initializer_of d.checker at initial in
    let given = no_left g.faults _ none in
    let after_g = no_right g.faults _ none in
    let x = loads at g.value in
    let o = only_edges p.name (next_name d) d.edges in
    let sound = given_sound d.checker (record k.known { reduced = d.checker.writes }) (checker_sees d.checker k.known s.agrees.checker s.some) at initial given in
    let after_x = no_right x.faults _ after_g in
    let first = only_first p.name (next_name d) d.edges (no_left o.faults _ after_x) in (
      loads_edges k initial (loaded_wanted d k s at initial given (wanted_is at (is_sound g.value) (is_loaded g.value) sound (no_left x.faults _ after_g)) (sym s.agrees.edges ∙ first)),
      constant_is_new d k s p.name (entity.Edges false) (no_left (declare_name d p.name (entity.Edges false)).faults [] (no_right o.faults _ after_x)),
    )
constant_keeps d k s at p initial declared.WeightedEdgeSet none =
    let g = initializer_of d.checker at initial in
    let given = no_left g.faults _ none in
    let after_g = no_right g.faults _ none in
    let x = loads at g.value in
    let o = only_edges p.name (next_name d) d.edges in
    let sound = given_sound d.checker (record k.known { reduced = d.checker.writes }) (checker_sees d.checker k.known s.agrees.checker s.some) at initial given in
    let after_x = no_right x.faults _ after_g in
    let first = only_first p.name (next_name d) d.edges (no_left o.faults _ after_x) in (
      loads_weighted_edges k initial (loaded_wanted d k s at initial given (wanted_is at (is_sound g.value) (is_loaded g.value) sound (no_left x.faults _ after_g)) (sym s.agrees.edges ∙ first)),
      constant_is_new d k s p.name (entity.Edges true) (no_left (declare_name d p.name (entity.Edges true)).faults [] (no_right o.faults _ after_x)),
    )

-- types of parameters
vertex_declared : (type : DeclaredType) → is_vertex_type type ≡ true → type ≡ declared.Vertex
vertex_declared declared.Vertex is = refl
vertex_declared declared.Int is = absurd cc
vertex_declared declared.Bool is = absurd cc
vertex_declared declared.VertexSet is = absurd cc
vertex_declared declared.Vector is = absurd cc
vertex_declared declared.EdgeSet is = absurd cc
vertex_declared declared.WeightedEdgeSet is = absurd cc

bool_declared : (type : DeclaredType) → is_bool_type type ≡ true → type ≡ declared.Bool
bool_declared declared.Bool is = refl
bool_declared declared.Int is = absurd cc
bool_declared declared.Vertex is = absurd cc
bool_declared declared.VertexSet is = absurd cc
bool_declared declared.Vector is = absurd cc
bool_declared declared.EdgeSet is = absurd cc
bool_declared declared.WeightedEdgeSet is = absurd cc

-- a parameter that is opened is new
parameter_is_new : (weighted : Bool) (i : Inside) (c : CheckerTree) (k : Known) → Sees i c k → (v : ParameterTree) (p : Endpoint) → (declared_in c v.name (parameter weighted p v.declared)).faults ≡ []
    → IsNew k v.name
parameter_is_new weighted i c k s v p none = declares_new i c k s v.name (parameter weighted p v.declared) none

begun_sees : (c : CheckerTree) (k : Known) (i : Inside) → CheckerAgrees c k → AreSome k.names → Sees i (begun c i) (known_in_main k)
begun_sees c k i a some = record { matches = begun_matches c k i a; some = some }

-- the name of a function is new after what is in it
function_is_new : (i : Inside) (d : DeclaredTree) (k : Declarations) → SeesAll d k → (c : CheckerTree) (after : Known) → Sees i c after → (name : Identifier) (e : Entity)
    → (declared_in (in_scope c d.checker.scope) name e).faults ≡ [] → IsNew k.known name
function_is_new i d k s c after inner name e none =
    name_is_new (in_scope c d.checker.scope) (closed_known k.known after) (left_agrees i d.checker c k.known after s.agrees.checker inner.matches) s.some name e none

vertex_function_keeps : (d : DeclaredTree) (k : Declarations) → SeesAll d k → (at : ℕ) (name : Identifier) (v : ParameterTree) (body : source.BlockTree) → v.declared ≡ declared.Vertex
    → (steps_declared d at VertexKind name (v ∷ []) None body).faults ≡ [] → IsNew k.known name × FunctionKeeps k.known (v ∷ []) None body
vertex_function_keeps d k s at name v body is none =
    let o = opened d.checker VertexKind (v ∷ []) None in
    let p = declared_in (begun d.checker inside.VertexFunction) v.name (parameter false endpoint.Source v.declared) in
    let first = begun_sees d.checker k.known inside.VertexFunction s.agrees.checker s.some in
    let new = parameter_is_new false inside.VertexFunction (begun d.checker inside.VertexFunction) (known_in_main k.known) first v endpoint.Source
    (no_left p.faults [] (no_left (p.faults ++ []) [] (no_left o.faults _ none))) in
    let opens = vertex_opens d.checker k.known s.agrees.checker v is new in
    let within : Sees inside.VertexFunction o.value (known_at_vertex k.known v) =
    record { matches = opens.1; some = more_some k.known.names v.name.bytes (meaning.Parameter endpoint.Source) s.some tt } in
    let b = steps_typed o.value NoStep body in
    let after_o = no_right o.faults _ none in
    let keeps = steps_keep inside.VertexFunction o.value (known_at_vertex k.known v) tt within NoStep body (no_left b.faults _ after_o) in
    let after = steps_kept inside.VertexFunction o.value (known_at_vertex k.known v) tt within.matches NoStep body keeps in
    let f = entity.VertexFunction (length d.vertex_functions) in
    let e = declared_in (in_scope b.value.1 d.checker.scope) name f in (
      name_is_new (in_scope b.value.1 d.checker.scope) (closed_known k.known (known_after inside.VertexFunction (known_at_vertex k.known v) body))
          (left_agrees inside.VertexFunction d.checker b.value.1 k.known (known_after inside.VertexFunction (known_at_vertex k.known v) body) s.agrees.checker after.1) s.some name f
          (no_left e.faults [] (no_left (e.faults ++ []) [] (no_right b.faults _ after_o))),
      (is, new, keeps),
    )

filter_keeps : (d : DeclaredTree) (k : Declarations) → SeesAll d k → (at : ℕ) (name : Identifier) (v test : ParameterTree) (body : source.BlockTree) → v.declared ≡ declared.Vertex
    → test.declared ≡ declared.Bool
    → (steps_declared d at FilterKind name (v ∷ []) (Some test) body).faults ≡ [] → IsNew k.known name × FunctionKeeps k.known (v ∷ []) (Some test) body
filter_keeps d k s at name v test body is also none =
    let o = opened d.checker FilterKind (v ∷ []) (Some test) in
    let c = begun d.checker inside.Filter in
    let p = declared_in c v.name (parameter false endpoint.Source v.declared) in
    let r = declared_in p.value test.name (entity.BoolVariable (condition_slot p.value)) in
    let first = begun_sees d.checker k.known inside.Filter s.agrees.checker s.some in
    let sound = no_left o.faults _ none in
    let new = parameter_is_new false inside.Filter c (known_in_main k.known) first v endpoint.Source (no_left p.faults [] (no_left (p.faults ++ []) r.faults sound)) in
    let one = parameter_opens false inside.Filter c (known_in_main k.known) first.matches endpoint.Source v is new in
    let inner : Sees inside.Filter p.value (known_at_vertex k.known v) = record { matches = one.1; some = more_some k.known.names v.name.bytes (meaning.Parameter endpoint.Source) s.some tt } in
    let result_new = declares_new inside.Filter p.value (known_at_vertex k.known v) inner test.name (entity.BoolVariable (condition_slot p.value)) (no_right (p.faults ++ []) r.faults sound) in
    let opens = filter_opens d.checker k.known s.agrees.checker v test is new result_new in
    let within : Sees inside.Filter o.value (known_in_filter k.known v test) = record {
      matches = opens.1;
      some =
          more_some (known_at_vertex k.known v).names test.name.bytes meaning.TruthVariable inner.some tt;
    } in
    let b = steps_typed o.value NoStep body in
    let after_o = no_right o.faults _ none in
    let keeps = steps_keep inside.Filter o.value (known_in_filter k.known v test) tt within NoStep body (no_left b.faults _ after_o) in
    let after = steps_kept inside.Filter o.value (known_in_filter k.known v test) tt within.matches NoStep body keeps in
    let f = entity.Filter (length d.filters) in
    let e = declared_in (in_scope b.value.1 d.checker.scope) name f in (
      name_is_new (in_scope b.value.1 d.checker.scope) (closed_known k.known (known_after inside.Filter (known_in_filter k.known v test) body))
          (left_agrees inside.Filter d.checker b.value.1 k.known (known_after inside.Filter (known_in_filter k.known v test) body) s.agrees.checker after.1) s.some name f
          (no_left e.faults [] (no_left (e.faults ++ []) [] (no_right b.faults _ after_o))),
      (is, also, new, result_new, keeps),
    )

-- an edge function, of which this is known at its first statement
edge_body_keeps : (d : DeclaredTree) (k : Declarations) → SeesAll d k → (at : ℕ) (name : Identifier) (weighted : Bool) (parameters : List ParameterTree) (start : Known) (body : source.BlockTree)
    → Opens inside.EdgeFunction (opened d.checker (EdgeKind weighted) parameters None) start → AreSome start.names
    → (steps_declared d at (EdgeKind weighted) name parameters None body).faults ≡ [] → IsNew k.known name × BlockKeeps inside.EdgeFunction start body
edge_body_keeps d k s at name weighted parameters start body opens some none =
    let o = opened d.checker (EdgeKind weighted) parameters None in
    let within : Sees inside.EdgeFunction o.value start = record { matches = opens.1; some = some } in
    let b = steps_typed o.value NoStep body in
    let after_o = no_right o.faults _ none in
    let keeps = steps_keep inside.EdgeFunction o.value start tt within NoStep body (no_left b.faults _ after_o) in
    let after = steps_kept inside.EdgeFunction o.value start tt within.matches NoStep body keeps in
    let f = entity.EdgeFunction (length d.edge_functions) weighted in
    let e = declared_in (in_scope b.value.1 d.checker.scope) name f in (
      name_is_new (in_scope b.value.1 d.checker.scope) (closed_known k.known (known_after inside.EdgeFunction start body))
          (left_agrees inside.EdgeFunction d.checker b.value.1 k.known (known_after inside.EdgeFunction start body) s.agrees.checker after.1) s.some name f
          (no_left e.faults [] (no_left (e.faults ++ []) [] (no_right b.faults _ after_o))),
      keeps,
    )

edge_function_keeps : (d : DeclaredTree) (k : Declarations) → SeesAll d k → (at : ℕ) (name : Identifier) (src dst : ParameterTree) (body : source.BlockTree) → src.declared ≡ declared.Vertex
    → dst.declared ≡ declared.Vertex
    → (steps_declared d at (EdgeKind false) name (src ∷ dst ∷ []) None body).faults ≡ [] → IsNew k.known name × FunctionKeeps k.known (src ∷ dst ∷ []) None body
edge_function_keeps d k s at name src dst body is also none =
    let o = opened d.checker (EdgeKind false) (src ∷ dst ∷ []) None in
    let c = begun d.checker inside.EdgeFunction in
    let p = declared_in c src.name (parameter false endpoint.Source src.declared) in
    let q = declared_in p.value dst.name (parameter false endpoint.Destination dst.declared) in
    let first = begun_sees d.checker k.known inside.EdgeFunction s.agrees.checker s.some in
    let sound = no_left (p.faults ++ (q.faults ++ [])) [] (no_left o.faults _ none) in
    let new = parameter_is_new false inside.EdgeFunction c (known_in_main k.known) first src endpoint.Source (no_left p.faults _ sound) in
    let one = parameter_opens false inside.EdgeFunction c (known_in_main k.known) first.matches endpoint.Source src is new in
    let inner : Sees inside.EdgeFunction p.value (known_at_vertex k.known src) =
    record { matches = one.1; some = more_some k.known.names src.name.bytes (meaning.Parameter endpoint.Source) s.some tt } in
    let second = parameter_is_new false inside.EdgeFunction p.value (known_at_vertex k.known src) inner dst endpoint.Destination (no_left q.faults [] (no_right p.faults _ sound)) in
    let opens = edge_opens d.checker k.known s.agrees.checker src dst is also new second in
    let all = edge_body_keeps d k s at name false (src ∷ dst ∷ []) (known_on_edge k.known src dst) body opens
    (more_some (known_at_vertex k.known src).names dst.name.bytes (meaning.Parameter endpoint.Destination) inner.some tt) none in
    (all.0, (is, also, new, second, all.1))

weighted_function_keeps : (d : DeclaredTree) (k : Declarations) → SeesAll d k → (at : ℕ) (name : Identifier) (src dst w : ParameterTree) (body : source.BlockTree) → src.declared ≡ declared.Vertex
    → dst.declared ≡ declared.Vertex → w.declared ≡ declared.Int
    → (steps_declared d at (EdgeKind true) name (src ∷ dst ∷ w ∷ []) None body).faults ≡ [] → IsNew k.known name × FunctionKeeps k.known (src ∷ dst ∷ w ∷ []) None body
weighted_function_keeps d k s at name src dst w body is also int none =
    let o = opened d.checker (EdgeKind true) (src ∷ dst ∷ w ∷ []) None in
    let c = begun d.checker inside.EdgeFunction in
    let p = declared_in c src.name (parameter true endpoint.Source src.declared) in
    let q = declared_in p.value dst.name (parameter true endpoint.Destination dst.declared) in
    let r = declared_in q.value w.name (parameter true endpoint.Destination w.declared) in
    let first = begun_sees d.checker k.known inside.EdgeFunction s.agrees.checker s.some in
    let sound = no_left (p.faults ++ (q.faults ++ (r.faults ++ []))) [] (no_left o.faults _ none) in
    let after_p = no_right p.faults _ sound in
    let new = parameter_is_new true inside.EdgeFunction c (known_in_main k.known) first src endpoint.Source (no_left p.faults _ sound) in
    let one = parameter_opens true inside.EdgeFunction c (known_in_main k.known) first.matches endpoint.Source src is new in
    let at_vertex = known_at_vertex k.known src in
    let inner : Sees inside.EdgeFunction p.value at_vertex = record { matches = one.1; some = more_some k.known.names src.name.bytes (meaning.Parameter endpoint.Source) s.some tt } in
    let second = parameter_is_new true inside.EdgeFunction p.value at_vertex inner dst endpoint.Destination (no_left q.faults _ after_p) in
    let two = parameter_opens true inside.EdgeFunction p.value at_vertex inner.matches endpoint.Destination dst also second in
    let on_edge = known_on_edge k.known src dst in
    let further : Sees inside.EdgeFunction q.value on_edge = record { matches = two.1; some = more_some at_vertex.names dst.name.bytes (meaning.Parameter endpoint.Destination) inner.some tt } in
    let third = parameter_is_new true inside.EdgeFunction q.value on_edge further w endpoint.Destination (no_left r.faults [] (no_right q.faults _ after_p)) in
    let opens = weighted_edge_opens d.checker k.known s.agrees.checker src dst w is also int new second third in
    let all = edge_body_keeps d k s at name true (src ∷ dst ∷ w ∷ []) (known_on_weighted_edge k.known src dst w) body opens
    (more_some on_edge.names w.name.bytes meaning.Weight further.some tt) none in
    (all.0, (is, also, int, new, second, third, all.1))

-- the kind of a function that has no fault
fits_one : (d : DeclaredTree) (k : Declarations) → SeesAll d k → (at : ℕ) (name : Identifier) (v : ParameterTree) (body : source.BlockTree) (b : Bool) → is_vertex_type v.declared ≡ b
    → (declare_function d at name (v ∷ []) None body (if b then VertexKind else NoKind)).faults ≡ [] → IsNew k.known name × FunctionKeeps k.known (v ∷ []) None body
fits_one d k s at name v body true is none = vertex_function_keeps d k s at name v body (vertex_declared v.declared is) none
fits_one d k s at name v body false is none = absurd (not_empty _ _ none)

fits_filter : (d : DeclaredTree) (k : Declarations) → SeesAll d k → (at : ℕ) (name : Identifier) (v test : ParameterTree) (body : source.BlockTree) (a b : Bool) → is_vertex_type v.declared ≡ a
    → is_bool_type test.declared ≡ b
    → (declare_function d at name (v ∷ []) (Some test) body (if a && b then FilterKind else NoKind)).faults ≡ [] → IsNew k.known name × FunctionKeeps k.known (v ∷ []) (Some test) body
fits_filter d k s at name v test body true true is also none = filter_keeps d k s at name v test body (vertex_declared v.declared is) (bool_declared test.declared also) none
fits_filter d k s at name v test body true false is also none = absurd (not_empty _ _ none)
fits_filter d k s at name v test body false b is also none = absurd (not_empty _ _ none)

fits_edge : (d : DeclaredTree) (k : Declarations) → SeesAll d k → (at : ℕ) (name : Identifier) (src dst : ParameterTree) (body : source.BlockTree) (a b : Bool) → is_vertex_type src.declared ≡ a
    → is_vertex_type dst.declared ≡ b
    → (declare_function d at name (src ∷ dst ∷ []) None body (if a && b then EdgeKind false else NoKind)).faults ≡ [] → IsNew k.known name × FunctionKeeps k.known (src ∷ dst ∷ []) None body
fits_edge d k s at name src dst body true true is also none = edge_function_keeps d k s at name src dst body (vertex_declared src.declared is) (vertex_declared dst.declared also) none
fits_edge d k s at name src dst body true false is also none = absurd (not_empty _ _ none)
fits_edge d k s at name src dst body false b is also none = absurd (not_empty _ _ none)

fits_weighted : (d : DeclaredTree) (k : Declarations) → SeesAll d k → (at : ℕ) (name : Identifier) (src dst w : ParameterTree) (body : source.BlockTree) (a b c : Bool)
    → is_vertex_type src.declared ≡ a
    → is_vertex_type dst.declared ≡ b → is_int_type w.declared ≡ c
    → (declare_function d at name (src ∷ dst ∷ w ∷ []) None body (if a && b && c then EdgeKind true else NoKind)).faults ≡ [] → IsNew k.known name
    × FunctionKeeps k.known (src ∷ dst ∷ w ∷ []) None body
fits_weighted d k s at name src dst w body true true true is also int none =
    weighted_function_keeps d k s at name src dst w body (vertex_declared src.declared is) (vertex_declared dst.declared also) (int_type w.declared int) none
fits_weighted d k s at name src dst w body true true false is also int none = absurd (not_empty _ _ none)
fits_weighted d k s at name src dst w body true false c is also int none = absurd (not_empty _ _ none)
fits_weighted d k s at name src dst w body false b c is also int none = absurd (not_empty _ _ none)

user_function_keeps : (d : DeclaredTree) (k : Declarations) → SeesAll d k → (at : ℕ) (name : Identifier) (parameters : List ParameterTree) (result : Option ParameterTree) (body : source.BlockTree)
    → (declare_function d at name parameters result body (kind_of parameters result)).faults ≡ [] → IsNew k.known name × FunctionKeeps k.known parameters result body
user_function_keeps d k s at name [] result body none = absurd (not_empty _ _ none)
user_function_keeps d k s at name (v ∷ []) None body none = fits_one d k s at name v body (is_vertex_type v.declared) refl none
user_function_keeps d k s at name (v ∷ []) (Some test) body none = fits_filter d k s at name v test body (is_vertex_type v.declared) (is_bool_type test.declared) refl refl none
user_function_keeps d k s at name (src ∷ dst ∷ []) None body none = fits_edge d k s at name src dst body (is_vertex_type src.declared) (is_vertex_type dst.declared) refl refl none
user_function_keeps d k s at name (src ∷ dst ∷ []) (Some result) body none = absurd (not_empty _ _ none)
user_function_keeps d k s at name (src ∷ dst ∷ w ∷ []) None body none =
    fits_weighted d k s at name src dst w body (is_vertex_type src.declared) (is_vertex_type dst.declared) (is_int_type w.declared) refl refl refl none
user_function_keeps d k s at name (src ∷ dst ∷ w ∷ []) (Some result) body none = absurd (not_empty _ _ none)
user_function_keeps d k s at name (x ∷ y ∷ z ∷ u ∷ others) result body none = absurd (not_empty _ _ none)

-- main, which takes nothing
plain_main_keeps : (d : DeclaredTree) (k : Declarations) → SeesAll d k → (name : Identifier) (body : source.BlockTree) → (main_declared d true name [] None body).faults ≡ []
    → IsNew k.known name × MainKeeps k.known [] None body
plain_main_keeps d k s name body none =
    let c = begun (restarted d.checker) inside.Main in
    let within : Sees inside.Main c (known_in_main k.known) = record {
      matches = record { names = s.agrees.checker.names; labels = s.agrees.checker.labels; reduced = refl; written = s.agrees.checker.written; inside = refl };
      some = s.some;
    } in
    let b = statements_typed c Empty body in
    let keeps = statements_keep c (known_in_main k.known) within Empty body (no_left b.faults _ none) in
    let after = statements_kept c (known_in_main k.known) within.matches Empty body keeps in
    let e = declared_in (in_scope b.value.1 d.checker.scope) name entity.Main in (
      name_is_new (in_scope b.value.1 d.checker.scope) (closed_known k.known (known_after inside.Main (known_in_main k.known) body))
          (left_agrees inside.Main d.checker b.value.1 k.known (known_after inside.Main (known_in_main k.known) body) s.agrees.checker after.1) s.some name entity.Main
          (no_left e.faults [] (no_left (e.faults ++ []) [] (no_right b.faults _ none))),
      (refl, refl, keeps),
    )

main_keeps : (d : DeclaredTree) (k : Declarations) → SeesAll d k → (name : Identifier) (parameters : List ParameterTree) (result : Option ParameterTree) (body : source.BlockTree) → parameters ≡ []
    → result ≡ None
    → (main_declared d (takes_nothing parameters result) name parameters result body).faults ≡ [] → IsNew k.known name × MainKeeps k.known parameters result body
main_keeps d k s name [] None body first second none = plain_main_keeps d k s name body none
main_keeps d k s name [] (Some result) body first second none = absurd cc
main_keeps d k s name (p ∷ others) result body first second none = absurd cc

function_keeps : (d : DeclaredTree) (k : Declarations) → SeesAll d k → (at : ℕ) (name : Identifier) (parameters : List ParameterTree) (result : Option ParameterTree) (body : source.BlockTree)
    (b : Bool)
    → bytes_eq name.bytes main_bytes ≡ b → MainTakesNothing (source.Function at name parameters result body)
    → (declare_function d at name parameters result body (if b then MainKind (takes_nothing parameters result) else kind_of parameters result)).faults ≡ []
    → DeclarationKeeps k (source.Function at name parameters result body)
function_keeps d k s at name parameters result body true is takes none =
    let same = (bytes_eq-Decides name.bytes main_bytes).0 is in
    let t = takes same in
    let all = main_keeps d k s name parameters result body t.0 t.1 none in
    (all.0, λ also. all.1, λ other. absurd (other same))
function_keeps d k s at name parameters result body false is takes none =
    let all = user_function_keeps d k s at name parameters result body none in
    (all.0, λ same. absurd (never (bytes_eq name.bytes main_bytes) is ((bytes_eq-Decides name.bytes main_bytes).1 same)), λ other. all.1)

declaration_keeps : (d : DeclaredTree) (k : Declarations) → SeesAll d k → (x : DeclarationTree) → MainTakesNothing x → (declaration_typed d x).faults ≡ [] → DeclarationKeeps k x
declaration_keeps d k s (source.Constant at p initial) takes none = constant_keeps d k s at p initial p.declared none
declaration_keeps d k s (source.Function at name parameters result body) takes none = function_keeps d k s at name parameters result body (bytes_eq name.bytes main_bytes) refl takes none

-- after a declaration all names mean something
constant_some : (k : Declarations) (type : DeclaredType) (initial : InitialTree) → ConstantKeeps k type initial → means_something.IsSome (constant_meaning k.vectors type)
constant_some k declared.Int initial keeps = tt
constant_some k declared.Bool initial keeps = tt
constant_some k declared.Vertex initial keeps = absurd keeps
constant_some k declared.VertexSet initial keeps = tt
constant_some k declared.Vector initial keeps = tt
constant_some k declared.EdgeSet initial keeps = tt
constant_some k declared.WeightedEdgeSet initial keeps = tt

after_user_some : (k : Declarations) → AreSome k.known.names → (name : Identifier) (parameters : List ParameterTree) (result : Option ParameterTree) (body : source.BlockTree)
    → AreSome (after_function k name parameters result body).known.names
after_user_some k some name [] result body = some
after_user_some k some name (v ∷ []) None body = more_some k.known.names name.bytes meaning.VertexFunction some tt
after_user_some k some name (v ∷ []) (Some test) body = more_some k.known.names name.bytes meaning.Filter some tt
after_user_some k some name (src ∷ dst ∷ []) None body = more_some k.known.names name.bytes (meaning.EdgeFunction (length k.known.written) false) some tt
after_user_some k some name (src ∷ dst ∷ []) (Some result) body = some
after_user_some k some name (src ∷ dst ∷ w ∷ []) None body = more_some k.known.names name.bytes (meaning.EdgeFunction (length k.known.written) true) some tt
after_user_some k some name (src ∷ dst ∷ w ∷ []) (Some result) body = some
after_user_some k some name (x ∷ y ∷ z ∷ u ∷ others) result body = some

after_function_some : (k : Declarations) → AreSome k.known.names → (name : Identifier) (parameters : List ParameterTree) (result : Option ParameterTree) (body : source.BlockTree) (b : Bool)
    → AreSome (if b then after_main k name body else after_function k name parameters result body).known.names
after_function_some k some name parameters result body true = more_some k.known.names name.bytes meaning.Main some tt
after_function_some k some name parameters result body false = after_user_some k some name parameters result body

after_some_declaration : (k : Declarations) → AreSome k.known.names → (x : DeclarationTree) → DeclarationKeeps k x → AreSome (after_declaration k x).known.names
after_some_declaration k some (source.Constant at p initial) keeps = more_some k.known.names p.name.bytes (constant_meaning k.vectors p.declared) some (constant_some k p.declared initial keeps.0)
after_some_declaration k some (source.Function at name parameters result body) keeps = after_function_some k some name parameters result body (bytes_eq name.bytes main_bytes)

declarations_keep : (d : DeclaredTree) (k : Declarations) → SeesAll d k → (xs : List DeclarationTree) → AllByRecursion MainTakesNothing xs → (declarations_typed d xs).faults ≡ []
    → is_some (declarations_typed d xs).value.main ≡ true → DeclarationsKeep k xs
declarations_keep d k s [] takes none main = sym s.agrees.main ∙ main
declarations_keep d k s (x ∷ others) takes none main =
    let e = declaration_typed d x in
    let keeps = declaration_keeps d k s x takes.0 (no_left e.faults _ none) in
    let next : SeesAll e.value (after_declaration k x) = record { agrees = (declaration_kept d k s.agrees x keeps).1; some = after_some_declaration k s.some x keeps } in
    (keeps, declarations_keep e.value (after_declaration k x) next others takes.1 (no_right e.faults _ none) main)

main_found : (length : ℕ) (main : Option BlockTree) → (main_of length main).faults ≡ [] → is_some main ≡ true
main_found length None none = absurd (not_empty _ _ none)
main_found length (Some main) none = refl

pub source_keeps : (source : SourceTree) (length : ℕ) → (program_of source length).faults ≡ [] → KeepsRules source
source_keeps source length none =
    let begins_at = no_declarations (set_count source.declarations) in
    let d = declarations_typed begins_at source.declarations in
    let first : SeesAll begins_at nothing_declared = record {
      agrees = record { checker = record { names = refl; labels = refl; written = refl; inside = refl }; vectors = refl; functions = refl; edges = refl; main = refl };
      some = tt;
    } in
    let found = main_found length d.value.main (no_left (main_of length d.value.main).faults [] (no_right d.faults _ none)) in
    declarations_keep begins_at nothing_declared first source.declarations (mains_take_nothing source length none) (no_left d.faults _ none) found
