-- A statement of main that keeps the rules has no fault, and after it is known what its checker knows.
use Rattle.std.proofs.Common.{◌≡◌, ◌⊎◌, inl, inr, refl, sym, subst, ap, ℕ, suc, ℤ, pos, Bool, true, false, not, ◌||◌, ◌&&◌, if◌then◌else◌, nat_eq, [], ◌++◌, length, Option, Some, None}
use Rattle.std.specs.Prelude.{is_some, slice_index_or}
use Rattle.std.specs.Map.{lookup}
use Rattle.syntax.specs.Terminals.{Identifier}
use Rattle.syntax.specs.SourceTrees.{ExpressionTree, InitialTree, EndsTree}
use Rattle.syntax.specs.SourceTrees as source
use Rattle.syntax.specs.declared.declaration.DeclaredType.{DeclaredType}
use Rattle.syntax.specs.declared.declaration.DeclaredType.TheVariants as declared
use Rattle.apply_options.specs.declared.reduction.Reduction.{Reduction}
use Rattle.typed_tree.specs.BlockTree.{StatementKindTree, Simple, BlockTree, Empty, DeclareBool, DeclareInt, DeclareSet}
use Rattle.typed_tree.specs.IntExpressionTree.{IntExpressionTree}
use Rattle.typed_tree.specs.declared.statement.SetValue.TheVariants as set
use Rattle.expression_types.specs.declared.fault.TypeRule.TheVariants as rule
use Rattle.expression_types.specs.declared.scope.Entity.{Entity}
use Rattle.expression_types.specs.declared.scope.Entity.TheVariants as entity
use Rattle.expression_types.specs.declared.scope.Inside.{Inside}
use Rattle.expression_types.specs.declared.scope.Inside.TheVariants as inside
use Rattle.expression_types.specs.Expression.{used_name, value_of, vector_index}
use Rattle.expression_types.specs.ScopeTree.{found}
use Rattle.expression_types.specs.ValueTree as value
use Rattle.expression_types.specs.ValueTree.{ValueTree, entity_set, reads_entry}
use Rattle.expression_types.specs.Faults.{WithFaults, fault_at, sure}
use Rattle.types.specs.Block.{action_typed, then_statement, closed, in_place, statements_typed}
use Rattle.initializer_types.specs.Checker.{CheckerTree, condition_slot, counted, declared_in, integer_slot, with_label, set_slot, as_index, integer_wanted, as_members, condition_in, integer_in, unread}
use Rattle.initializer_types.specs.Initial as initial_value
use Rattle.initializer_types.specs.Initial.{ApplyEndTree, Absent, Wrong, ErrorEnd, InitializerTree, edge_function, apply_end_of, ends_given, filter_named, filtered_set, initializer_condition, initializer_integer}
use Rattle.initializer_types.specs.Initial.{initializer_members, initializer_of, is_edges, is_error_end, is_wrong, initial_modified, modified_by, names_error, new_set, of_edges, vector_of, writes_vector}
use Rattle.types.specs.Statement.{add_vertex, added_to_set, apply, applied, edges_applied, no_action, assign, assigned, declare_variable, has_ends, print, printed, reduce, reduce_entry, reduced}
use Rattle.types.specs.Statement.{set_entry}
use Rattle.type_laws.specs.EntryAccess.{HasNoEntry}
use Rattle.type_laws.specs.ExpressionTypes.{IsNumberExpression, IsTruth, Set, Truth, type_named}
use Rattle.type_laws.specs.KeptRules.{ActionKeeps, AppliesEdges, AppliesVertices, ApplyFits, AssignFits, AssignsNumber, AssignsSet, AssignsTruth, BlockKeeps, EndFits, EndsFit, GivesMembers}
use Rattle.type_laws.specs.KeptRules.{GivesNumber, GivesTruth, Modifies, SeesWeights, VariableFits}
use Rattle.type_laws.specs.Meanings as meaning
use Rattle.type_laws.specs.ScopeMeanings.{meaning_of}
use Rattle.type_laws.specs.Meanings.{IsNew, Known, closed_known, known_after, known_behind, labelled_known, variable_meaning, with_meaning}
use Rattle.type_laws.proofs.PlainEntries.{ReadsNone, expression_reads_none}
use Rattle.type_laws.proofs.TypedExpressions.{IsNumeric, IsOf}
use Rattle.type_laws.proofs.KeptNames.{Matches, closed_kept, counted_kept, declared_kept, edge_function_entity, edges_are, expression_kept, filter_entity, labelled_kept, number_kept, number_value}
use Rattle.type_laws.proofs.KeptNames.{number_variable, numeric_integer, set_kept, set_variable, truth_condition, truth_kept, truth_variable, used_kept, vector_entity, vector_kept}
use Rattle.type_laws.proofs.KeptNames.{vertex_function_entity}
use Rattle.type_laws.proofs.Faultless.{both_none}

-- initial and assigned values
pub given_number : (i : Inside) (c : CheckerTree) (k : Known) → Matches i c k → (at : ℕ) (initial : InitialTree) → GivesNumber k.names i initial
    → ((initializer_of c at initial).faults ≡ []) × ((initializer_integer at (initializer_of c at initial).value).faults ≡ [])
given_number i c k m at (source.NewSet size) gives = absurd gives
given_number i c k m at (source.Load argument) gives = absurd gives
given_number i c k m at (source.Vertices edges) gives = absurd gives
given_number i c k m at (source.OutDegrees edges) gives = absurd gives
given_number i c k m at (source.Filter set test) gives = absurd gives
given_number i c k m at (source.ApplyModified edges ends f v) gives = absurd gives
given_number i c k m at (source.Value e) gives =
    let x = number_value i c k m at e gives in
    (both_none (value_of c.scope at e).faults [] x.none refl, numeric_integer at (value_of c.scope at e).value x.is)

pub given_truth : (i : Inside) (c : CheckerTree) (k : Known) → Matches i c k → (at : ℕ) (initial : InitialTree) → GivesTruth k.names i initial
    → ((initializer_of c at initial).faults ≡ []) × ((initializer_condition at (initializer_of c at initial).value).faults ≡ [])
given_truth i c k m at (source.NewSet size) gives = absurd gives
given_truth i c k m at (source.Load argument) gives = absurd gives
given_truth i c k m at (source.Vertices edges) gives = absurd gives
given_truth i c k m at (source.OutDegrees edges) gives = absurd gives
given_truth i c k m at (source.Filter set test) gives = absurd gives
given_truth i c k m at (source.ApplyModified edges ends f v) gives = absurd gives
given_truth i c k m at (source.Value e) gives =
    let x = expression_kept i c k m at e Truth gives in
    (both_none (value_of c.scope at e).faults [] x.none refl, truth_condition at (value_of c.scope at e).value x.is)

-- sets
abbrev pub GivesSet : ℕ → WithFaults InitializerTree → Type 0
GivesSet at m = (m.faults ≡ []) × ((initializer_members at m.value).faults ≡ [])

new_set_fine : (at : ℕ) (size : ℤ) → size ≡ pos 0 → GivesSet at (new_set at size)
new_set_fine at size is = subst (λ z. GivesSet at (new_set at z)) (sym is) (refl, refl)

pub of_edges_fine : (at : ℕ) (e : Entity) (weights : Bool) → meaning_of e ≡ meaning.Edges weights → (x : InitializerTree) → ((of_edges at x e).faults ≡ []) × ((of_edges at x e).value ≡ x)
of_edges_fine at e weights is x = subst (λ e. ((of_edges at x e).faults ≡ []) × ((of_edges at x e).value ≡ x)) (sym (edges_are e weights is)) (refl, refl)

set_passes : (at : ℕ) (s : Entity) (index : ℕ) → type_named (Some (meaning_of s)) ≡ Some Set → GivesSet at (filtered_set at s (entity.Filter index))
set_passes at (entity.ConstantSet slot) index is = (refl, refl)
set_passes at (entity.SetVariable slot) index is = (refl, refl)
set_passes at _ index is = absurd cc

filtered_fine : (at : ℕ) (s f : Entity) → type_named (Some (meaning_of s)) ≡ Some Set → meaning_of f ≡ meaning.Filter → GivesSet at (filtered_set at s f)
filtered_fine at s f set filter =
    let is = filter_entity f filter in subst (λ f. GivesSet at (filtered_set at s f)) (sym is.1) (set_passes at s is.0 set)

-- an end that fits
abbrev pub IsGood : ApplyEndTree → Type 0
IsGood Absent = Unit {0}
IsGood (initial_value.Given f) = Unit {0}
IsGood Wrong = ⊥
IsGood ErrorEnd = ⊥

set_end : (e : Entity) → type_named (Some (meaning_of e)) ≡ Some Set → IsGood (filter_named e)
set_end (entity.ConstantSet slot) is = tt
set_end (entity.SetVariable slot) is = tt
set_end _ is = absurd cc

filter_end : (e : Entity) → meaning_of e ≡ meaning.Filter → IsGood (filter_named e)
filter_end (entity.Filter index) is = tt
filter_end _ is = absurd cc

pub end_kept : (i : Inside) (c : CheckerTree) (k : Known) → Matches i c k → (name : Option Identifier) → EndFits k.names name
    → ((apply_end_of c.scope name).faults ≡ []) × IsGood (apply_end_of c.scope name).value
end_kept i c k m None fits = (refl, tt)
end_kept i c k m (Some name) fits =
    elim fits [
      | inl set ↦ let s = set_kept i c k m name set in (both_none (used_name c.scope name).faults [] s.0 refl, set_end (used_name c.scope name).value s.1)
      | inr filter ↦ let f = used_kept i c k m name meaning.Filter filter in (both_none (used_name c.scope name).faults [] f.0 refl, filter_end (used_name c.scope name).value f.1)
    ]

-- the members that an apply modifies
if_writes : (at : ℕ) (x : InitializerTree) (b : Bool) → b ≡ true → (initializer_members at x).faults ≡ []
    → GivesSet at (if b then sure x else fault_at at rule.WrongType initial_value.ErrorInitializer)
if_writes at x true is fine = (refl, fine)
if_writes at x false is fine = absurd cc

-- a function that takes no weight, or edges that have them
pub weights_seen : (weights weighted : Bool) → SeesWeights weights weighted → (not weights && weighted) ≡ false
weights_seen weights true sees = ap (λ b. not b && true) sees
weights_seen true false sees = refl
weights_seen false false sees = refl

if_seen : (at : ℕ) (m : WithFaults InitializerTree) (b : Bool) → b ≡ false → GivesSet at m → GivesSet at (if b then fault_at at rule.WrongType initial_value.ErrorInitializer else m)
if_seen at m true is fine = absurd cc
if_seen at m false is fine = fine

modified_good : (c : CheckerTree) (at : ℕ) (a b : ApplyEndTree) (weights : Bool) (index : ℕ) (weighted : Bool) (vector : ℕ) → IsGood a → IsGood b → SeesWeights weights weighted
    → writes_vector c.written index vector ≡ true → GivesSet at (initial_modified c at (entity.Edges weights) a b (entity.EdgeFunction index weighted) (entity.Vector vector))
modified_good c at Absent Absent weights index weighted vector first second sees writes =
    if_seen at (modified_by c at (ends_given Absent Absent) (Some index) (Some vector)) (not weights && weighted) (weights_seen weights weighted sees)
    (if_writes at (initial_value.Members (set.Modified (ends_given Absent Absent) index vector)) (writes_vector c.written index vector) writes refl)
modified_good c at Absent (initial_value.Given f) weights index weighted vector first second sees writes =
    if_seen at (modified_by c at (ends_given Absent (initial_value.Given f)) (Some index) (Some vector)) (not weights && weighted) (weights_seen weights weighted sees)
    (if_writes at (initial_value.Members (set.Modified (ends_given Absent (initial_value.Given f)) index vector)) (writes_vector c.written index vector) writes refl)
modified_good c at (initial_value.Given f) Absent weights index weighted vector first second sees writes =
    if_seen at (modified_by c at (ends_given (initial_value.Given f) Absent) (Some index) (Some vector)) (not weights && weighted) (weights_seen weights weighted sees)
    (if_writes at (initial_value.Members (set.Modified (ends_given (initial_value.Given f) Absent) index vector)) (writes_vector c.written index vector) writes refl)
modified_good c at (initial_value.Given f) (initial_value.Given g) weights index weighted vector first second sees writes =
    if_seen at (modified_by c at (ends_given (initial_value.Given f) (initial_value.Given g)) (Some index) (Some vector)) (not weights && weighted) (weights_seen weights weighted sees)
    (if_writes at (initial_value.Members (set.Modified (ends_given (initial_value.Given f) (initial_value.Given g)) index vector)) (writes_vector c.written index vector) writes refl)
modified_good c at Absent Wrong weights index weighted vector first second sees writes = absurd second
modified_good c at Absent ErrorEnd weights index weighted vector first second sees writes = absurd second
modified_good c at (initial_value.Given f) Wrong weights index weighted vector first second sees writes = absurd second
modified_good c at (initial_value.Given f) ErrorEnd weights index weighted vector first second sees writes = absurd second
modified_good c at Wrong b weights index weighted vector first second sees writes = absurd first
modified_good c at ErrorEnd b weights index weighted vector first second sees writes = absurd first

modified_fine : (i : Inside) (c : CheckerTree) (k : Known) → Matches i c k → (at : ℕ) (edges : Identifier) (ends : EndsTree) (f v : Identifier)
    → EndsFit k.names ends → Modifies k edges f v → GivesSet at (initializer_of c at (source.ApplyModified edges ends f v))
modified_fine i c k m at edges ends f v fit modifies =
    let e = used_kept i c k m edges (meaning.Edges modifies.weights) modifies.edges_mean in
    let a = end_kept i c k m ends.from fit.0 in
    let b = end_kept i c k m ends.to fit.1 in
    let g = used_kept i c k m f (meaning.EdgeFunction modifies.index modifies.weighted) modifies.function_means in
    let w = used_kept i c k m v (meaning.Vector modifies.written) modifies.vector_means in
    let x = (apply_end_of c.scope ends.from).value in
    let y = (apply_end_of c.scope ends.to).value in
    let writes : writes_vector c.written modifies.index modifies.written ≡ true =
    ap is_some (subst (λ ws. lookup (nat_eq modifies.written) (slice_index_or ws modifies.index []) ≡ Some modifies.by) (sym m.written) modifies.writes) in
    let all = subst (λ e. GivesSet at (initial_modified c at e x y (used_name c.scope f).value (used_name c.scope v).value)) (sym (edges_are (used_name c.scope edges).value modifies.weights e.1))
    (subst (λ g. GivesSet at (initial_modified c at (entity.Edges modifies.weights) x y g (used_name c.scope v).value))
    (sym (edge_function_entity (used_name c.scope f).value modifies.index modifies.weighted g.1))
    (subst (λ w. GivesSet at (initial_modified c at (entity.Edges modifies.weights) x y (entity.EdgeFunction modifies.index modifies.weighted) w))
    (sym (vector_entity (used_name c.scope v).value modifies.written w.1))
    (modified_good c at x y modifies.weights modifies.index modifies.weighted modifies.written a.1 b.1 modifies.sees writes))) in (
      both_none (used_name c.scope edges).faults _ e.0 (both_none (apply_end_of c.scope ends.from).faults _ a.0 (both_none (apply_end_of c.scope ends.to).faults _ b.0
          (both_none (used_name c.scope f).faults _ g.0 (both_none (used_name c.scope v).faults _ w.0 all.0)))),
      all.1,
    )

set_value : (at : ℕ) (v : ValueTree) → IsOf Set v → (as_members at v).faults ≡ []
set_value at (value.Integer e) is = absurd is
set_value at (value.Condition c) is = absurd is
set_value at (value.Vertex p) is = absurd is
set_value at (value.Set slot) is = refl
set_value at value.ErrorValue is = absurd is

pub given_members : (i : Inside) (c : CheckerTree) (k : Known) → Matches i c k → (at : ℕ) (initial : InitialTree) → GivesMembers k i initial → GivesSet at (initializer_of c at initial)
given_members i c k m at (source.NewSet size) gives = new_set_fine at size gives
given_members i c k m at (source.Load argument) gives = absurd gives
given_members i c k m at (source.Vertices edges) gives =
    let e = used_kept i c k m edges (meaning.Edges gives.0) gives.1 in
    let x = of_edges_fine at (used_name c.scope edges).value gives.0 e.1 (initial_value.Members set.All) in
    (both_none (used_name c.scope edges).faults _ e.0 x.0, subst (λ g. (initializer_members at g).faults ≡ []) (sym x.1) refl)
given_members i c k m at (source.OutDegrees edges) gives = absurd gives
given_members i c k m at (source.Filter s f) gives =
    let x = set_kept i c k m s gives.0 in
    let y = used_kept i c k m f meaning.Filter gives.1 in
    let all = filtered_fine at (used_name c.scope s).value (used_name c.scope f).value x.1 y.1 in
    (both_none (used_name c.scope s).faults _ x.0 (both_none (used_name c.scope f).faults _ y.0 all.0), all.1)
given_members i c k m at (source.ApplyModified edges ends f v) gives = modified_fine i c k m at edges ends f v gives.0 gives.1
given_members i c k m at (source.Value e) gives =
    let x = expression_kept i c k m at e Set gives in
    (both_none (value_of c.scope at e).faults [] x.none refl, set_value at (value_of c.scope at e).value x.is)

-- What a statement comes to that keeps the rules.
abbrev pub Keeps : {A : Type 0} → Inside → WithFaults (A × CheckerTree) → Known → Type 0
Keeps i m k = (m.faults ≡ []) × Matches i m.value.1 k

pub declares : {A X : Type 0} (i : Inside) (c : CheckerTree) (k : Known) → Matches i c k → (name : Identifier) (e : Entity) (n : meaning.Meaning) → meaning_of e ≡ n → IsNew k name
    → (x : WithFaults X) → x.faults ≡ [] → (a : X → A)
    → Keeps i (record { faults = x.faults ++ ((declared_in c name e).faults ++ []); value = (a x.value, (declared_in c name e).value) }) (with_meaning k name n)
declares i c k m name e n is new x none a =
    let d = declared_kept i c k m name e n is new in (both_none x.faults _ none (both_none (declared_in c name e).faults [] d.0 refl), d.1)

declare_kept : (c : CheckerTree) (k : Known) → Matches inside.Main c k → (at : ℕ) (name : Identifier) (initial : InitialTree) (type : DeclaredType) → VariableFits inside.Main k type initial
    → IsNew k name → Keeps inside.Main (declare_variable c at name type initial) (with_meaning k name (variable_meaning type))
declare_kept c k m at name initial declared.Int fits new =
    let g = initializer_of c at initial in
    let x = given_number inside.Main c k m at initial fits in
    let d = declares inside.Main c k m name (entity.IntVariable (integer_slot c)) meaning.NumberVariable refl new (initializer_integer at g.value) x.1
    (λ e. Simple (DeclareInt (length c.names) e)) in
    (both_none g.faults _ x.0 d.0, d.1)
declare_kept c k m at name initial declared.Bool fits new =
    let g = initializer_of c at initial in
    let x = given_truth inside.Main c k m at initial fits in
    let d = declares inside.Main c k m name (entity.BoolVariable (condition_slot c)) meaning.TruthVariable refl new (initializer_condition at g.value) x.1
    (λ e. Simple (DeclareBool (length c.names) e)) in
    (both_none g.faults _ x.0 d.0, d.1)
declare_kept c k m at name initial declared.VertexSet fits new =
    let g = initializer_of c at initial in
    let x = given_members inside.Main c k m at initial fits.1 in
    let d = declares inside.Main c k m name (entity.SetVariable (set_slot c)) meaning.SetVariable refl new (initializer_members at g.value) x.1
    (λ s. Simple (DeclareSet (length c.names) s)) in
    (both_none g.faults _ x.0 d.0, d.1)
declare_kept c k m at name initial declared.Vertex fits new = absurd fits
declare_kept c k m at name initial declared.Vector fits new = absurd fits
declare_kept c k m at name initial declared.EdgeSet fits new = absurd fits
declare_kept c k m at name initial declared.WeightedEdgeSet fits new = absurd fits

assign_kept : (c : CheckerTree) (k : Known) → Matches inside.Main c k → (at : ℕ) (name : Identifier) (initial : InitialTree) → AssignFits inside.Main k name initial
    → (assign c at name initial).faults ≡ []
assign_kept c k m at name initial (AssignsNumber means gives) =
    let u = used_kept inside.Main c k m name meaning.NumberVariable means in
    let is = number_variable (used_name c.scope name).value u.1 in
    let g = initializer_of c at initial in
    let x = given_number inside.Main c k m at initial gives in
    both_none (used_name c.scope name).faults _ u.0 (both_none g.faults _ x.0
    (subst (λ e. (assigned at g.value e).faults ≡ []) (sym is.1) (both_none (initializer_integer at g.value).faults [] x.1 refl)))
assign_kept c k m at name initial (AssignsTruth means gives) =
    let u = used_kept inside.Main c k m name meaning.TruthVariable means in
    let is = truth_variable (used_name c.scope name).value u.1 in
    let g = initializer_of c at initial in
    let x = given_truth inside.Main c k m at initial gives in
    both_none (used_name c.scope name).faults _ u.0 (both_none g.faults _ x.0
    (subst (λ e. (assigned at g.value e).faults ≡ []) (sym is.1) (both_none (initializer_condition at g.value).faults [] x.1 refl)))
assign_kept c k m at name initial (AssignsSet means may gives) =
    let u = used_kept inside.Main c k m name meaning.SetVariable means in
    let is = set_variable (used_name c.scope name).value u.1 in
    let g = initializer_of c at initial in
    let x = given_members inside.Main c k m at initial gives in
    both_none (used_name c.scope name).faults _ u.0 (both_none g.faults _ x.0
    (subst (λ e. (assigned at g.value e).faults ≡ []) (sym is.1) (both_none (initializer_members at g.value).faults [] x.1 refl)))

reduce_kept : (c : CheckerTree) (k : Known) → Matches inside.Main c k → (at : ℕ) (name : Identifier) (by : Reduction) (e : ExpressionTree) → found name.bytes k.names ≡ Some meaning.NumberVariable
    → IsNumberExpression k.names inside.Main e → (reduce c.scope at name by e).faults ≡ []
reduce_kept c k m at name by e means number =
    let u = used_kept inside.Main c k m name meaning.NumberVariable means in
    let is = number_variable (used_name c.scope name).value u.1 in
    let v = value_of c.scope at e in
    let x = number_value inside.Main c k m at e number in
    both_none (used_name c.scope name).faults _ u.0 (both_none v.faults _ x.none
    (subst (λ n. (reduced at by v.value n).faults ≡ []) (sym is.1) (both_none (integer_wanted at v.value).faults [] (numeric_integer at v.value x.is) refl)))

-- an index of main at which an entry is written
unread_fine : (at : ℕ) (e : IntExpressionTree) → reads_entry e ≡ false → (unread at e).faults ≡ []
unread_fine at e plain = subst (λ b. (if b then fault_at at rule.WrongIndex None else sure (Some e)).faults ≡ []) (sym plain) refl

index_fits : (at : ℕ) (v : ValueTree) → IsNumeric v → ReadsNone v → (as_index at v).faults ≡ []
index_fits at (value.Integer e) is plain = unread_fine at e plain
index_fits at (value.Condition c) is plain = absurd is
index_fits at (value.Vertex p) is plain = refl
index_fits at (value.Set slot) is plain = absurd is
index_fits at value.ErrorValue is plain = absurd is

-- a vector, an index and a value
entry_kept : (c : CheckerTree) (k : Known) → Matches inside.Main c k → (at : ℕ) (name : Identifier) (vector : ℕ) (index e : ExpressionTree) → found name.bytes k.names ≡ Some (meaning.Vector vector)
    → IsNumberExpression k.names inside.Main index → HasNoEntry index → IsNumberExpression k.names inside.Main e
    → (vector_index c.scope at name).faults ++ ((value_of c.scope at index).faults ++ ((as_index at (value_of c.scope at index).value).faults ++ ((integer_in c.scope at e).faults ++ []))) ≡ []
entry_kept c k m at name vector index e means number plain gives =
    let v = value_of c.scope at index in
    let x = number_value inside.Main c k m at index number in
    both_none (vector_index c.scope at name).faults _ (vector_kept inside.Main c k m at name vector means).0
    (both_none v.faults _ x.none (both_none (as_index at v.value).faults _ (index_fits at v.value x.is (expression_reads_none c.scope at index plain))
    (both_none (integer_in c.scope at e).faults [] (number_kept inside.Main c k m at e gives) refl)))

add_kept : (c : CheckerTree) (k : Known) → Matches inside.Main c k → (at : ℕ) (name : Identifier) (e : ExpressionTree) → found name.bytes k.names ≡ Some meaning.SetVariable
    → IsNumberExpression k.names inside.Main e → (add_vertex c.scope at name e).faults ≡ []
add_kept c k m at name e means number =
    let u = used_kept inside.Main c k m name meaning.SetVariable means in
    let is = set_variable (used_name c.scope name).value u.1 in
    let v = value_of c.scope at e in
    let x = number_value inside.Main c k m at e number in
    both_none (used_name c.scope name).faults _ u.0 (both_none v.faults _ x.none
    (subst (λ s. (added_to_set at v.value s).faults ≡ []) (sym is.1) (both_none (integer_wanted at v.value).faults [] (numeric_integer at v.value x.is) refl)))

number_printed : (at : ℕ) (v : ValueTree) → IsNumeric v → (printed at v).faults ≡ []
number_printed at (value.Integer e) is = refl
number_printed at (value.Condition c) is = refl
number_printed at (value.Vertex p) is = refl
number_printed at (value.Set slot) is = absurd is
number_printed at value.ErrorValue is = refl

truth_printed : (at : ℕ) (v : ValueTree) → IsOf Truth v → (printed at v).faults ≡ []
truth_printed at (value.Integer e) is = refl
truth_printed at (value.Condition c) is = refl
truth_printed at (value.Vertex p) is = refl
truth_printed at (value.Set slot) is = absurd is
truth_printed at value.ErrorValue is = refl

print_kept : (c : CheckerTree) (k : Known) → Matches inside.Main c k → (at : ℕ) (e : ExpressionTree) → IsNumberExpression k.names inside.Main e ⊎ IsTruth k.names inside.Main e
    → (print c.scope at e).faults ≡ []
print_kept c k m at e has =
    let v = value_of c.scope at e in
    elim has [
      | inl number ↦ let x = number_value inside.Main c k m at e number in both_none v.faults _ x.none (number_printed at v.value x.is)
      | inr truth ↦ let x = expression_kept inside.Main c k m at e Truth truth in both_none v.faults _ x.none (truth_printed at v.value x.is)
    ]

-- applies
if_applied : (at : ℕ) (m : WithFaults StatementKindTree) (b : Bool) → b ≡ false → m.faults ≡ [] → (if b then fault_at at rule.WrongType no_action else m).faults ≡ []
if_applied at m true is none = absurd cc
if_applied at m false is none = none

edges_applied_fine : (at : ℕ) (a b : ApplyEndTree) (ends weights : Bool) (index : ℕ) (weighted : Bool) → IsGood a → IsGood b → SeesWeights weights weighted
    → (applied at (entity.Edges weights) a b ends (entity.EdgeFunction index weighted)).faults ≡ []
edges_applied_fine at Absent Absent ends weights index weighted first second sees =
    if_applied at (edges_applied at Absent Absent false (Some index)) (not weights && weighted) (weights_seen weights weighted sees) refl
edges_applied_fine at Absent (initial_value.Given f) ends weights index weighted first second sees =
    if_applied at (edges_applied at Absent (initial_value.Given f) false (Some index)) (not weights && weighted) (weights_seen weights weighted sees) refl
edges_applied_fine at (initial_value.Given f) Absent ends weights index weighted first second sees =
    if_applied at (edges_applied at (initial_value.Given f) Absent false (Some index)) (not weights && weighted) (weights_seen weights weighted sees) refl
edges_applied_fine at (initial_value.Given f) (initial_value.Given g) ends weights index weighted first second sees =
    if_applied at (edges_applied at (initial_value.Given f) (initial_value.Given g) false (Some index)) (not weights && weighted) (weights_seen weights weighted sees) refl
edges_applied_fine at Absent Wrong ends weights index weighted first second sees = absurd second
edges_applied_fine at Absent ErrorEnd ends weights index weighted first second sees = absurd second
edges_applied_fine at (initial_value.Given f) Wrong ends weights index weighted first second sees = absurd second
edges_applied_fine at (initial_value.Given f) ErrorEnd ends weights index weighted first second sees = absurd second
edges_applied_fine at Wrong b ends weights index weighted first second sees = absurd first
edges_applied_fine at ErrorEnd b ends weights index weighted first second sees = absurd first

set_applied_fine : (at : ℕ) (t : Entity) (a b : ApplyEndTree) (index : ℕ) → type_named (Some (meaning_of t)) ≡ Some Set → (applied at t a b false (entity.VertexFunction index)).faults ≡ []
set_applied_fine at (entity.ConstantSet slot) a b index is = refl
set_applied_fine at (entity.SetVariable slot) a b index is = refl
set_applied_fine at _ a b index is = absurd cc

no_ends : (from to : Option Identifier) → from ≡ None → to ≡ None → (is_some from || is_some to) ≡ false
no_ends None None first second = refl
no_ends None (Some to) first second = absurd cc
no_ends (Some from) to first second = absurd cc

apply_kept : (c : CheckerTree) (k : Known) → Matches inside.Main c k → (at : ℕ) (target : Identifier) (ends : EndsTree) (function : Identifier) → ApplyFits k target ends function
    → (apply c.scope at target ends function).faults ≡ []
apply_kept c k m at target ends function (AppliesEdges weights index weighted edges fit means sees) =
    let t = used_kept inside.Main c k m target (meaning.Edges weights) edges in
    let a = end_kept inside.Main c k m ends.from fit.0 in
    let b = end_kept inside.Main c k m ends.to fit.1 in
    let f = used_kept inside.Main c k m function (meaning.EdgeFunction index weighted) means in
    let x = (apply_end_of c.scope ends.from).value in
    let y = (apply_end_of c.scope ends.to).value in
    both_none (used_name c.scope target).faults _ t.0 (both_none (apply_end_of c.scope ends.from).faults _ a.0
    (both_none (apply_end_of c.scope ends.to).faults _ b.0 (both_none (used_name c.scope function).faults _ f.0
    (subst (λ t. (applied at t x y (has_ends ends) (used_name c.scope function).value).faults ≡ []) (sym (edges_are (used_name c.scope target).value weights t.1))
    (subst (λ f. (applied at (entity.Edges weights) x y (has_ends ends) f).faults ≡ []) (sym (edge_function_entity (used_name c.scope function).value index weighted f.1))
    (edges_applied_fine at x y (has_ends ends) weights index weighted a.1 b.1 sees))))))
apply_kept c k m at target ends function (AppliesVertices set from to means) =
    let t = set_kept inside.Main c k m target set in
    let f = used_kept inside.Main c k m function meaning.VertexFunction means in
    let is = vertex_function_entity (used_name c.scope function).value f.1 in
    let x = (apply_end_of c.scope ends.from).value in
    let y = (apply_end_of c.scope ends.to).value in
    both_none (used_name c.scope target).faults _ t.0
    (both_none (apply_end_of c.scope ends.from).faults _ (subst (λ o. (apply_end_of c.scope o).faults ≡ []) (sym from) refl)
    (both_none (apply_end_of c.scope ends.to).faults _ (subst (λ o. (apply_end_of c.scope o).faults ≡ []) (sym to) refl) (both_none (used_name c.scope function).faults _ f.0
    (subst (λ f. (applied at (used_name c.scope target).value x y (has_ends ends) f).faults ≡ []) (sym is.1)
    (subst (λ has. (applied at (used_name c.scope target).value x y has (entity.VertexFunction is.0)).faults ≡ []) (sym (no_ends ends.from ends.to from to))
    (set_applied_fine at (used_name c.scope target).value x y is.0 t.1))))))

-- a statement that declares nothing
in_place_kept : (c : CheckerTree) (k : Known) → Matches inside.Main c k → (action : WithFaults StatementKindTree) → action.faults ≡ [] → Keeps inside.Main (in_place c action) k
in_place_kept c k m action none = (both_none action.faults [] none refl, m)

mutual
  pub action_kept : (c : CheckerTree) (k : Known) → Matches inside.Main c k → (action : source.StatementKindTree) → ActionKeeps inside.Main k action
      → Keeps inside.Main (action_typed c action) (known_behind inside.Main k action)
  action_kept c k m (source.Declare at p initial) keeps = declare_kept c k m at p.name initial p.declared keeps.0 keeps.1
  action_kept c k m (source.While at test body) keeps =
      let b = statements_kept c k m Empty body keeps.2 in (
        both_none (condition_in c.scope at test).faults _ (truth_kept inside.Main c k m at test keeps.1) (both_none (statements_typed c Empty body).faults [] b.0 refl),
        closed_kept inside.Main inside.Main c (statements_typed c Empty body).value.1 k (known_after inside.Main k body) m b.1,
      )
  action_kept c k m (source.For at name first limit body) keeps =
      let e = entity.LoopVariable (integer_slot c) in
      let d = declared_kept inside.Main c k m name e meaning.LoopName refl keeps.3 in
      let inner = (declared_in c name e).value in
      let b = statements_kept inner (with_meaning k name meaning.LoopName) d.1 Empty body keeps.4 in (
        both_none (integer_in c.scope at first).faults _ (number_kept inside.Main c k m at first keeps.1)
            (both_none (integer_in c.scope at limit).faults _ (number_kept inside.Main c k m at limit keeps.2)
            (both_none (declared_in c name e).faults _ d.0 (both_none (statements_typed inner Empty body).faults [] b.0 refl))),
        closed_kept inside.Main inside.Main c (statements_typed inner Empty body).value.1 k (known_after inside.Main (with_meaning k name meaning.LoopName) body) m b.1,
      )
  action_kept c k m (source.If at test body) keeps =
      let b = statements_kept c k m Empty body keeps.1 in (
        both_none (condition_in c.scope at test).faults _ (truth_kept inside.Main c k m at test keeps.0) (both_none (statements_typed c Empty body).faults [] b.0 refl),
        closed_kept inside.Main inside.Main c (statements_typed c Empty body).value.1 k (known_after inside.Main k body) m b.1,
      )
  action_kept c k m (source.IfElse at test body otherwise) keeps =
      let b = statements_kept c k m Empty body keeps.1 in
      let x = (statements_typed c Empty body).value.1 in
      let d = closed c x in
      let inner = closed_known k (known_after inside.Main k body) in
      let behind_first = closed_kept inside.Main inside.Main c x k (known_after inside.Main k body) m b.1 in
      let o = statements_kept d inner behind_first Empty otherwise keeps.2 in (
        both_none (condition_in c.scope at test).faults _ (truth_kept inside.Main c k m at test keeps.0)
            (both_none (statements_typed c Empty body).faults _ b.0 (both_none (statements_typed d Empty otherwise).faults [] o.0 refl)),
        closed_kept inside.Main inside.Main d (statements_typed d Empty otherwise).value.1 inner (known_after inside.Main inner otherwise) behind_first o.1,
      )
  action_kept c k m (source.Print at e) keeps = in_place_kept c k m (print c.scope at e) (print_kept c k m at e keeps.1)
  action_kept c k m (source.Assign name initial) keeps = in_place_kept c k m (assign c name.at name initial) (assign_kept c k m name.at name initial keeps)
  action_kept c k m (source.Reduce name by e) keeps = in_place_kept c k m (reduce c.scope name.at name by e) (reduce_kept c k m name.at name by e keeps.0 keeps.1)
  action_kept c k m (source.SetEntry vector subscript e) keeps =
      in_place_kept c k m (set_entry c.scope vector.at vector subscript e) (entry_kept c k m vector.at vector keeps.1.vector subscript e keeps.1.means keeps.2.0 keeps.2.1 keeps.3)
  action_kept c k m (source.ReduceEntry vector subscript by e) keeps =
      in_place_kept c k m (reduce_entry c.scope vector.at vector subscript by e) (entry_kept c k m vector.at vector keeps.index subscript e keeps.means keeps.at.0 keeps.at.1 keeps.value)
  action_kept c k m (source.AddVertex set e) keeps = in_place_kept c k m (add_vertex c.scope set.at set e) (add_kept c k m set.at set e keeps.1 keeps.2)
  action_kept c k m (source.Apply target ends function) keeps = in_place_kept c k m (apply c.scope target.at target ends function) (apply_kept c k m target.at target ends function keeps.1)

  pub statements_kept : (c : CheckerTree) (k : Known) → Matches inside.Main c k → (so_far : BlockTree) (block : source.BlockTree) → BlockKeeps inside.Main k block
      → Keeps inside.Main (statements_typed c so_far block) (known_after inside.Main k block)
  statements_kept c k m so_far source.Empty keeps = (refl, m)
  statements_kept c k m so_far (source.Then label action others) keeps =
      let l = labelled_kept inside.Main c k m label keeps.0 in
      let d = counted (with_label c label).value.1 in
      let here = counted_kept inside.Main (with_label c label).value.1 (labelled_known k label) l.1 in
      let a = action_kept d (labelled_known k label) here action keeps.1 in
      let x = (action_typed d action).value in
      let more = then_statement so_far (suc (with_label c label).value.1.statements) (with_label c label).value.0 x.0 in
      let rest = statements_kept x.1 (known_behind inside.Main (labelled_known k label) action) a.1 more others keeps.2 in
      (both_none (with_label c label).faults _ l.0 (both_none (action_typed d action).faults _ a.0 rest.0), rest.1)
