-- A statement of a function that keeps the rules has no fault, and after it is known what its checker knows.
use Rattle.std.proofs.Common.{◌≡◌, refl, sym, subst, ℕ, Bool, true, nat_eq, List, [], ◌++◌, length, Option, Some, None}
use Rattle.std.specs.Map.{lookup}
use Rattle.syntax.specs.Terminals.{Identifier}
use Rattle.syntax.specs.SourceTrees.{ExpressionTree, InitialTree}
use Rattle.syntax.specs.SourceTrees as source
use Rattle.syntax.specs.declared.declaration.DeclaredType.{DeclaredType}
use Rattle.syntax.specs.declared.declaration.DeclaredType.TheVariants as declared
use Rattle.apply_options.specs.declared.reduction.Reduction.{Reduction}
use Rattle.apply_options.specs.declared.reduction.Reduction.TheVariants as reduction
use Rattle.typed_tree.specs.FunctionStatementTree.{DeclareBool, DeclareInt, NoStep, FunctionStatementTree, FunctionStatementsTree}
use Rattle.typed_tree.specs.declared.expression.Endpoint.{Endpoint}
use Rattle.typed_tree.specs.declared.expression.Endpoint.TheVariants as endpoint
use Rattle.expression_types.specs.declared.scope.Entity.TheVariants as entity
use Rattle.expression_types.specs.declared.scope.Inside.{Inside}
use Rattle.expression_types.specs.declared.scope.Inside.TheVariants as inside
use Rattle.expression_types.specs.Expression.{index_value, used_name, value_of, vector_index}
use Rattle.expression_types.specs.ScopeTree.{found}
use Rattle.expression_types.specs.ValueTree as value
use Rattle.expression_types.specs.ValueTree.{ValueTree}
use Rattle.expression_types.specs.Faults.{WithFaults}
use Rattle.initializer_types.specs.Checker.{CheckerTree, condition_slot, integer_slot, with_label, integer_wanted, condition_in, integer_in}
use Rattle.initializer_types.specs.Initial.{initializer_condition, initializer_integer, initializer_of}
use Rattle.types.specs.Step.{assign_step, assigned_step, at_own, declare_step, may_reduce, may_set, one_reduction, own_vertex, reduce_entry_step, reduce_step, reduced_as, reduced_step, same_endpoint}
use Rattle.types.specs.Step.{same_reduction, set_entry_step, step_after, step_in_place, step_typed, steps_after, steps_typed, with_writes, written_at, written_with}
use Rattle.type_laws.specs.ExpressionTypes.{ExpressionHas, IsNumberExpression, Vertex}
use Rattle.type_laws.specs.KeptRules.{ActionKeeps, AgreesWith, AssignFits, AssignsNumber, AssignsSet, AssignsTruth, BlockKeeps, IsMain, MayHoldSets, MayReduce, MaySet, ReducesEntry, VariableFits}
use Rattle.type_laws.specs.KeptRules.{WrittenAt}
use Rattle.type_laws.specs.Meanings as meaning
use Rattle.type_laws.specs.ScopeMeanings.{meanings_of}
use Rattle.type_laws.specs.Meanings.{IsNew, Known, closed_known, known_after, known_behind, labelled_known, reduced_in, meanings_reduced_with, variable_meaning, with_meaning, with_reduction}
use Rattle.type_laws.proofs.TypedExpressions.{IsOf, index_is_value}
use Rattle.type_laws.proofs.KeptNames.{Matches, closed_kept, expression_kept, labelled_kept, number_kept, number_value, number_variable, numeric_integer, truth_kept, truth_variable, used_kept}
use Rattle.type_laws.proofs.KeptNames.{vector_kept}
use Rattle.type_laws.proofs.KeptStatements.{declares, given_number, given_truth}
use Rattle.type_laws.proofs.Faultless.{both_none}

-- a function of a user
abbrev pub IsUser : Inside → Type 0
IsUser inside.Main = ⊥
IsUser inside.EdgeFunction = Unit {0}
IsUser inside.VertexFunction = Unit {0}
IsUser inside.Filter = Unit {0}

abbrev pub StepKeeps : {A : Type 0} → Inside → WithFaults (A × CheckerTree) → Known → Type 0
StepKeeps i m k = (m.faults ≡ []) × Matches i m.value.1 k

no_sets : {A : Type 0} (i : Inside) → IsUser i → MayHoldSets i → A
no_sets inside.Main user may = absurd user
no_sets inside.EdgeFunction user may = absurd may
no_sets inside.VertexFunction user may = absurd may
no_sets inside.Filter user may = absurd may

declare_step_kept : (i : Inside) (c : CheckerTree) (k : Known) → IsUser i → Matches i c k → (at : ℕ) (name : Identifier) (initial : InitialTree) (type : DeclaredType) → VariableFits i k type initial
    → IsNew k name → StepKeeps i (declare_step c at name type initial) (with_meaning k name (variable_meaning type))
declare_step_kept i c k user m at name initial declared.Int fits new =
    let g = initializer_of c at initial in
    let x = given_number i c k m at initial fits in
    let d = declares i c k m name (entity.IntVariable (integer_slot c)) meaning.NumberVariable refl new (initializer_integer at g.value) x.1 (DeclareInt (length c.names)) in
    (both_none g.faults _ x.0 d.0, d.1)
declare_step_kept i c k user m at name initial declared.Bool fits new =
    let g = initializer_of c at initial in
    let x = given_truth i c k m at initial fits in
    let d = declares i c k m name (entity.BoolVariable (condition_slot c)) meaning.TruthVariable refl new (initializer_condition at g.value) x.1 (DeclareBool (length c.names)) in
    (both_none g.faults _ x.0 d.0, d.1)
declare_step_kept i c k user m at name initial declared.VertexSet fits new = no_sets i user fits.0
declare_step_kept i c k user m at name initial declared.Vertex fits new = absurd fits
declare_step_kept i c k user m at name initial declared.Vector fits new = absurd fits
declare_step_kept i c k user m at name initial declared.EdgeSet fits new = absurd fits
declare_step_kept i c k user m at name initial declared.WeightedEdgeSet fits new = absurd fits

assign_step_kept : (i : Inside) (c : CheckerTree) (k : Known) → IsUser i → Matches i c k → (at : ℕ) (name : Identifier) (initial : InitialTree) → AssignFits i k name initial
    → (assign_step c at name initial).faults ≡ []
assign_step_kept i c k user m at name initial (AssignsNumber means gives) =
    let u = used_kept i c k m name meaning.NumberVariable means in
    let is = number_variable (used_name c.scope name).value u.1 in
    let g = initializer_of c at initial in
    let x = given_number i c k m at initial gives in
    both_none (used_name c.scope name).faults _ u.0 (both_none g.faults _ x.0
    (subst (λ e. (assigned_step at g.value e).faults ≡ []) (sym is.1) (both_none (initializer_integer at g.value).faults [] x.1 refl)))
assign_step_kept i c k user m at name initial (AssignsTruth means gives) =
    let u = used_kept i c k m name meaning.TruthVariable means in
    let is = truth_variable (used_name c.scope name).value u.1 in
    let g = initializer_of c at initial in
    let x = given_truth i c k m at initial gives in
    both_none (used_name c.scope name).faults _ u.0 (both_none g.faults _ x.0
    (subst (λ e. (assigned_step at g.value e).faults ≡ []) (sym is.1) (both_none (initializer_condition at g.value).faults [] x.1 refl)))
assign_step_kept i c k user m at name initial (AssignsSet means may gives) = no_sets i user may

reduce_step_kept : (i : Inside) (c : CheckerTree) (k : Known) → Matches i c k → (at : ℕ) (name : Identifier) (by : Reduction) (e : ExpressionTree)
    → found name.bytes k.names ≡ Some meaning.NumberVariable
    → IsNumberExpression k.names i e → (reduce_step c.scope at name by e).faults ≡ []
reduce_step_kept i c k m at name by e means number =
    let u = used_kept i c k m name meaning.NumberVariable means in
    let is = number_variable (used_name c.scope name).value u.1 in
    let v = value_of c.scope at e in
    let x = number_value i c k m at e number in
    both_none (used_name c.scope name).faults _ u.0 (both_none v.faults _ x.none
    (subst (λ n. (reduced_step at by v.value n).faults ≡ []) (sym is.1) (both_none (integer_wanted at v.value).faults [] (numeric_integer at v.value x.is) refl)))

-- an entry is written at the function's own vertex
same_end : (at : ℕ) (own : Endpoint) → (at_own at (same_endpoint own own)).faults ≡ []
same_end at endpoint.Source = refl
same_end at endpoint.Destination = refl

written_fine : (at : ℕ) (own : Endpoint) (v : ValueTree) → IsOf (Vertex own) v → (written_at at own v).faults ≡ []
written_fine at own (value.Integer e) is = absurd is
written_fine at own (value.Condition c) is = absurd is
written_fine at own (value.Vertex q) is = subst (λ p. (at_own at (same_endpoint p own)).faults ≡ []) (sym is) (same_end at own)
written_fine at own (value.Set slot) is = absurd is
written_fine at own value.ErrorValue is = absurd is

-- the index and the value of an entry that is written
index_and_value : (i : Inside) (c : CheckerTree) (k : Known) → Matches i c k → (at : ℕ) (index e : ExpressionTree) → ExpressionHas k.names i index (Vertex (own_vertex i))
    → IsNumberExpression k.names i e
    → (index_value c.scope at index).faults ++ ((written_at at (own_vertex c.scope.inside) (index_value c.scope at index).value).faults ++ ((integer_in c.scope at e).faults ++ [])) ≡ []
index_and_value i c k m at index e has number =
    let v = expression_kept i c k m at index (Vertex (own_vertex i)) has in
    let here = subst (λ j. ExpressionHas (meanings_of c.scope.visible) j index (Vertex (own_vertex i))) (sym m.inside)
    (subst (λ n. ExpressionHas n i index (Vertex (own_vertex i))) (sym m.names) has) in
    let is = index_is_value c.scope at index (Vertex (own_vertex i)) here in
    subst (λ x. x.faults ++ ((written_at at (own_vertex c.scope.inside) x.value).faults ++ ((integer_in c.scope at e).faults ++ [])) ≡ []) (sym is)
    (both_none (value_of c.scope at index).faults _ v.none
    (both_none (written_at at (own_vertex c.scope.inside) (value_of c.scope at index).value).faults _
    (subst (λ j. (written_at at (own_vertex j) (value_of c.scope at index).value).faults ≡ []) (sym m.inside) (written_fine at (own_vertex i) (value_of c.scope at index).value v.is))
    (both_none (integer_in c.scope at e).faults [] (number_kept i c k m at e number) refl)))

at_own_vertex : (i : Inside) (names : meaning.Meanings) (index : ExpressionTree) → IsUser i → WrittenAt i names index → ExpressionHas names i index (Vertex (own_vertex i))
at_own_vertex inside.Main names index user at = absurd user
at_own_vertex inside.EdgeFunction names index user at = at
at_own_vertex inside.VertexFunction names index user at = at
at_own_vertex inside.Filter names index user at = absurd at

may_set_fine : (at : ℕ) (i : Inside) → MaySet i → (may_set at i).faults ≡ []
may_set_fine at inside.Main may = refl
may_set_fine at inside.EdgeFunction may = absurd may
may_set_fine at inside.VertexFunction may = refl
may_set_fine at inside.Filter may = absurd may

set_entry_kept : (i : Inside) (c : CheckerTree) (k : Known) → IsUser i → Matches i c k → (at : ℕ) (name : Identifier) (vector : ℕ) (index e : ExpressionTree) → MaySet i
    → found name.bytes k.names ≡ Some (meaning.Vector vector) → WrittenAt i k.names index → IsNumberExpression k.names i e → (set_entry_step c.scope at name index e).faults ≡ []
set_entry_kept i c k user m at name vector index e may means written number =
    both_none (may_set at c.scope.inside).faults _ (subst (λ j. (may_set at j).faults ≡ []) (sym m.inside) (may_set_fine at i may))
    (both_none (vector_index c.scope at name).faults _ (vector_kept i c k m at name vector means).0
    (index_and_value i c k m at index e (at_own_vertex i k.names index user written) number))

-- one reduction of a vector
own_reduction : (by : Reduction) → same_reduction by by ≡ true
own_reduction reduction.Min = refl
own_reduction reduction.Max = refl
own_reduction reduction.Plus = refl

pub record Reduced (m : WithFaults (Bool × List (ℕ × Reduction))) (writes : List (ℕ × Reduction)) : Type 0 where
  pub none : m.faults ≡ []
  pub writes_are : m.value.1 ≡ writes

agreeing : (at vector : ℕ) (by : Reduction) (writes : List (ℕ × Reduction)) (first : Option Reduction) → AgreesWith first by
    → Reduced (written_with at vector by writes first) (with_reduction first vector by writes)
agreeing at vector by writes None agrees = record { none = refl; writes_are = refl }
agreeing at vector by writes (Some first) agrees =
    subst (λ f. Reduced (reduced_as at (same_reduction f by) writes) writes) (sym agrees)
    (subst (λ b. Reduced (reduced_as at b writes) writes) (sym (own_reduction by)) (record { none = refl; writes_are = refl }))

-- what the checker notes of a reduction is what is known of it
reduces : (i : Inside) (k : Known) (at vector : ℕ) (name : Identifier) (by : Reduction) → IsUser i → found name.bytes k.names ≡ Some (meaning.Vector vector) → MayReduce i k vector by
    → Reduced (may_reduce at i (Some vector) by k.reduced) (reduced_in i k name by).reduced
reduces inside.Main k at vector name by user means may = absurd user
reduces inside.EdgeFunction k at vector name by user means may =
    subst (λ o. Reduced (one_reduction at (Some vector) by k.reduced) (meanings_reduced_with o by k.reduced)) (sym means) (agreeing at vector by k.reduced (lookup (nat_eq vector) k.reduced) may)
reduces inside.VertexFunction k at vector name by user means may = record { none = refl; writes_are = refl }
reduces inside.Filter k at vector name by user means may = absurd may

with_reduced : (i : Inside) (c : CheckerTree) (k : Known) (name : Identifier) (by : Reduction) (writes : List (ℕ × Reduction)) → Matches i c k → writes ≡ (reduced_in i k name by).reduced
    → Matches i (with_writes c writes) (reduced_in i k name by)
with_reduced inside.Main c k name by writes m is = record { names = m.names; labels = m.labels; reduced = is; written = m.written; inside = m.inside }
with_reduced inside.EdgeFunction c k name by writes m is = record { names = m.names; labels = m.labels; reduced = is; written = m.written; inside = m.inside }
with_reduced inside.VertexFunction c k name by writes m is = record { names = m.names; labels = m.labels; reduced = is; written = m.written; inside = m.inside }
with_reduced inside.Filter c k name by writes m is = record { names = m.names; labels = m.labels; reduced = is; written = m.written; inside = m.inside }

reduce_entry_kept : (i : Inside) (c : CheckerTree) (k : Known) → IsUser i → Matches i c k → (at : ℕ) (name : Identifier) (subscript : ExpressionTree) (by : Reduction) (e : ExpressionTree)
    → ReducesEntry i k name subscript by e → StepKeeps i (reduce_entry_step c at name subscript by e) (reduced_in i k name by)
reduce_entry_kept i c k user m at name subscript by e keeps =
    let index = vector_index c.scope at name in
    let there = vector_kept i c k m at name keeps.index keeps.means in
    let may = may_reduce at c.scope.inside index.value by c.writes in
    let is : Reduced may (reduced_in i k name by).reduced =
    subst (λ j. Reduced (may_reduce at j index.value by c.writes) (reduced_in i k name by).reduced) (sym m.inside)
    (subst (λ p. Reduced (may_reduce at i p by c.writes) (reduced_in i k name by).reduced) (sym there.1)
    (subst (λ w. Reduced (may_reduce at i (Some keeps.index) by w) (reduced_in i k name by).reduced) (sym m.reduced)
    (reduces i k at keeps.index name by user keeps.means keeps.may))) in (
      both_none index.faults _ there.0 (both_none may.faults _ is.none (index_and_value i c k m at subscript e (at_own_vertex i k.names subscript user keeps.at) keeps.value)),
      with_reduced i c k name by may.value.1 m is.writes_are,
    )

step_in_place_kept : (i : Inside) (c : CheckerTree) (k : Known) → Matches i c k → (step : WithFaults FunctionStatementTree) → step.faults ≡ [] → StepKeeps i (step_in_place c step) k
step_in_place_kept i c k m step none = (both_none step.faults [] none refl, m)

not_main : {A : Type 0} (i : Inside) → IsUser i → IsMain i → A
not_main inside.Main user main = absurd user
not_main inside.EdgeFunction user main = absurd main
not_main inside.VertexFunction user main = absurd main
not_main inside.Filter user main = absurd main

mutual
  pub step_kept : (i : Inside) (c : CheckerTree) (k : Known) → IsUser i → Matches i c k → (action : source.StatementKindTree) → ActionKeeps i k action
      → StepKeeps i (step_typed c action) (known_behind i k action)
  step_kept i c k user m (source.Declare at p initial) keeps = declare_step_kept i c k user m at p.name initial p.declared keeps.0 keeps.1
  step_kept i c k user m (source.While at test body) keeps = not_main i user keeps.0
  step_kept i c k user m (source.For at name first limit body) keeps = not_main i user keeps.0
  step_kept i c k user m (source.If at test body) keeps =
      let b = steps_kept i c k user m NoStep body keeps.1 in (
        both_none (condition_in c.scope at test).faults _ (truth_kept i c k m at test keeps.0) (both_none (steps_typed c NoStep body).faults [] b.0 refl),
        closed_kept i i c (steps_typed c NoStep body).value.1 k (known_after i k body) m b.1,
      )
  step_kept i c k user m (source.IfElse at test body otherwise) keeps =
      let b = steps_kept i c k user m NoStep body keeps.1 in
      let x = (steps_typed c NoStep body).value.1 in
      let d = steps_after c x in
      let inner = closed_known k (known_after i k body) in
      let behind_first = closed_kept i i c x k (known_after i k body) m b.1 in
      let o = steps_kept i d inner user behind_first NoStep otherwise keeps.2 in (
        both_none (condition_in c.scope at test).faults _ (truth_kept i c k m at test keeps.0)
            (both_none (steps_typed c NoStep body).faults _ b.0 (both_none (steps_typed d NoStep otherwise).faults [] o.0 refl)),
        closed_kept i i d (steps_typed d NoStep otherwise).value.1 inner (known_after i inner otherwise) behind_first o.1,
      )
  step_kept i c k user m (source.Print at e) keeps = not_main i user keeps.0
  step_kept i c k user m (source.Assign name initial) keeps = step_in_place_kept i c k m (assign_step c name.at name initial) (assign_step_kept i c k user m name.at name initial keeps)
  step_kept i c k user m (source.Reduce name by e) keeps = step_in_place_kept i c k m (reduce_step c.scope name.at name by e) (reduce_step_kept i c k m name.at name by e keeps.0 keeps.1)
  step_kept i c k user m (source.SetEntry vector index e) keeps =
      step_in_place_kept i c k m (set_entry_step c.scope vector.at vector index e) (set_entry_kept i c k user m vector.at vector keeps.1.vector index e keeps.0 keeps.1.means keeps.2 keeps.3)
  step_kept i c k user m (source.ReduceEntry vector index by e) keeps = reduce_entry_kept i c k user m vector.at vector index by e keeps
  step_kept i c k user m (source.AddVertex set e) keeps = not_main i user keeps.0
  step_kept i c k user m (source.Apply target ends function) keeps = not_main i user keeps.0

  pub steps_kept : (i : Inside) (c : CheckerTree) (k : Known) → IsUser i → Matches i c k → (so_far : FunctionStatementsTree) (block : source.BlockTree) → BlockKeeps i k block
      → StepKeeps i (steps_typed c so_far block) (known_after i k block)
  steps_kept i c k user m so_far source.Empty keeps = (refl, m)
  steps_kept i c k user m so_far (source.Then label action others) keeps =
      let l = labelled_kept i c k m label keeps.0 in
      let d = (with_label c label).value.1 in
      let s = step_kept i d (labelled_known k label) user l.1 action keeps.1 in
      let x = (step_typed d action).value in
      let rest = steps_kept i x.1 (known_behind i (labelled_known k label) action) user s.1 (step_after so_far x.0) others keeps.2 in
      (both_none (with_label c label).faults _ l.0 (both_none (step_typed d action).faults _ s.0 rest.0), rest.1)
