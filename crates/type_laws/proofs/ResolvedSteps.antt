-- The statements of a function without a fault are resolved.
use Rattle.std.proofs.Common.{◌≡◌, refl, ap, sym, subst, ◌∙◌, ℕ, Bool, true, false, [], ◌∷◌, ◌++◌, length, length-append, arith, Option, Some, None}
use Rattle.std.specs.Prelude.{slice_get}
use Rattle.syntax.specs.Terminals.{Identifier}
use Rattle.syntax.specs.declared.declaration.DeclaredType.{DeclaredType}
use Rattle.syntax.specs.declared.declaration.DeclaredType.TheVariants as declared
use Rattle.apply_options.specs.declared.reduction.Reduction.{Reduction}
use Rattle.syntax.specs.SourceTrees as source
use Rattle.typed_tree.specs.IntExpressionTree.{IntExpressionTree}
use Rattle.typed_tree.specs.FunctionStatementTree.{FunctionStatementTree, FunctionStatementsTree, NoStep, StepThen}
use Rattle.typed_tree.specs.ProgramTree.{ProgramTree}
use Rattle.typed_tree.specs.Resolved.{VisibleTree, IntegerIsResolved, IsVectorIndex, StepIsResolved, StepsAreResolved, behind_step, with_condition, with_integer}
use Rattle.expression_types.specs.declared.scope.Entity.{Entity}
use Rattle.expression_types.specs.declared.scope.Entity.TheVariants as entity
use Rattle.expression_types.specs.Expression.{index_value, used_name, value_of, vector_index}
use Rattle.expression_types.specs.ValueTree.{ValueTree}
use Rattle.initializer_types.specs.Checker.{CheckerTree, condition_slot, declared_in, integer_slot, with_label, condition_in, integer_in}
use Rattle.initializer_types.specs.Initial.{InitializerTree, initializer_condition, initializer_of, initializer_integer}
use Rattle.types.specs.Step.{assign_step, assigned_step, declare_step_as, entry_step, may_reduce, may_set, own_vertex, reduce_entry_step, reduce_step, reduced_step, reduction_step, set_entry_step}
use Rattle.types.specs.Step.{step_after, step_typed, steps_after, steps_typed, written_at}
use Rattle.type_laws.proofs.Faultless.{no_left, no_right, not_empty}
use Rattle.type_laws.proofs.ResolvedScopes.{CheckerFits, Grows, Within, declared_before, declared_fits, declared_name, get_before, get_last, labelled_before, labelled_fits, left_fits}
use Rattle.type_laws.proofs.ResolvedValues.{EntityIsResolved, InitializerIsResolved, MaybeVariable, ValueIsResolved, as_integer_resolved, initializer_condition_resolved, condition_in_resolved}
use Rattle.type_laws.proofs.ResolvedValues.{initializer_resolved, initializer_integer_resolved, integer_in_resolved, used_resolved, value_resolved, vector_resolved}

-- one more variable
pub integer_grows : (name : ℕ) (v : VisibleTree) → Grows v (with_integer name v)
integer_grows name v = record {
  integers = λ k x is. get_before v.integers (Some name ∷ []) k x is;
  conditions = λ k x is. is;
  sets = λ k x is. is;
  vertices = omega arith;
}

pub condition_grows : (name : ℕ) (v : VisibleTree) → Grows v (with_condition name v)
condition_grows name v = record {
  integers = λ k x is. is;
  conditions = λ k x is. get_before v.conditions (name ∷ []) k x is;
  sets = λ k x is. is;
  vertices = omega arith;
}

pub integer_declared : (p : ProgramTree) (v : VisibleTree) (c : CheckerTree) (name : Identifier) → (declared_in c name (entity.IntVariable (integer_slot c))).faults ≡ []
    → Within p (declared_in c name (entity.IntVariable (integer_slot c))).value → CheckerFits p v c
    → CheckerFits p (with_integer (length c.names) v) (declared_in c name (entity.IntVariable (integer_slot c))).value
integer_declared p v c name none within fits =
    let e = entity.IntVariable (integer_slot c) in
    let index = ap (λ k. slice_get (v.integers ++ Some (length c.names) ∷ []) k) fits.0.integers ∙ get_last v.integers (Some (length c.names)) [] in
    declared_fits p v (with_integer (length c.names) v) c name e none fits (integer_grows (length c.names) v) refl (index, declared_name p c name e within)
    (length-append v.integers (Some (length c.names) ∷ [])) (omega arith) (omega arith)

pub condition_declared : (p : ProgramTree) (v : VisibleTree) (c : CheckerTree) (name : Identifier) → (declared_in c name (entity.BoolVariable (condition_slot c))).faults ≡ []
    → Within p (declared_in c name (entity.BoolVariable (condition_slot c))).value → CheckerFits p v c
    → CheckerFits p (with_condition (length c.names) v) (declared_in c name (entity.BoolVariable (condition_slot c))).value
condition_declared p v c name none within fits =
    let e = entity.BoolVariable (condition_slot c) in
    let index = ap (λ k. slice_get (v.conditions ++ length c.names ∷ []) k) fits.0.conditions ∙ get_last v.conditions (length c.names) [] in
    declared_fits p v (with_condition (length c.names) v) c name e none fits (condition_grows (length c.names) v) refl (index, declared_name p c name e within)
    (omega arith) (length-append v.conditions (length c.names ∷ [])) (omega arith)

-- what was met before a statement was met before its end
declare_before : (p : ProgramTree) (c : CheckerTree) (at : ℕ) (name : Identifier) (initializer : InitializerTree) (type : DeclaredType) → Within p (declare_step_as c at name initializer type).value.1
    → Within p c
declare_before p c at name initializer declared.Int within = declared_before p c name (entity.IntVariable (integer_slot c)) within
declare_before p c at name initializer declared.Bool within = declared_before p c name (entity.BoolVariable (condition_slot c)) within
declare_before p c at name initializer declared.Vertex within = declared_before p c name entity.Error within
declare_before p c at name initializer declared.VertexSet within = declared_before p c name entity.Error within
declare_before p c at name initializer declared.Vector within = declared_before p c name entity.Error within
declare_before p c at name initializer declared.EdgeSet within = declared_before p c name entity.Error within
declare_before p c at name initializer declared.WeightedEdgeSet within = declared_before p c name entity.Error within

mutual
  step_before : (p : ProgramTree) (c : CheckerTree) (action : source.StatementKindTree) → Within p (step_typed c action).value.1 → Within p c
  step_before p c (source.Declare at v initial) within = declare_before p c at v.name (initializer_of c at initial).value v.declared within
  step_before p c (source.While at test body) within = steps_before p c NoStep body within
  step_before p c (source.For at name first limit body) within =
      let e = entity.LoopVariable (integer_slot c) in
      declared_before p c name e (steps_before p (declared_in c name e).value NoStep body within)
  step_before p c (source.If at test body) within = steps_before p c NoStep body within
  step_before p c (source.IfElse at test body otherwise) within =
      let b = (steps_typed c NoStep body).value in
      steps_before p c NoStep body (steps_before p (steps_after c b.1) NoStep otherwise within)
  step_before p c (source.Print at e) within = within
  step_before p c (source.Assign name initial) within = within
  step_before p c (source.Reduce name by e) within = within
  step_before p c (source.SetEntry vector index e) within = within
  step_before p c (source.ReduceEntry vector index by e) within = within
  step_before p c (source.AddVertex set e) within = within
  step_before p c (source.Apply target ends function) within = within

  pub steps_before : (p : ProgramTree) (c : CheckerTree) (so_far : FunctionStatementsTree) (block : source.BlockTree) → Within p (steps_typed c so_far block).value.1 → Within p c
  steps_before p c so_far source.Empty within = within
  steps_before p c so_far (source.Then label action others) within =
      let l = (with_label c label).value in
      let s = (step_typed l.1 action).value in
      labelled_before p c label (step_before p l.1 action (steps_before p s.1 (step_after so_far s.0) others within))

-- what is visible after statements
abbrev pub behind_steps : FunctionStatementsTree → VisibleTree → VisibleTree
behind_steps NoStep v = v
behind_steps (StepThen step others) v = behind_steps others (behind_step step v)

steps_then : (p : ProgramTree) (v : VisibleTree) (so_far : FunctionStatementsTree) (step : FunctionStatementTree) → StepsAreResolved p v so_far → StepIsResolved p (behind_steps so_far v) step
    → StepsAreResolved p v (step_after so_far step)
steps_then p v NoStep step resolved last = (last, tt)
steps_then p v (StepThen s others) step resolved last = (resolved.0, steps_then p (behind_step s v) others step resolved.1 last)

after_then : (v : VisibleTree) (so_far : FunctionStatementsTree) (step : FunctionStatementTree) → behind_steps (step_after so_far step) v ≡ behind_step step (behind_steps so_far v)
after_then v NoStep step = refl
after_then v (StepThen s others) step = after_then (behind_step s v) others step

-- a statement that declares nothing
abbrev PlainStep : ProgramTree → VisibleTree → FunctionStatementTree → Type 0
PlainStep p v step = StepIsResolved p v step × (behind_step step v ≡ v)

assigned_plain : (p : ProgramTree) (v : VisibleTree) (at : ℕ) (initializer : InitializerTree) (e : Entity) → InitializerIsResolved p v initializer → EntityIsResolved p v e
    → PlainStep p v (assigned_step at initializer e).value
assigned_plain p v at initializer (entity.IntVariable slot) value is = ((is, initializer_integer_resolved p v at initializer value), refl)
assigned_plain p v at initializer (entity.BoolVariable slot) value is = ((is, initializer_condition_resolved p v at initializer value), refl)
assigned_plain p v at initializer _ value is = ((tt, tt), refl)

reduced_plain : (p : ProgramTree) (v : VisibleTree) (at : ℕ) (by : Reduction) (x : ValueTree) (e : Entity) → ValueIsResolved p v x → EntityIsResolved p v e
    → PlainStep p v (reduced_step at by x e).value
reduced_plain p v at by x (entity.IntVariable slot) value is = ((is, as_integer_resolved p v at x value), refl)
reduced_plain p v at by x _ value is = ((tt, tt), refl)

set_plain : (p : ProgramTree) (v : VisibleTree) (may own : Bool) (vector : Option ℕ) (e : IntExpressionTree) → MaybeVariable (IsVectorIndex p) vector → IntegerIsResolved p v e
    → PlainStep p v (entry_step may own vector e)
set_plain p v may own None e is value = ((tt, tt), refl)
set_plain p v false own (Some vector) e is value = ((tt, tt), refl)
set_plain p v true false (Some vector) e is value = ((tt, tt), refl)
set_plain p v true true (Some vector) e is value = ((is, value), refl)

reduction_plain : (p : ProgramTree) (v : VisibleTree) (may own : Bool) (vector : Option ℕ) (by : Reduction) (e : IntExpressionTree) → MaybeVariable (IsVectorIndex p) vector → IntegerIsResolved p v e
    → PlainStep p v (reduction_step may own vector by e)
reduction_plain p v may own None by e is value = ((tt, tt), refl)
reduction_plain p v false own (Some vector) by e is value = ((tt, tt), refl)
reduction_plain p v true false (Some vector) by e is value = ((tt, tt), refl)
reduction_plain p v true true (Some vector) by e is value = ((is, value), refl)

-- a statement, and what is known after it
abbrev StepFits : ProgramTree → VisibleTree → FunctionStatementTree × CheckerTree → Type 0
StepFits p v r = StepIsResolved p v r.0 × CheckerFits p (behind_step r.0 v) r.1

abbrev pub StepsFit : ProgramTree → VisibleTree → FunctionStatementsTree × CheckerTree → Type 0
StepsFit p v r = StepsAreResolved p v r.0 × CheckerFits p (behind_steps r.0 v) r.1

plain_fits : (p : ProgramTree) (v : VisibleTree) (c : CheckerTree) (step : FunctionStatementTree) → CheckerFits p v c → PlainStep p v step → StepFits p v (step, c)
plain_fits p v c step fits plain = (plain.0, subst (λ w. CheckerFits p w c) (sym plain.1) fits)

declare_fits : (p : ProgramTree) (v : VisibleTree) (c : CheckerTree) (at : ℕ) (name : Identifier) (initializer : InitializerTree) (type : DeclaredType)
    → (declare_step_as c at name initializer type).faults ≡ [] → Within p (declare_step_as c at name initializer type).value.1 → CheckerFits p v c → InitializerIsResolved p v initializer
    → StepFits p v (declare_step_as c at name initializer type).value
declare_fits p v c at name initializer declared.Int none within fits value =
    let e = entity.IntVariable (integer_slot c) in
    let left = no_left (declared_in c name e).faults [] (no_right (initializer_integer at initializer).faults _ none) in
    ((declared_name p c name e within, initializer_integer_resolved p v at initializer value), integer_declared p v c name left within fits)
declare_fits p v c at name initializer declared.Bool none within fits value =
    let e = entity.BoolVariable (condition_slot c) in
    let left = no_left (declared_in c name e).faults [] (no_right (initializer_condition at initializer).faults _ none) in
    ((declared_name p c name e within, initializer_condition_resolved p v at initializer value), condition_declared p v c name left within fits)
declare_fits p v c at name initializer declared.Vertex none within fits value = absurd (not_empty _ _ none)
declare_fits p v c at name initializer declared.VertexSet none within fits value = absurd (not_empty _ _ none)
declare_fits p v c at name initializer declared.Vector none within fits value = absurd (not_empty _ _ none)
declare_fits p v c at name initializer declared.EdgeSet none within fits value = absurd (not_empty _ _ none)
declare_fits p v c at name initializer declared.WeightedEdgeSet none within fits value = absurd (not_empty _ _ none)

mutual
  step_fits : (p : ProgramTree) (v : VisibleTree) (c : CheckerTree) (action : source.StatementKindTree) → (step_typed c action).faults ≡ [] → Within p (step_typed c action).value.1
      → CheckerFits p v c → StepFits p v (step_typed c action).value
  step_fits p v c (source.Declare at x initial) none within fits =
      let initializer = initializer_of c at initial in
      declare_fits p v c at x.name initializer.value x.declared (no_right initializer.faults _ none) within fits (initializer_resolved p v c at fits.0.known initial)
  step_fits p v c (source.While at test body) none within fits = absurd (not_empty _ _ none)
  step_fits p v c (source.For at name first limit body) none within fits = absurd (not_empty _ _ none)
  step_fits p v c (source.If at test body) none within fits =
      let b = steps_typed c NoStep body in
      let left = no_left b.faults [] (no_right (condition_in c.scope at test).faults _ none) in
      let inner = steps_fit p v c NoStep body left within tt fits in
      ((condition_in_resolved p v c.scope at fits.0.known test, inner.0), left_fits p v (behind_steps b.value.0 v) c b.value.1 fits inner.1)
  step_fits p v c (source.IfElse at test body otherwise) none within fits =
      let b = steps_typed c NoStep body in
      let d = steps_after c b.value.1 in
      let o = steps_typed d NoStep otherwise in
      let both = no_right (condition_in c.scope at test).faults (b.faults ++ (o.faults ++ [])) none in
      let inner = steps_fit p v c NoStep body (no_left b.faults (o.faults ++ []) both) (steps_before p d NoStep otherwise within) tt fits in
      let again = left_fits p v (behind_steps b.value.0 v) c b.value.1 fits inner.1 in
      let other = steps_fit p v d NoStep otherwise (no_left o.faults [] (no_right b.faults (o.faults ++ []) both)) within tt again in
      ((condition_in_resolved p v c.scope at fits.0.known test, inner.0, other.0), left_fits p v (behind_steps o.value.0 v) d o.value.1 again other.1)
  step_fits p v c (source.Print at e) none within fits = absurd (not_empty _ _ none)
  step_fits p v c (source.Assign name initial) none within fits =
      plain_fits p v c (assign_step c name.at name initial).value fits
      (assigned_plain p v name.at (initializer_of c name.at initial).value (used_name c.scope name).value (initializer_resolved p v c name.at fits.0.known initial)
      (used_resolved p v c.scope name fits.0.known))
  step_fits p v c (source.Reduce name by e) none within fits =
      plain_fits p v c (reduce_step c.scope name.at name by e).value fits
      (reduced_plain p v name.at by (value_of c.scope name.at e).value (used_name c.scope name).value (value_resolved p v c.scope name.at fits.0.known e) (used_resolved p v c.scope name fits.0.known))
  step_fits p v c (source.SetEntry vector index e) none within fits =
      plain_fits p v c (set_entry_step c.scope vector.at vector index e).value fits
      (set_plain p v (may_set vector.at c.scope.inside).value (written_at vector.at (own_vertex c.scope.inside) (index_value c.scope vector.at index).value).value
      (vector_index c.scope vector.at vector).value (integer_in c.scope vector.at e).value
      (vector_resolved p v c.scope vector.at vector fits.0.known) (integer_in_resolved p v c.scope vector.at fits.0.known e))
  step_fits p v c (source.ReduceEntry vector index by e) none within fits =
      let r = (reduce_entry_step c vector.at vector index by e).value in
      plain_fits p v r.1 r.0 fits
      (reduction_plain p v (may_reduce vector.at c.scope.inside (vector_index c.scope vector.at vector).value by c.writes).value.0
      (written_at vector.at (own_vertex c.scope.inside) (index_value c.scope vector.at index).value).value
      (vector_index c.scope vector.at vector).value by (integer_in c.scope vector.at e).value
      (vector_resolved p v c.scope vector.at vector fits.0.known) (integer_in_resolved p v c.scope vector.at fits.0.known e))
  step_fits p v c (source.AddVertex set e) none within fits = absurd (not_empty _ _ none)
  step_fits p v c (source.Apply target ends function) none within fits = absurd (not_empty _ _ none)

  pub steps_fit : (p : ProgramTree) (v : VisibleTree) (c : CheckerTree) (so_far : FunctionStatementsTree) (block : source.BlockTree) → (steps_typed c so_far block).faults ≡ []
      → Within p (steps_typed c so_far block).value.1 → StepsAreResolved p v so_far → CheckerFits p (behind_steps so_far v) c
      → StepsFit p v (steps_typed c so_far block).value
  steps_fit p v c so_far source.Empty none within resolved fits = (resolved, fits)
  steps_fit p v c so_far (source.Then label action others) none within resolved fits =
      let l = with_label c label in
      let s = step_typed l.value.1 action in
      let rest = steps_typed s.value.1 (step_after so_far s.value.0) others in
      let w = behind_steps so_far v in
      let both = no_right l.faults (s.faults ++ rest.faults) none in
      let between = steps_before p s.value.1 (step_after so_far s.value.0) others within in
      let labels = labelled_fits p w c label (no_left l.faults (s.faults ++ rest.faults) none) fits (step_before p l.value.1 action between) in
      let first = step_fits p w l.value.1 action (no_left s.faults rest.faults both) between labels.0 in
      steps_fit p v s.value.1 (step_after so_far s.value.0) others (no_right s.faults rest.faults both) within
      (steps_then p v so_far s.value.0 resolved first.0)
      (subst (λ x. CheckerFits p x s.value.1) (sym (after_then v so_far s.value.0)) first.1)
