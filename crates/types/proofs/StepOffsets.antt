-- Each fault of a statement of a function stands at one of its names or labels, or at its first token.
use Rattle.std.proofs.Common.{ℕ, Bool, true, false, nat_eq, List, [], ◌++◌, Option, Some, None}
use Rattle.std.specs.List.{AllByRecursion}
use Rattle.std.specs.Map.{lookup}
use Rattle.syntax.specs.Terminals.{Terminal, Identifier}
use Rattle.syntax.specs.declared.declaration.DeclaredType.{DeclaredType}
use Rattle.syntax.specs.declared.declaration.DeclaredType.TheVariants as declared
use Rattle.apply_options.specs.declared.reduction.Reduction.{Reduction}
use Rattle.syntax.specs.SourceTrees.{ExpressionTree}
use Rattle.syntax.specs.ExpressionSpelling.{expression_terminals}
use Rattle.syntax.specs.Offsets.{StandWhere, StandsWhere}
use Rattle.syntax.specs.SourceTrees as source
use Rattle.syntax.specs.SourceSpelling.{action_before, assigned_before, block_before, ends_before, initial_before, label_terminals}
use Rattle.syntax.proofs.Behind.{action_after, all_left, all_right, block_behind, ends_after, typed_after}
use Rattle.syntax.proofs.Offsets.{from_stands, to_stands}
use Rattle.typed_tree.specs.declared.expression.Endpoint.{Endpoint}
use Rattle.typed_tree.specs.FunctionStatementTree.{FunctionStatementTree, FunctionStatementsTree, NoStep}
use Rattle.expression_types.specs.declared.scope.Entity.{Entity}
use Rattle.expression_types.specs.declared.scope.Entity.TheVariants as entity
use Rattle.expression_types.specs.declared.scope.Inside.{Inside}
use Rattle.expression_types.specs.declared.scope.Inside.TheVariants as inside
use Rattle.expression_types.specs.Expression.{index_value, used_name, value_of, vector_index}
use Rattle.expression_types.specs.Faults.{WithFaults}
use Rattle.expression_types.specs.ScopeTree.{ScopeTree}
use Rattle.expression_types.specs.ValueTree.{ValueTree, Integer, Condition, Vertex, Set, ErrorValue}
use Rattle.expression_types.proofs.FaultOffsets.{FaultsStand, both_stand, index_stands, used_stands, value_stands, vector_stands}
use Rattle.initializer_types.specs.Checker.{CheckerTree, condition_slot, declared_in, integer_slot, with_label, integer_wanted, condition_in, integer_in}
use Rattle.initializer_types.specs.Initial.{InitializerTree, initializer_condition, apply_end_of, initializer_of, initializer_integer}
use Rattle.types.specs.Step.{assign_step, assigned_step, at_own, declare_step_as, may_reduce, may_set, no_add, no_apply, one_reduction, own_vertex, reduce_entry_step, reduce_step, reduced_as}
use Rattle.types.specs.Step.{reduced_step, same_endpoint, same_reduction, set_entry_step, step_after, step_in_place, step_typed, steps_after, steps_typed, written_at, written_with}
use Rattle.initializer_types.proofs.ValueOffsets.{as_integer_stands, initializer_condition_stands, condition_in_stands, end_stands, initializer_stands, initializer_integer_stands, integer_in_stands}
use Rattle.types.proofs.StatementOffsets.{at_back, declared_in_stands, in_front, labelled_stands, last_stands}

declare_step_as_stands : (P : ℕ → Type 0) (c : CheckerTree) (at : ℕ) (name : Identifier) (initializer : InitializerTree) (type : DeclaredType) → P at → P name.at
    → FaultsStand P (declare_step_as c at name initializer type)
declare_step_as_stands P c at name initializer declared.Int here there =
    let e = initializer_integer at initializer in both_stand P e.faults _ (initializer_integer_stands P at initializer here) (last_stands P c name (entity.IntVariable (integer_slot c)) there)
declare_step_as_stands P c at name initializer declared.Bool here there =
    let e = initializer_condition at initializer in both_stand P e.faults _ (initializer_condition_stands P at initializer here)
    (last_stands P c name (entity.BoolVariable (condition_slot c)) there)
declare_step_as_stands P c at name initializer declared.VertexSet here there = (here, last_stands P c name entity.Error there)
declare_step_as_stands P c at name initializer declared.Vertex here there = (here, last_stands P c name entity.Error there)
declare_step_as_stands P c at name initializer declared.Vector here there = (here, last_stands P c name entity.Error there)
declare_step_as_stands P c at name initializer declared.EdgeSet here there = (here, last_stands P c name entity.Error there)
declare_step_as_stands P c at name initializer declared.WeightedEdgeSet here there = (here, last_stands P c name entity.Error there)

assigned_step_stands : (P : ℕ → Type 0) (at : ℕ) (initializer : InitializerTree) (e : Entity) → P at → FaultsStand P (assigned_step at initializer e)
assigned_step_stands P at initializer (entity.IntVariable slot) here = let e = initializer_integer at initializer in both_stand P e.faults [] (initializer_integer_stands P at initializer here) tt
assigned_step_stands P at initializer (entity.BoolVariable slot) here = let e = initializer_condition at initializer in
    both_stand P e.faults [] (initializer_condition_stands P at initializer here) tt
assigned_step_stands P at initializer entity.Error here = tt
assigned_step_stands P at initializer _ here = (here, tt)

reduced_step_stands : (P : ℕ → Type 0) (at : ℕ) (by : Reduction) (v : ValueTree) (e : Entity) → P at → FaultsStand P (reduced_step at by v e)
reduced_step_stands P at by v (entity.IntVariable slot) here = let e = integer_wanted at v in both_stand P e.faults [] (as_integer_stands P at v here) tt
reduced_step_stands P at by v entity.Error here = tt
reduced_step_stands P at by v _ here = (here, tt)

-- entries
at_own_stands : (P : ℕ → Type 0) (at : ℕ) (b : Bool) → P at → FaultsStand P (at_own at b)
at_own_stands P at true here = tt
at_own_stands P at false here = (here, tt)

written_at_stands : (P : ℕ → Type 0) (at : ℕ) (own : Endpoint) (v : ValueTree) → P at → FaultsStand P (written_at at own v)
written_at_stands P at own (Integer e) here = (here, tt)
written_at_stands P at own (Condition c) here = (here, tt)
written_at_stands P at own (Vertex p) here = at_own_stands P at (same_endpoint p own) here
written_at_stands P at own (Set slot) here = (here, tt)
written_at_stands P at own ErrorValue here = tt

may_set_stands : (P : ℕ → Type 0) (at : ℕ) (function : Inside) → P at → FaultsStand P (may_set at function)
may_set_stands P at inside.Main here = tt
may_set_stands P at inside.EdgeFunction here = (here, tt)
may_set_stands P at inside.VertexFunction here = tt
may_set_stands P at inside.Filter here = (here, tt)

reduced_as_stands : (P : ℕ → Type 0) (at : ℕ) (b : Bool) (writes : List (ℕ × Reduction)) → P at → FaultsStand P (reduced_as at b writes)
reduced_as_stands P at true writes here = tt
reduced_as_stands P at false writes here = (here, tt)

written_with_stands : (P : ℕ → Type 0) (at vector : ℕ) (by : Reduction) (writes : List (ℕ × Reduction)) (first : Option Reduction) → P at → FaultsStand P (written_with at vector by writes first)
written_with_stands P at vector by writes None here = tt
written_with_stands P at vector by writes (Some first) here = reduced_as_stands P at (same_reduction first by) writes here

one_reduction_stands : (P : ℕ → Type 0) (at : ℕ) (vector : Option ℕ) (by : Reduction) (writes : List (ℕ × Reduction)) → P at → FaultsStand P (one_reduction at vector by writes)
one_reduction_stands P at None by writes here = tt
one_reduction_stands P at (Some vector) by writes here = written_with_stands P at vector by writes (lookup (nat_eq vector) writes) here

may_reduce_stands : (P : ℕ → Type 0) (at : ℕ) (function : Inside) (vector : Option ℕ) (by : Reduction) (writes : List (ℕ × Reduction)) → P at → FaultsStand P (may_reduce at function vector by writes)
may_reduce_stands P at inside.Main vector by writes here = tt
may_reduce_stands P at inside.EdgeFunction vector by writes here = one_reduction_stands P at vector by writes here
may_reduce_stands P at inside.VertexFunction vector by writes here = tt
may_reduce_stands P at inside.Filter vector by writes here = (here, tt)

-- an index and a value
index_and_value_stand : (P : ℕ → Type 0) (scope : ScopeTree) (at : ℕ) (index e : ExpressionTree) → P at → StandWhere P (expression_terminals index) → StandWhere P (expression_terminals e)
    → AllByRecursion (λ f. P f.at) ((index_value scope at index).faults ++ ((written_at at (own_vertex scope.inside) (index_value scope at index).value).faults
    ++ ((integer_in scope at e).faults ++ [])))
index_and_value_stand P scope at index e here first second =
    let v = index_value scope at index in
    let own = written_at at (own_vertex scope.inside) v.value in
    let x = integer_in scope at e in
    both_stand P v.faults _ (index_stands P scope index (value_of scope at index) (value_stands P scope at index here first))
    (both_stand P own.faults _ (written_at_stands P at (own_vertex scope.inside) v.value here)
    (both_stand P x.faults [] (integer_in_stands P scope at e here second) tt))

set_entry_step_stands : (P : ℕ → Type 0) (scope : ScopeTree) (name : Identifier) (index e : ExpressionTree) → P name.at → StandWhere P (expression_terminals index)
    → StandWhere P (expression_terminals e)
    → FaultsStand P (set_entry_step scope name.at name index e)
set_entry_step_stands P scope name index e there first second =
    let may = may_set name.at scope.inside in
    let vector = vector_index scope name.at name in
    both_stand P may.faults _ (may_set_stands P name.at scope.inside there)
    (both_stand P vector.faults _ (vector_stands P scope name.at name there there) (index_and_value_stand P scope name.at index e there first second))

reduce_entry_step_stands : (P : ℕ → Type 0) (c : CheckerTree) (name : Identifier) (index : ExpressionTree) (by : Reduction) (e : ExpressionTree)
    → P name.at → StandWhere P (expression_terminals index) → StandWhere P (expression_terminals e) → FaultsStand P (reduce_entry_step c name.at name index by e)
reduce_entry_step_stands P c name index by e there first second =
    let vector = vector_index c.scope name.at name in
    let may = may_reduce name.at c.scope.inside vector.value by c.writes in
    both_stand P vector.faults _ (vector_stands P c.scope name.at name there there)
    (both_stand P may.faults _ (may_reduce_stands P name.at c.scope.inside vector.value by c.writes there) (index_and_value_stand P c.scope name.at index e there first second))

-- statements that declare nothing
step_in_place_stands : (P : ℕ → Type 0) (c : CheckerTree) (step : WithFaults FunctionStatementTree) → FaultsStand P step → FaultsStand P (step_in_place c step)
step_in_place_stands P c step all = both_stand P step.faults [] all tt

assign_step_stands : (P : ℕ → Type 0) (c : CheckerTree) (name : Identifier) (initial : source.InitialTree) (rest : List Terminal) → P name.at → StandWhere P (initial_before initial rest)
    → FaultsStand P (assign_step c name.at name initial)
assign_step_stands P c name initial rest there all =
    let e = used_name c.scope name in
    let initializer = initializer_of c name.at initial in
    both_stand P e.faults _ (used_stands P c.scope name there)
    (both_stand P initializer.faults _ (initializer_stands P c name.at initial rest there all) (assigned_step_stands P name.at initializer.value e.value there))

reduce_step_stands : (P : ℕ → Type 0) (scope : ScopeTree) (name : Identifier) (by : Reduction) (e : ExpressionTree) → P name.at → StandWhere P (expression_terminals e)
    → FaultsStand P (reduce_step scope name.at name by e)
reduce_step_stands P scope name by e there all =
    let n = used_name scope name in
    let v = value_of scope name.at e in
    both_stand P n.faults _ (used_stands P scope name there)
    (both_stand P v.faults _ (value_stands P scope name.at e there all) (reduced_step_stands P name.at by v.value n.value there))

no_add_stands : (P : ℕ → Type 0) (scope : ScopeTree) (set : Identifier) (e : ExpressionTree) → P set.at → StandWhere P (expression_terminals e) → FaultsStand P (no_add scope set.at set e)
no_add_stands P scope set e there all =
    let n = used_name scope set in
    let v = value_of scope set.at e in
    (there, both_stand P n.faults _ (used_stands P scope set there) (both_stand P v.faults [] (value_stands P scope set.at e there all) tt))

no_apply_stands : (P : ℕ → Type 0) (scope : ScopeTree) (target : Identifier) (ends : source.EndsTree) (function : Identifier) (rest : List Terminal)
    → P target.at → P function.at → StandWhere P (ends_before ends rest) → FaultsStand P (no_apply scope target.at target ends function)
no_apply_stands P scope target ends function rest there named all =
    let t = used_name scope target in
    let a = apply_end_of scope ends.from in
    let b = apply_end_of scope ends.to in
    let f = used_name scope function in (
      there,
      both_stand P t.faults _ (used_stands P scope target there)
          (both_stand P a.faults _ (end_stands P scope ends.from (from_stands P ends rest all))
          (both_stand P b.faults _ (end_stands P scope ends.to (to_stands P ends rest all))
          (both_stand P f.faults [] (used_stands P scope function named) tt))),
    )

mutual
  step_stands : (P : ℕ → Type 0) (c : CheckerTree) (action : source.StatementKindTree) (rest : List Terminal) → StandWhere P (action_before action rest) → FaultsStand P (step_typed c action)
  step_stands P c (source.Declare at p initial) rest all =
      let initializer = initializer_of c at initial in
      let after_type = typed_after (StandsWhere P) p (assigned_before initial rest) all.1 in
      both_stand P initializer.faults _ (initializer_stands P c at initial _ all.0 after_type.1) (declare_step_as_stands P c at p.name initializer.value p.declared all.0 all.1.0)
  step_stands P c (source.While at test body) rest all =
      let t = condition_in c.scope at test in
      let b = steps_typed c NoStep body in (
        all.0,
        both_stand P t.faults _ (condition_in_stands P c.scope at test all.0 (in_front P test _ all.1))
            (both_stand P b.faults [] (steps_stand P c NoStep body _ (at_back P test _ all.1)) tt),
      )
  step_stands P c (source.For at name first limit body) rest all =
      let a = integer_in c.scope at first in
      let z = integer_in c.scope at limit in
      let d = declared_in c name (entity.LoopVariable (integer_slot c)) in
      let b = steps_typed d.value NoStep body in
      let second = at_back P first _ all.1.1.1 in (
        all.0,
        both_stand P a.faults _ (integer_in_stands P c.scope at first all.0 (in_front P first _ all.1.1.1))
            (both_stand P z.faults _ (integer_in_stands P c.scope at limit all.0 (in_front P limit _ second.1))
            (both_stand P d.faults _ (declared_in_stands P c name (entity.LoopVariable (integer_slot c)) all.1.0)
            (both_stand P b.faults [] (steps_stand P d.value NoStep body _ (at_back P limit _ second.1)) tt))),
      )
  step_stands P c (source.If at test body) rest all =
      let t = condition_in c.scope at test in
      let b = steps_typed c NoStep body in
      both_stand P t.faults _ (condition_in_stands P c.scope at test all.0 (in_front P test _ all.1))
      (both_stand P b.faults [] (steps_stand P c NoStep body _ (at_back P test _ all.1)) tt)
  step_stands P c (source.IfElse at test body otherwise) rest all =
      let t = condition_in c.scope at test in
      let b = steps_typed c NoStep body in
      let o = steps_typed (steps_after c b.value.1) NoStep otherwise in
      let inside = at_back P test _ all.1 in
      let second = block_behind (StandsWhere P) body _ inside in
      both_stand P t.faults _ (condition_in_stands P c.scope at test all.0 (in_front P test _ all.1))
      (both_stand P b.faults _ (steps_stand P c NoStep body _ inside)
      (both_stand P o.faults [] (steps_stand P (steps_after c b.value.1) NoStep otherwise _ second.1) tt))
  step_stands P c (source.Print at e) rest all = (all.0, tt)
  step_stands P c (source.Assign name initial) rest all = step_in_place_stands P c (assign_step c name.at name initial) (assign_step_stands P c name initial _ all.0 all.1.1)
  step_stands P c (source.Reduce name by e) rest all = step_in_place_stands P c (reduce_step c.scope name.at name by e) (reduce_step_stands P c.scope name by e all.0 (in_front P e _ all.1.1))
  step_stands P c (source.SetEntry vector index e) rest all =
      let second = at_back P index _ all.1.1 in
      step_in_place_stands P c (set_entry_step c.scope vector.at vector index e) (set_entry_step_stands P c.scope vector index e all.0 (in_front P index _ all.1.1) (in_front P e _ second.1.1))
  step_stands P c (source.ReduceEntry vector index by e) rest all =
      let second = at_back P index _ all.1.1 in reduce_entry_step_stands P c vector index by e all.0 (in_front P index _ all.1.1) (in_front P e _ second.1.1)
  step_stands P c (source.AddVertex set e) rest all = step_in_place_stands P c (no_add c.scope set.at set e) (no_add_stands P c.scope set e all.0 (in_front P e _ all.1.1.1.1))
  step_stands P c (source.Apply target ends function) rest all =
      let names = ends_after (StandsWhere P) ends _ all.1 in
      step_in_place_stands P c (no_apply c.scope target.at target ends function) (no_apply_stands P c.scope target ends function _ all.0 names.1.1.1.0 all.1)

  pub steps_stand : (P : ℕ → Type 0) (c : CheckerTree) (so_far : FunctionStatementsTree) (block : source.BlockTree) (rest : List Terminal) → StandWhere P (block_before block rest)
      → FaultsStand P (steps_typed c so_far block)
  steps_stand P c so_far source.Empty rest all = tt
  steps_stand P c so_far (source.Then label action others) rest all =
      let l = with_label c label in
      let s = step_typed l.value.1 action in
      let statement = all_right (StandsWhere P) (label_terminals label) _ all in
      both_stand P l.faults _ (labelled_stands P c label (all_left (StandsWhere P) (label_terminals label) _ all))
      (both_stand P s.faults _ (step_stands P l.value.1 action _ statement)
      (steps_stand P s.value.1 (step_after so_far s.value.0) others rest (action_after (StandsWhere P) action _ statement)))
