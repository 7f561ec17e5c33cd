-- Functions read sizes of constant vertex sets alone, and vertex functions no entry at an index.
use Rattle.std.proofs.Common.{◌≡◌, refl, subst, ◌∙◌, ℕ, ◌<◌, ◌&&◌, true, false, List, [], ◌∷◌, ◌++◌, length, Option, Some, None}
use Rattle.std.specs.Prelude.{slice_get, zero, suc}
use Rattle.std.specs.List.{AllByRecursion}
use Rattle.std.proofs.lemmas.Bool.{and_from}
use Rattle.std.proofs.lemmas.Option.{slice_get_within}
use Rattle.typed_tree.specs.IntExpressionTree as integer
use Rattle.typed_tree.specs.IntExpressionTree.{IntExpressionTree}
use Rattle.typed_tree.specs.BoolExpressionTree as condition
use Rattle.typed_tree.specs.BoolExpressionTree.{BoolExpressionTree}
use Rattle.typed_tree.specs.FunctionStatementTree as step
use Rattle.typed_tree.specs.FunctionStatementTree.{FunctionTree, FunctionStatementTree, FunctionStatementsTree}
use Rattle.typed_tree.specs.ProgramTree.{ProgramTree}
use Rattle.typed_tree.specs.Resolved.{VisibleTree, ConditionIsResolved, EdgeFunctionIsResolved, FilterIsResolved, IntegerIsResolved, StepIsResolved, StepsAreResolved, VertexFunctionIsResolved}
use Rattle.typed_tree.specs.Resolved.{behind_step, in_edge_function, in_filter, in_vertex_function}
use Rattle.plans.specs.inside.Fusing.{condition_is_local, condition_sizes, integer_is_local, integer_sizes, step_is_local, step_sizes, steps_are_local, steps_are_local_where, steps_sizes}
use Rattle.plans.specs.inside.Fusing.{steps_sizes_where}
use Rattle.plans.specs.Fusing.{function_is_local, function_sizes}

pub all_two : {A : Type 0} (P : A → Type 0) (xs ys : List A) → AllByRecursion P xs → AllByRecursion P ys → AllByRecursion P (xs ++ ys)
all_two P [] ys first second = second
all_two P (x ∷ xs) ys first second = (first.0, all_two P xs ys first.1 second)

-- what holds of each function holds at an index
at_index : (P : FunctionTree → Type 0) (Q : Option FunctionTree → Type 0) → Q None → ((f : FunctionTree) → P f → Q (Some f)) → (fs : List FunctionTree) (index : ℕ) → AllByRecursion P fs
    → Q (slice_get fs index)
at_index P Q none some [] index all = none
at_index P Q none some (f ∷ fs) zero all = some f all.0
at_index P Q none some (f ∷ fs) (suc index) all = at_index P Q none some fs index all.1

after_sets : (s : FunctionStatementTree) (v : VisibleTree) → (behind_step s v).sets ≡ v.sets
after_sets (step.DeclareInt name e) v = refl
after_sets (step.DeclareBool name c) v = refl
after_sets (step.SetInt slot e) v = refl
after_sets (step.SetBool slot c) v = refl
after_sets (step.ReduceInt slot by e) v = refl
after_sets (step.SetEntry vector e) v = refl
after_sets (step.ReduceEntry vector by e) v = refl
after_sets (step.If c body) v = refl
after_sets (step.IfElse c body other) v = refl

after_indexes : (s : FunctionStatementTree) (v : VisibleTree) → (behind_step s v).indexes ≡ v.indexes
after_indexes (step.DeclareInt name e) v = refl
after_indexes (step.DeclareBool name c) v = refl
after_indexes (step.SetInt slot e) v = refl
after_indexes (step.SetBool slot c) v = refl
after_indexes (step.ReduceInt slot by e) v = refl
after_indexes (step.SetEntry vector e) v = refl
after_indexes (step.ReduceEntry vector by e) v = refl
after_indexes (step.If c body) v = refl
after_indexes (step.IfElse c body other) v = refl

module _ (p : ProgramTree) where
  -- the indices of constant sets
  abbrev pub AreConstant : List ℕ → Type 0
  AreConstant indices = AllByRecursion (λ index. index < length p.sets) indices

  integer_constant : (v : VisibleTree) → v.sets ≡ p.sets → (e : IntExpressionTree) → IntegerIsResolved p v e → AreConstant (integer_sizes e)
  integer_constant v same (integer.Number n) is = tt
  integer_constant v same (integer.Constant name n) is = tt
  integer_constant v same (integer.Variable slot) is = tt
  integer_constant v same (integer.Parameter at) is = tt
  integer_constant v same integer.Weight is = tt
  integer_constant v same (integer.EntryAt vector at) is = tt
  integer_constant v same (integer.Entry vector subscript) is = integer_constant v same subscript is.2
  integer_constant v same (integer.SetSize slot) is = (subst (λ sets. slot.index < length sets) same (slice_get_within v.sets slot.index slot.name is.0), tt)
  integer_constant v same (integer.Negative e) is = integer_constant v same e is
  integer_constant v same (integer.Arithmetic operator a b) is =
      all_two (λ index. index < length p.sets) (integer_sizes a) (integer_sizes b) (integer_constant v same a is.0) (integer_constant v same b is.1)

  condition_constant : (v : VisibleTree) → v.sets ≡ p.sets → (c : BoolExpressionTree) → ConditionIsResolved p v c → AreConstant (condition_sizes c)
  condition_constant v same (condition.Literal b) is = tt
  condition_constant v same (condition.Constant name b) is = tt
  condition_constant v same (condition.Variable slot) is = tt
  condition_constant v same (condition.Not c) is = condition_constant v same c is
  condition_constant v same (condition.Compare comparison a b) is =
      all_two (λ index. index < length p.sets) (integer_sizes a) (integer_sizes b) (integer_constant v same a is.0) (integer_constant v same b is.1)
  condition_constant v same (condition.Connect connective a b) is =
      all_two (λ index. index < length p.sets) (condition_sizes a) (condition_sizes b) (condition_constant v same a is.0) (condition_constant v same b is.1)

  mutual
    step_constant : (v : VisibleTree) → v.sets ≡ p.sets → (s : FunctionStatementTree) → StepIsResolved p v s → AreConstant (step_sizes s)
    step_constant v same (step.DeclareInt name e) is = integer_constant v same e is.1
    step_constant v same (step.DeclareBool name c) is = condition_constant v same c is.1
    step_constant v same (step.SetInt slot e) is = integer_constant v same e is.1
    step_constant v same (step.SetBool slot c) is = condition_constant v same c is.1
    step_constant v same (step.ReduceInt slot by e) is = integer_constant v same e is.1
    step_constant v same (step.SetEntry vector e) is = integer_constant v same e is.1
    step_constant v same (step.ReduceEntry vector by e) is = integer_constant v same e is.1
    step_constant v same (step.If c body) is =
        all_two (λ index. index < length p.sets) (condition_sizes c) (steps_sizes body) (condition_constant v same c is.0) (steps_constant v same body is.1)
    step_constant v same (step.IfElse c body other) is =
        all_two (λ index. index < length p.sets) (condition_sizes c) (steps_sizes body ++ steps_sizes other) (condition_constant v same c is.0)
        (all_two (λ index. index < length p.sets) (steps_sizes body) (steps_sizes other) (steps_constant v same body is.1) (steps_constant v same other is.2))

    steps_constant : (v : VisibleTree) → v.sets ≡ p.sets → (ss : FunctionStatementsTree) → StepsAreResolved p v ss → AreConstant (steps_sizes ss)
    steps_constant v same step.NoStep is = tt
    steps_constant v same (step.StepThen s others) is =
        all_two (λ index. index < length p.sets) (step_sizes s) (steps_sizes others) (step_constant v same s is.0)
        (steps_constant (behind_step s v) (after_sets s v ∙ same) others is.1)

  pub edge_function_constant : AllByRecursion (EdgeFunctionIsResolved p) p.edge_functions → (index : ℕ) → AreConstant (function_sizes p.edge_functions index)
  edge_function_constant all index =
      at_index (EdgeFunctionIsResolved p) (λ o. AreConstant (steps_sizes_where o)) tt (λ f is. steps_constant (in_edge_function p) refl f.steps is.1) p.edge_functions index all

  pub filter_constant : AllByRecursion (FilterIsResolved p) p.filters → (index : ℕ) → AreConstant (function_sizes p.filters index)
  filter_constant all index =
      at_index (FilterIsResolved p) (λ o. AreConstant (steps_sizes_where o)) tt (λ f is. steps_constant (in_filter p is.1.0) refl f.steps is.1.2) p.filters index all

  -- where no entry is read at an index
  integer_local : (v : VisibleTree) → v.indexes ≡ false → (e : IntExpressionTree) → IntegerIsResolved p v e → integer_is_local e ≡ true
  integer_local v none (integer.Number n) is = refl
  integer_local v none (integer.Constant name n) is = refl
  integer_local v none (integer.Variable slot) is = refl
  integer_local v none (integer.Parameter at) is = refl
  integer_local v none integer.Weight is = refl
  integer_local v none (integer.EntryAt vector at) is = refl
  integer_local v none (integer.Entry vector subscript) is = let some : v.indexes ≡ true = is.0 in cc
  integer_local v none (integer.SetSize slot) is = refl
  integer_local v none (integer.Negative e) is = integer_local v none e is
  integer_local v none (integer.Arithmetic operator a b) is = and_from (integer_is_local a) (integer_is_local b) (integer_local v none a is.0) (integer_local v none b is.1)

  condition_local : (v : VisibleTree) → v.indexes ≡ false → (c : BoolExpressionTree) → ConditionIsResolved p v c → condition_is_local c ≡ true
  condition_local v none (condition.Literal b) is = refl
  condition_local v none (condition.Constant name b) is = refl
  condition_local v none (condition.Variable slot) is = refl
  condition_local v none (condition.Not c) is = condition_local v none c is
  condition_local v none (condition.Compare comparison a b) is = and_from (integer_is_local a) (integer_is_local b) (integer_local v none a is.0) (integer_local v none b is.1)
  condition_local v none (condition.Connect connective a b) is = and_from (condition_is_local a) (condition_is_local b) (condition_local v none a is.0) (condition_local v none b is.1)

  mutual
    step_local : (v : VisibleTree) → v.indexes ≡ false → (s : FunctionStatementTree) → StepIsResolved p v s → step_is_local s ≡ true
    step_local v none (step.DeclareInt name e) is = integer_local v none e is.1
    step_local v none (step.DeclareBool name c) is = condition_local v none c is.1
    step_local v none (step.SetInt slot e) is = integer_local v none e is.1
    step_local v none (step.SetBool slot c) is = condition_local v none c is.1
    step_local v none (step.ReduceInt slot by e) is = integer_local v none e is.1
    step_local v none (step.SetEntry vector e) is = integer_local v none e is.1
    step_local v none (step.ReduceEntry vector by e) is = integer_local v none e is.1
    step_local v none (step.If c body) is = and_from (condition_is_local c) (steps_are_local body) (condition_local v none c is.0) (steps_local v none body is.1)
    step_local v none (step.IfElse c body other) is =
        and_from (condition_is_local c) (steps_are_local body && steps_are_local other) (condition_local v none c is.0)
        (and_from (steps_are_local body) (steps_are_local other) (steps_local v none body is.1) (steps_local v none other is.2))

    steps_local : (v : VisibleTree) → v.indexes ≡ false → (ss : FunctionStatementsTree) → StepsAreResolved p v ss → steps_are_local ss ≡ true
    steps_local v none step.NoStep is = refl
    steps_local v none (step.StepThen s others) is =
        and_from (step_is_local s) (steps_are_local others) (step_local v none s is.0) (steps_local (behind_step s v) (after_indexes s v ∙ none) others is.1)

  pub vertex_function_local : AllByRecursion (VertexFunctionIsResolved p) p.vertex_functions → (index : ℕ) → function_is_local p.vertex_functions index ≡ true
  vertex_function_local all index =
      at_index (VertexFunctionIsResolved p) (λ o. steps_are_local_where o ≡ true) refl (λ f is. steps_local (in_vertex_function p) refl f.steps is.1) p.vertex_functions index all
