-- To which vectors an edge function gives numbers.
use Rattle.std.proofs.Common.{◌≡◌, ℕ, ◌==◌, ◌&&◌, ◌||◌, ℤ, Bool, true, false, not, cond, List, [], ◌∷◌, ◌++◌, sym, ◌∙◌, refl, subst}
use Rattle.std.specs.List.{list_all, list_any}
use Rattle.std.proofs.lemmas.List.Folds.{list_all-append}
use Rattle.apply_options.specs.declared.reduction.Reduction.{Reduction}
use Rattle.typed_tree.specs.FunctionStatementTree.{FunctionStatementTree, DeclareInt, DeclareBool, SetInt, SetBool, ReduceInt, SetEntry, ReduceEntry, If, IfElse}
use Rattle.typed_tree.specs.FunctionStatementTree.{FunctionStatementsTree, NoStep, StepThen}
use Rattle.algorithm_meaning.specs.State.{edge_scope}
use Rattle.algorithm_meaning.specs.Value.{value, truth}
use Rattle.algorithm_meaning.specs.Function.{WorkValue, first_work, after_set, after_reduce, after_step, after_steps, after_block}
use Rattle.algorithm_meaning.specs.EdgeApply.{gives}
use Rattle.typed_tree.specs.Independence.{is_none_of}
use Rattle.typed_tree.specs.inside.Access.{integer_reads, condition_reads, step_uses, steps_use, step_writes, steps_write}
use Rattle.std.proofs.lemmas.Bool.{and_parts}
use Rattle.weighted_edges.specs.Edge.{Edge}
use Rattle.algorithm_meaning.specs.declared.state.SetBinding.{SetBinding}
use Rattle.algorithm_meaning.specs.declared.contribution.Contribution.{Contribution}
use Rattle.plans.proofs.Beside.{both_parts}

-- each of these numbers is for such a vector
abbrev pub AreFor : (ℕ → Bool) → List Contribution → Type 0
AreFor P [] = Unit {0}
AreFor P (c ∷ cs) = (P c.vector ≡ true) × AreFor P cs

are_for_append : (P : ℕ → Bool) (cs ds : List Contribution) → AreFor P cs → AreFor P ds → AreFor P (cs ++ ds)
are_for_append P [] ds h k = k
are_for_append P (c ∷ cs) ds h k = (h.0, are_for_append P cs ds h.1 k)

all_two : (P : ℕ → Bool) (xs ys : List ℕ) → list_all P xs ≡ true → list_all P ys ≡ true → list_all P (xs ++ ys) ≡ true
all_two P xs ys h k = list_all-append P xs ys ∙ (λ i. h i && k i)

mutual
  -- a vector that is written is used
  writes_of_step : (P : ℕ → Bool) (step : FunctionStatementTree) → list_all P (step_uses step) ≡ true → list_all P (step_writes step) ≡ true
  writes_of_step P (DeclareInt name e) h = refl
  writes_of_step P (DeclareBool name c) h = refl
  writes_of_step P (SetInt slot e) h = refl
  writes_of_step P (SetBool slot c) h = refl
  writes_of_step P (ReduceInt slot reduction e) h = refl
  writes_of_step P (SetEntry vector e) h = (both_parts P (vector ∷ []) (integer_reads e) h).0
  writes_of_step P (ReduceEntry vector reduction e) h = (both_parts P (vector ∷ []) (integer_reads e) h).0
  writes_of_step P (If c body) h = writes_of_steps P body (both_parts P (condition_reads c) (steps_use body) h).1
  writes_of_step P (IfElse c body other) h =
      let blocks = both_parts P (steps_use body) (steps_use other) (both_parts P (condition_reads c) (steps_use body ++ steps_use other) h).1 in
      all_two P (steps_write body) (steps_write other) (writes_of_steps P body blocks.0) (writes_of_steps P other blocks.1)

  pub writes_of_steps : (P : ℕ → Bool) (steps : FunctionStatementsTree) → list_all P (steps_use steps) ≡ true → list_all P (steps_write steps) ≡ true
  writes_of_steps P NoStep h = refl
  writes_of_steps P (StepThen step rest) h =
      let both = both_parts P (step_uses step) (steps_use rest) h in
      all_two P (step_writes step) (steps_write rest) (writes_of_step P step both.0) (writes_of_steps P rest both.1)

either_given : (P : ℕ → Bool) (b : Bool) (v w : WorkValue) → AreFor P v.given → AreFor P w.given → AreFor P (cond b v w).given
either_given P true v w h k = h
either_given P false v w h k = k

module _ (P : ℕ → Bool) (sets : List SetBinding) (writing : _) (sets_nothing : (vector : ℕ) (n : ℤ) (w : WorkValue) → after_set writing vector n w ≡ w)
    (gives_number : (vector : ℕ) (r : Reduction) (n : ℤ) (w : WorkValue) → after_reduce writing vector r n w ≡ record w {
      given =
          w.given ++ record { vector = vector; reduction = r; number = n } ∷ [];
    }) where
  mutual
    step_gives : (step : FunctionStatementTree) (w : WorkValue) → list_all P (step_writes step) ≡ true → AreFor P w.given → AreFor P (after_step writing sets step w).given
    step_gives (DeclareInt name e) w writes h = h
    step_gives (DeclareBool name c) w writes h = h
    step_gives (SetInt slot e) w writes h = h
    step_gives (SetBool slot c) w writes h = h
    step_gives (ReduceInt slot reduction e) w writes h = h
    step_gives (SetEntry vector e) w writes h = subst (λ (z : WorkValue). AreFor P z.given) (sym (sets_nothing vector (value w.vectors sets w.scope e) w)) h
    step_gives (ReduceEntry vector reduction e) w writes h =
        let n = value w.vectors sets w.scope e in
        let own = and_parts (P vector) true writes in
        subst (λ (z : WorkValue). AreFor P z.given) (sym (gives_number vector reduction n w))
        (are_for_append P w.given (record { vector = vector; reduction = reduction; number = n } ∷ []) h (own.0, tt))
    step_gives (If c body) w writes h =
        either_given P (truth w.vectors sets w.scope c) (after_block w (after_steps writing sets body w)) w (steps_give body w writes h) h
    step_gives (IfElse c body other) w writes h =
        let blocks = both_parts P (steps_write body) (steps_write other) writes in
        either_given P (truth w.vectors sets w.scope c) (after_block w (after_steps writing sets body w)) (after_block w (after_steps writing sets other w))
        (steps_give body w blocks.0 h) (steps_give other w blocks.1 h)

    steps_give : (steps : FunctionStatementsTree) (w : WorkValue) → list_all P (steps_write steps) ≡ true → AreFor P w.given → AreFor P (after_steps writing sets steps w).given
    steps_give NoStep w writes h = h
    steps_give (StepThen step rest) w writes h =
        let both = both_parts P (step_writes step) (steps_write rest) writes in
        steps_give rest (after_step writing sets step w) both.1 (step_gives step w both.0 h)

-- an edge function gives numbers for the vectors that it writes
pub gives_for : (P : ℕ → Bool) (steps : FunctionStatementsTree) (sets : List SetBinding) (before : List (List ℤ)) (edge : Edge) → list_all P (steps_write steps) ≡ true
    → AreFor P (gives steps sets before edge)
gives_for P steps sets before edge writes = steps_give P sets _ (λ vector n w. refl) (λ vector r n w. refl) steps (first_work before (edge_scope edge)) writes tt

none_from : (a b c : Bool) → not (a || b) ≡ true → (not b ≡ true → c ≡ true) → not a && c ≡ true
none_from true b c h k = cc
none_from false b c h k = k h

none_each : (P : ℕ → Bool) (xs : List ℕ) → not (list_any P xs) ≡ true → list_all (λ x. not (P x)) xs ≡ true
none_each P [] h = refl
none_each P (x ∷ xs) h = none_from (P x) (list_any P xs) (list_all (λ x. not (P x)) xs) h (none_each P xs)

-- a vector that is none of these differs from each
pub each_differs : (vector : ℕ) (xs : List ℕ) → is_none_of vector xs ≡ true → list_all (λ x. not (x == vector)) xs ≡ true
each_differs vector xs h = none_each (λ x. x == vector) xs h
