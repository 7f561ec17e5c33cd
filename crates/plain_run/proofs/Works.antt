-- What functions leave alone, while what they write is collected.
use Rattle.std.proofs.Common.{◌≡◌, ℤ, Bool, true, false, cond, List, ap, ◌∙◌, refl}
use Rattle.typed_tree.specs.FunctionStatementTree.{FunctionStatementTree, DeclareInt, DeclareBool, SetInt, SetBool, ReduceInt, SetEntry, ReduceEntry, If, IfElse}
use Rattle.typed_tree.specs.FunctionStatementTree.{FunctionStatementsTree, NoStep, StepThen}
use Rattle.typed_tree.specs.BoolExpressionTree.{BoolExpressionTree}
use Rattle.algorithm_meaning.specs.declared.contribution.Writing.{Writing}
use Rattle.algorithm_meaning.specs.declared.contribution.Writing.TheVariants.{Collected}
use Rattle.algorithm_meaning.specs.declared.state.SetBinding.{SetBinding}
use Rattle.algorithm_meaning.specs.Value.{truth}
use Rattle.algorithm_meaning.specs.Function.{WorkValue, after_step, after_steps, after_block}

either : (b : Bool) (x y : WorkValue) (vectors : List (List ℤ)) → x.vectors ≡ vectors → y.vectors ≡ vectors → (cond b x y).vectors ≡ vectors
either true x y vectors h k = h
either false x y vectors h k = k

mutual
  -- the vectors stay
  pub collected_step : (sets : List SetBinding) (step : FunctionStatementTree) (w : WorkValue) → (after_step Collected sets step w).vectors ≡ w.vectors
  collected_step sets (DeclareInt name e) w = refl
  collected_step sets (DeclareBool name c) w = refl
  collected_step sets (SetInt slot e) w = refl
  collected_step sets (SetBool slot c) w = refl
  collected_step sets (ReduceInt slot reduction e) w = refl
  collected_step sets (SetEntry vector e) w = refl
  collected_step sets (ReduceEntry vector reduction e) w = refl
  collected_step sets (If c body) w =
      either (truth w.vectors sets w.scope c) (after_block w (after_steps Collected sets body w)) w w.vectors (collected_steps sets body w) refl
  collected_step sets (IfElse c body other) w =
      either (truth w.vectors sets w.scope c) (after_block w (after_steps Collected sets body w)) (after_block w (after_steps Collected sets other w)) w.vectors (collected_steps sets body w)
      (collected_steps sets other w)

  pub collected_steps : (sets : List SetBinding) (steps : FunctionStatementsTree) (w : WorkValue) → (after_steps Collected sets steps w).vectors ≡ w.vectors
  collected_steps sets NoStep w = refl
  collected_steps sets (StepThen step rest) w = collected_steps sets rest (after_step Collected sets step w) ∙ collected_step sets step w

-- `if` whose condition holds
pub after_step-If_true : (writing : Writing) (sets : List SetBinding) (c : BoolExpressionTree) (body : FunctionStatementsTree) (w : WorkValue)
    → truth w.vectors sets w.scope c ≡ true → after_step writing sets (If c body) w ≡ after_block w (after_steps writing sets body w)
after_step-If_true writing sets c body w h = ap (λ (b : Bool). cond b (after_block w (after_steps writing sets body w)) w) h

-- `if` with `else`, either way
pub after_step-IfElse : (writing : Writing) (sets : List SetBinding) (c : BoolExpressionTree) (body other : FunctionStatementsTree) (w : WorkValue) (b : Bool)
    → truth w.vectors sets w.scope c ≡ b
    → after_step writing sets (IfElse c body other) w ≡ cond b (after_block w (after_steps writing sets body w)) (after_block w (after_steps writing sets other w))
after_step-IfElse writing sets c body other w b h =
    ap (λ (b : Bool). cond b (after_block w (after_steps writing sets body w)) (after_block w (after_steps writing sets other w))) h
