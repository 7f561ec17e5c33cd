-- Statements that hold blocks.
use Rattle.std.proofs.Common.{◌≡◌, ℕ, Bool, true, Option, Some, ap}
use Rattle.typed_tree.specs.IntExpressionTree.{IntExpressionTree}
use Rattle.typed_tree.specs.BoolExpressionTree.{BoolExpressionTree}
use Rattle.typed_tree.specs.BlockTree.{BlockTree, If, IfElse, For}
use Rattle.typed_tree.specs.ProgramTree.{ProgramTree}
use Rattle.algorithm_meaning.specs.declared.state.LoopCounter.{LoopCounter}
use Rattle.algorithm_meaning.specs.State.{GraphValue, StateValue}
use Rattle.algorithm_meaning.specs.Stand.{Live, bool_value_in, with_value, choose}
use Rattle.algorithm_meaning.specs.Loop.{inside, after_for, bounds_in}
use Rattle.algorithm_meaning.specs.Meaning.{after, after_all}

-- `if` whose condition holds
pub after-If_true : (p : ProgramTree) (g : GraphValue) (number : ℕ) (c : BoolExpressionTree) (body : BlockTree) (s : StateValue)
    → bool_value_in g.vertices c s ≡ Some true → after p g number (If c body) s ≡ inside (after_all p g body) s
after-If_true p g number c body s h =
    ap (λ (o : Option Bool). with_value o number s (λ b. choose b (inside (after_all p g body) s) (Live s))) h

-- `if` with `else`, either way
pub after-IfElse : (p : ProgramTree) (g : GraphValue) (number : ℕ) (c : BoolExpressionTree) (body other : BlockTree) (s : StateValue) (b : Bool)
    → bool_value_in g.vertices c s ≡ Some b → after p g number (IfElse c body other) s ≡ choose b (inside (after_all p g body) s) (inside (after_all p g other) s)
after-IfElse p g number c body other s b h =
    ap (λ (o : Option Bool). with_value o number s (λ b. choose b (inside (after_all p g body) s) (inside (after_all p g other) s))) h

-- `for` with its bounds
pub after-For : (p : ProgramTree) (g : GraphValue) (number name : ℕ) (first end : IntExpressionTree) (body : BlockTree) (s : StateValue) (r : LoopCounter)
    → bounds_in g.vertices first end s ≡ Some r → after p g number (For name first end body) s ≡ after_for number (after_all p g body) r s
after-For p g number name first end body s r h =
    ap (λ (o : Option LoopCounter). with_value o number s (λ r. after_for number (after_all p g body) r s)) h
