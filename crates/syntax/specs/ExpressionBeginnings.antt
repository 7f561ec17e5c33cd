-- Which terminals begin with an expression.
use Rattle.std.specs.Prelude.{◌≡◌, ℕ, ◌≤◌, List, ◌++◌}
use Rattle.syntax.specs.Terminals.{Terminal}
use Rattle.syntax.specs.SourceTrees.{ExpressionTree}
use Rattle.syntax.specs.ExpressionSpelling.{expression_terminals}
use Rattle.syntax.specs.ExpressionDepth.{expression_depth}
use Rattle.syntax.specs.ExpressionEnds.{EndsExpression}

-- the terminals are those of the tree and then the rest, the tree is at most so deep, and the rest does not continue with it
pub record IsReading {A : Type 0} (spelled : A → List Terminal) (deep : A → ℕ) (Ends : A → List Terminal → Type 0) (depth : ℕ) (ws : List Terminal) (tree : A)
    (rest : List Terminal) : Type 0 where
  pub whole : ws ≡ spelled tree ++ rest
  pub within : deep tree ≤ depth
  pub ends : Ends tree rest

-- the terminals begin with this expression, and the rest is after it
abbrev pub Begins : ℕ → List Terminal → ExpressionTree → List Terminal → Type 0
Begins = IsReading expression_terminals expression_depth EndsExpression
