-- Instructions of plans, without kernels.
use Rattle.std.specs.Prelude.{ℕ}
use Rattle.typed_tree.specs.declared.expression.VarRef.{VarRef}
use Rattle.typed_tree.specs.declared.statement.ApplyEnds.{ApplyEnds}
use Rattle.typed_tree.specs.IntExpressionTree.{IntExpressionTree}
use Rattle.typed_tree.specs.BoolExpressionTree.{BoolExpressionTree}
use Rattle.typed_tree.specs.BlockTree.{SimpleStatementTree}
use Rattle.algorithm_meaning.specs.declared.state.Depth.{Depth}
use Rattle.apply_options.specs.declared.apply_schedule.ApplySchedule.{ApplySchedule}

-- what is done with the vertices where an edge apply changed a vector: nothing, or a set gets them, a new variable of this name or one that is there
pub data ResultTree : Type 0 where
  Dropped : ResultTree
  Declared : (name vector : ℕ) → ResultTree
  Assigned : VarRef → (vector : ℕ) → ResultTree

-- the edge function at this index, and what is done with what it changed
pub record EdgePartTree : Type 0 where
  pub function : ℕ
  pub result : ResultTree

-- what an instruction does; an index that it may go to is that of an instruction
pub data OperationTree : Type 0 where
  -- a statement without a block
  Do : SimpleStatementTree → OperationTree
  -- two edge applies between the same ends, and two vertex applies to the same set
  ApplyEdgesTogether : ApplyEnds → (first second : EdgePartTree) → OperationTree
  ApplyVerticesTogether : (set : VarRef) → (first second : ℕ) → OperationTree
  -- continues at the index unless the condition holds
  Unless : BoolExpressionTree → (to : ℕ) → OperationTree
  -- `for` whose name, the last variable, has its first value: the second bound, which is after the name
  Enter : (name : ℕ) → (end : IntExpressionTree) → OperationTree
  -- leaves the loop for the index unless the name is below the bound
  UnlessBelow : (name to : ℕ) → OperationTree
  -- the name of the loop gets its next value
  Advance : (name : ℕ) → OperationTree
  -- uses a turn, or ends the run
  Turn : OperationTree
  Jump : (to : ℕ) → OperationTree
  End : OperationTree

-- An instruction, with the number of the statement that it came from. A step first forgets what is beyond `keep`. A run that ends there
-- shows what is visible at the statement, `shown`. What the schedule says of an edge apply decides only how it is done.
pub record InstructionTree : Type 0 where
  pub number : ℕ
  pub keep : Depth
  pub shown : Depth
  pub apply_schedule : ApplySchedule
  pub operation : OperationTree
