-- Instructions that lowering puts after the ones that are there.
use Rattle.std.specs.Prelude.{[], ◌≡◌, List, ◌++◌, ℕ, ◌∷◌, length, slice_set}
use Rattle.typed_tree.specs.ProgramTree.{ProgramTree}
use Rattle.plans.specs.Instruction.{InstructionTree}
use Rattle.plans.specs.declared.instruction.Instruction.{Instruction}
use Rattle.lowering.specs.Text.{AreWritten, IsWritten}

-- the code has grown by these instructions of a program
pub record Puts (p : ProgramTree) (old new : List Instruction) (trees : List InstructionTree) : Type 0 where
  pub more : List Instruction
  pub is : new ≡ old ++ more
  pub are : AreWritten p more trees

-- the code has grown by an instruction in whose place another is to come
pub record KeepsIndex (old new : List Instruction) (index : ℕ) : Type 0 where
  pub kept : Instruction
  pub is : new ≡ old ++ kept ∷ []
  pub at : index ≡ length old

-- an instruction of a program is at an index now
pub record Fills (p : ProgramTree) (old new : List Instruction) (index : ℕ) (tree : InstructionTree) : Type 0 where
  pub instruction : Instruction
  pub is : new ≡ slice_set old index instruction
  pub written : IsWritten p instruction tree

-- a loop has begun: an index is kept for its test, and its turn is after that
pub record BeginsLoop (p : ProgramTree) (old new : List Instruction) (index : ℕ) (turn : InstructionTree) : Type 0 where
  pub test : List Instruction
  pub keeps : KeepsIndex old test index
  pub turns : Puts p test new (turn ∷ [])
