-- Positions of a run, in the words of the machine.
use Rattle.std.specs.Prelude.{ℕ, List, Option, Some, None, slice_get}
use Rattle.typed_tree.specs.ProgramTree.{ProgramTree}
use Rattle.algorithm_meaning.specs.State.{StateValue}
use Rattle.algorithm_meaning.specs.Loop.{forget_beyond}
use Rattle.algorithm_meaning.specs.declared.outcome.End.TheVariants.{TurnsOver}
use Rattle.algorithm_meaning.specs.declared.outcome.Outcome.{Outcome}
use Rattle.algorithm_meaning.specs.Meaning.{shown}
use Rattle.plans.specs.Instruction.{InstructionTree}
use Rattle.plans.specs.Machine.{Configuration, At, Ended}

-- what a run shows so far: one that continues shows what is visible at the next instruction, as if its turns were over
abbrev pub shown_where : ProgramTree → (turns : ℕ) → Option InstructionTree → StateValue → Outcome
shown_where p turns None s = shown p turns s TurnsOver
shown_where p turns (Some i) s = shown p turns (forget_beyond i.shown s) TurnsOver

abbrev pub outcome_so_far : ProgramTree → (turns : ℕ) → List InstructionTree → Configuration → Outcome
outcome_so_far p turns plan (At index loops s) = shown_where p turns (slice_get plan index) s
outcome_so_far p turns plan (Ended s end) = shown p turns s end
