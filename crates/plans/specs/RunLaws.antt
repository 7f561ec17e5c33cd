-- Facts of runs of plans.
use Rattle.std.specs.Prelude.{◌≡◌, ℕ, ◌<◌, ◌≤◌, List, length}
use Rattle.typed_tree.specs.ProgramTree.{ProgramTree}
use Rattle.algorithm_meaning.specs.declared.outcome.Outcome.{Outcome}
use Rattle.algorithm_meaning.specs.State.{GraphValue}
use Rattle.algorithm_meaning.specs.Meaning.{after_all, initial_state, shown, meaning}
use Rattle.plans.specs.Instruction.{InstructionTree}
use Rattle.plans.specs.Machine.{Configuration, At, Ended, step, steps, first_configuration, finish}
use Rattle.plans.specs.Bound.{most_steps}

-- a run in this state has a next step: it has not ended, and an instruction is at its index
abbrev pub GoesOn : List InstructionTree → Configuration → Type 0
GoesOn plan (At index loops s) = index < length plan
GoesOn plan (Ended s end) = ⊥

-- it has ended, and this is what it shows
abbrev pub Shows : ProgramTree → (turns : ℕ) → Configuration → Outcome → Type 0
Shows p turns (At index loops s) outcome = ⊥
Shows p turns (Ended s end) outcome = shown p turns s end ≡ outcome

-- The plan does what the program does: after some number of steps, no more than a bound that is known beforehand, the run has ended, is where main
-- leaves it, and shows what the program means; and before that it always has a next step.
pub record RunsAs (p : ProgramTree) (g : GraphValue) (turns : ℕ) (plan : List InstructionTree) : Type 0 where
  pub count : ℕ
  pub within : count ≤ most_steps plan (first_configuration (initial_state p g turns))
  pub ends : steps p g plan count (first_configuration (initial_state p g turns)) ≡ finish (after_all p g p.main (initial_state p g turns))
  pub means : Shows p turns (steps p g plan count (first_configuration (initial_state p g turns))) (meaning p g turns)
  pub goes_on : (k : ℕ) → k < count → GoesOn plan (steps p g plan k (first_configuration (initial_state p g turns)))

-- from wherever a run continues, it has fewer steps left after the next one
abbrev pub StepsLowerTheBound : ProgramTree → GraphValue → List InstructionTree → Type 0
StepsLowerTheBound p g plan = (c : Configuration) → GoesOn plan c → most_steps plan (step p g plan c) < most_steps plan c
