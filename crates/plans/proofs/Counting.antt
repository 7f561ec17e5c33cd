-- How many steps a run takes, and that it goes on before its end.
use Rattle.std.proofs.Common.{◌≡◌, ℕ, zero, suc, ◌<◌, ◌≤◌, List, refl, arith}
use Rattle.typed_tree.specs.ProgramTree.{ProgramTree}
use Rattle.algorithm_meaning.specs.State.{GraphValue}
use Rattle.plans.specs.Instruction.{InstructionTree}
use Rattle.plans.specs.Machine.{Configuration, step, steps}
use Rattle.plans.specs.RunLaws.{GoesOn, StepsLowerTheBound}
use Rattle.plans.specs.Bound.{most_steps}
use Rattle.plans.proofs.Reaching.{Reaches, here, next}

module _ (p : ProgramTree) (g : GraphValue) (code : List InstructionTree) (falls : StepsLowerTheBound p g code) where
  -- so many steps lead there, and before them the run goes on
  pub record TakesSteps (c d : Configuration) : Type 0 where
    pub count : ℕ
    pub within : count ≤ most_steps code c
    pub ends : steps p g code count c ≡ d
    pub goes_on : (k : ℕ) → k < count → GoesOn code (steps p g code k c)

  at_each_step : (c : Configuration) (n : ℕ) → GoesOn code c → ((k : ℕ) → k < n → GoesOn code (steps p g code k (step p g code c)))
      → (k : ℕ) → k < suc n → GoesOn code (steps p g code k c)
  at_each_step c n first rest zero h = first
  at_each_step c n first rest (suc k) h = rest k (omega (arith, h))

  pub takes_steps : (c d : Configuration) → Reaches p g code c d → TakesSteps c d
  takes_steps c d here = record { count = 0; within = omega arith; ends = refl; goes_on = λ k h. absurd (omega (arith, h)) }
  takes_steps c d (next h r) =
      let t = takes_steps (step p g code c) d r in
      let fewer = falls c h in
      let bound = t.within in
      record { count = suc t.count; within = omega (arith, fewer, bound); ends = t.ends; goes_on = at_each_step c t.count h t.goes_on }
