-- What is kept before an instruction, and how many steps are left.
use Rattle.std.proofs.Common.{◌≡◌, ℕ, ◌+◌, ◌*◌, List, length, refl, ap₂}
use Rattle.algorithm_meaning.specs.State.{StateValue}
use Rattle.algorithm_meaning.specs.declared.state.Depth.{Depth}
use Rattle.plans.specs.Bound.{most_steps, rank}
use Rattle.plans.specs.Instruction.{InstructionTree}
use Rattle.algorithm_meaning.specs.Loop.{forget_beyond}
use Rattle.plans.specs.Machine.{Configuration, At, Ended}
use Rattle.plans.proofs.Depths.{forgotten-less, within_itself}
use Rattle.runner.specs.inside.Done.{AreLevel}

-- what is forgotten stays forgotten
pub forgotten_twice : (d : Depth) (s : StateValue) → forget_beyond d (forget_beyond d s) ≡ forget_beyond d s
forgotten_twice d s = forgotten-less d d s (within_itself d)

-- what stands level has as many steps left at most
pub as_many_left : (plan : List InstructionTree) (c d : Configuration) → AreLevel c d → most_steps plan c ≡ most_steps plan d
as_many_left plan (At index loops s) (At index' loops' s') level =
    ap₂ (λ (n q : ℕ). n * (2 * length plan + 2) + rank plan q + 1) level.1 level.0
as_many_left plan (At index loops s) (Ended s' end) level = absurd level
as_many_left plan (Ended s end) (At index loops s') level = absurd level
as_many_left plan (Ended s end) (Ended s' end') level = refl

pub level_itself : (c : Configuration) → AreLevel c c
level_itself (At index loops s) = (refl, refl)
level_itself (Ended s end) = tt
