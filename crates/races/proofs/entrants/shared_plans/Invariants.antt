use Rattle.std.proofs.Common.{◌≡◌, map, take}
use Rattle.std.specs.Arc.{arc_value}
use Rattle.races.proofs.entrants.shared_plans.Given as goal

-- the first plans once more
abbrev pub invariant-loop-index : goal.invariant-loop-index
invariant-loop-index l = map (λ p. arc_value p) l.shared.items ≡ map (λ p. arc_value p.now) (take l.index l.plans)
