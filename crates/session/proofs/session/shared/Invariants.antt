use Rattle.std.proofs.Common.{◌≡◌, ◌++◌, map}
use Rattle.std.specs.Arc.{arc_value}
use Rattle.session.proofs.session.shared.Given as goal

-- the plans so far are shared, and the others are still to come
abbrev pub invariant-loop-plan : goal.invariant-loop-plan
invariant-loop-plan l =
    (goal.iterator-loop-plan).can_next l.plan-iterator × (goal.iterator-loop-plan).is_finite l.plan-iterator
    × (map arc_value l.shared.items ++ l.plan-iterator.rest.items ≡ l.fn.plans.items)
