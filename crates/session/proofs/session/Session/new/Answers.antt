-- Proofs of `new`, src/session.rt.
use Rattle.std.proofs.Common.{map}
use Rattle.std.specs.Arc.{arc_value}
use Rattle.session.proofs.Recording.{of_nothing}
use Rattle.session.proofs.session.Session.new.Goals as goal

pub invariant_of-result : goal.invariant_of-result
invariant_of-result c =
    let s = c.in_ok-versions.versions.state in
    of_nothing (map arc_value c.in_ok-plans.plans.items) s c.new-2.result c.new-4.result c.new-3.result.items (c.new-2.ensures.are_of s) c.new-4.ensures c.new-3.ensures.items
