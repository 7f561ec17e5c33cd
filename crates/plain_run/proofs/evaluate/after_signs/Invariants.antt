use Rattle.std.proofs.Common.{◌≡◌}
use Rattle.plain_run.specs.inside.Chain.{negative_times}
use Rattle.plain_run.proofs.evaluate.after_signs.Given as goal

abbrev pub invariant-signs : goal.invariant-signs
invariant-signs l = l.now.number ≡ negative_times l.sign l.fn.total.number
