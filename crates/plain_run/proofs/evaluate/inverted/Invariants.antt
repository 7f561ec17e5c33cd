use Rattle.std.proofs.Common.{◌≡◌}
use Rattle.plain_run.specs.inside.Chain.{not_times}
use Rattle.plain_run.proofs.evaluate.inverted.Given as goal

abbrev pub invariant-nots : goal.invariant-nots
invariant-nots l = l.now ≡ not_times l.done l.b
