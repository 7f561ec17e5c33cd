use Rattle.std.proofs.Common.{length}
use Rattle.set_ops.proofs.combine.+combine.Given as goal

abbrev pub decreases-combine : goal.decreases-combine
decreases-combine l = length l.first.now.entries
