use Rattle.std.proofs.Common.{◌≡◌, length}
use Rattle.races.specs.RaceScript.{order_in}
use Rattle.races.proofs.reading.opening.Given as goal

-- the lines so far are empty
abbrev pub invariant-lines : goal.invariant-lines
invariant-lines l = order_in l.initial.lines ≡ order_in l.lines

abbrev pub decreases-lines : goal.decreases-lines
decreases-lines l = length l.lines
