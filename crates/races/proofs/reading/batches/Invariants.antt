use Rattle.std.proofs.Common.{◌≡◌, [], length}
use Rattle.races.specs.RaceScript.{batches_in}
use Rattle.races.specs.inside.Reading.{after_batches}
use Rattle.races.proofs.reading.batches.Given as goal

-- the batches are those so far, and those of the lines that are left
abbrev pub invariant-lines : goal.invariant-lines
invariant-lines l = batches_in [] l.initial.lines ≡ after_batches l.committed.batches (batches_in l.committed.pending l.lines)

abbrev pub decreases-lines : goal.decreases-lines
decreases-lines l = length l.lines
