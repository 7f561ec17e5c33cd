use Rattle.std.proofs.Common.{ℕ, ◌<◌, List, length}
use Rattle.tail_codec.specs.inside.Reading.{BeginsWith}
use Rattle.tail_codec.proofs.Continuing.{Continues}
use Rattle.tail_codec.proofs.reading.read_number.Given as goal

abbrev pub invariant-loop-byte : goal.invariant-loop-byte
invariant-loop-byte l = record {
  some : 0 < l.place;
  below : l.number < l.place;
  back : (k : ℕ) (rest : List ℕ) → BeginsWith k rest l.bytes → Continues l.number l.place k rest l.rest;
  on : (k : ℕ) (rest : List ℕ) → Continues l.number l.place k rest l.rest → BeginsWith k rest l.bytes;
}

abbrev pub decreases-loop-byte : goal.decreases-loop-byte
decreases-loop-byte l = length l.rest
