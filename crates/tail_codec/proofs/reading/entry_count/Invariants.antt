use Rattle.std.proofs.Common.{◌≡◌, ◌+◌, ◌^◌, ◌≤◌, length}
use Rattle.tail_codec.specs.Spelling.{SpellsFrom}
use Rattle.tail_codec.specs.inside.Decoding.{decoded}
use Rattle.tail_codec.proofs.reading.entry_count.Given as goal

abbrev pub invariant-loop-rest : goal.invariant-loop-rest
invariant-loop-rest l = record {
  low : l.from ≤ 2 ^ 32;
  few : l.count + length l.rest ≤ length l.bytes;
  back : SpellsFrom l.fn.low (decoded l.fn.low l.bytes) l.bytes → SpellsFrom l.from (decoded l.from l.rest) l.rest;
  on : SpellsFrom l.from (decoded l.from l.rest) l.rest → SpellsFrom l.fn.low (decoded l.fn.low l.bytes) l.bytes;
  count : l.count + length (decoded l.from l.rest) ≡ length (decoded l.fn.low l.bytes);
}

abbrev pub decreases-loop-rest : goal.decreases-loop-rest
decreases-loop-rest l = length l.rest
