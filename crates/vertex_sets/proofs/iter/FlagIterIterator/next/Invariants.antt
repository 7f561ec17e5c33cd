use Rattle.std.proofs.Common.{◌≡◌, ◌+◌, ◌^◌, ◌<◌, length}
use Rattle.vertex_sets.specs.inside.Words.{flag_members}
use Rattle.vertex_sets.proofs.iter.FlagIterIterator.next.Given as goal

abbrev pub invariant-loop-flag : goal.invariant-loop-flag
invariant-loop-flag l = record {
  room : l.self-inside.from + length l.self-inside.flags.now < 2 ^ 32;
  left : flag_members l.self-inside.from l.self-inside.flags.now ≡ l.fn.self;
}

abbrev pub decreases-loop-flag : goal.decreases-loop-flag
decreases-loop-flag l = length l.self-inside.flags.now
