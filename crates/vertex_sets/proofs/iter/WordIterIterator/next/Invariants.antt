use Rattle.std.proofs.Common.{◌≡◌, ◌+◌, ◌*◌, ◌^◌, ◌≤◌, ◌++◌, length}
use Rattle.vertex_sets.specs.inside.Words.{bit_members, word_members}
use Rattle.vertex_sets.proofs.iter.WordIterIterator.next.Given as goal

abbrev pub invariant-loop-self : goal.invariant-loop-self
invariant-loop-self l = record {
  room : l.self-inside.from + 64 + 64 * length l.self-inside.words.now ≤ 2 ^ 32;
  left : bit_members 64 l.self-inside.from l.self-inside.word ++ word_members (l.self-inside.from + 64) l.self-inside.words.now ≡ l.fn.self;
}

abbrev pub decreases-loop-self : goal.decreases-loop-self
decreases-loop-self l = length l.self-inside.words.now
