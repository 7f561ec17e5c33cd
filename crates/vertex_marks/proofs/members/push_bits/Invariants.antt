use Rattle.std.proofs.Common.{◌≡◌, ◌++◌, length}
use Rattle.vertex_sets.specs.inside.Words.{bit_members}
use Rattle.vertex_marks.proofs.members.push_bits.Given as goal

abbrev pub invariant-bits : goal.invariant-bits
invariant-bits l = l.found.items ++ bit_members 64 l.low l.left ≡ l.fn.found.items ++ bit_members 64 l.low l.word

abbrev pub decreases-bits : goal.decreases-bits
decreases-bits l = length (bit_members 64 l.low l.left)
