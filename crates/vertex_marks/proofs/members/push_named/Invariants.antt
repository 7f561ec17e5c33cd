use Rattle.std.proofs.Common.{◌≡◌, ◌++◌, length}
use Rattle.vertex_sets.specs.inside.Words.{bit_members}
use Rattle.vertex_marks.specs.inside.Named.{named_members}
use Rattle.vertex_marks.proofs.members.push_named.Given as goal

abbrev pub invariant-words : goal.invariant-words
invariant-words l =
    l.found.items ++ named_members l.words (bit_members 64 l.first l.left) ≡ l.fn.found.items ++ named_members l.words (bit_members 64 l.first l.summary)

abbrev pub decreases-words : goal.decreases-words
decreases-words l = length (bit_members 64 l.first l.left)
