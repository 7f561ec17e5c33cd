use Rattle.std.proofs.Common.{◌≡◌, take}
use Rattle.vertex_sets.specs.inside.Words.{word_members}
use Rattle.vertex_marks.specs.inside.Named.{named_members}
use Rattle.vertex_marks.proofs.vertex_marks.VertexMarks.members.Given as goal

abbrev pub invariant-sums : goal.invariant-sums
invariant-sums l = l.found.items ≡ named_members l.self.words.items (word_members 0 (take l.position l.self.summary.items))
