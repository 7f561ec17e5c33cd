use Rattle.std.proofs.Common.{◌≡◌, ◌++◌, pos, get_or}
use Rattle.vertex_sets.specs.inside.Words.{bit_members}
use Rattle.edge_fold.specs.inside.Changed.{entries_at}
use Rattle.edge_fold.proofs.whole_changes.push_word.Given as goal

-- what is added, with the new entries at the bits that are left, is the whole
abbrev pub invariant-bits : goal.invariant-bits
invariant-bits l = l.changes.items ++ entries_at (λ v. get_or l.new v (pos 0)) (bit_members 64 l.first l.left) ≡ l.fn.changes.items
    ++ entries_at (λ v. get_or l.new v (pos 0)) (bit_members 64 l.first l.fn.word)

abbrev pub decreases-bits : goal.decreases-bits
decreases-bits l = l.left
