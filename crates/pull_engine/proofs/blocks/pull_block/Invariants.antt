use Rattle.std.proofs.Common.{◌≡◌, ◌*◌, ◌++◌}
use Rattle.edge_apply.specs.Words.{passes_words}
use Rattle.vectors.specs.Lanes.{lane_entry}
use Rattle.vertex_sets.specs.inside.Words.{bit_members}
use Rattle.pull_engine.specs.inside.Blocks.{block_changes}
use Rattle.pull_engine.specs.inside.Ranges.{changes_at, pulled}
use Rattle.pull_engine.proofs.blocks.pull_block.Given as goal

-- the changes so far, with those at the vertices of the bits that are left, are the whole
abbrev pub invariant-vertices : goal.invariant-vertices
invariant-vertices g l =
    let r = g.F.SourceFold.reduction l.fold in
    let number = g.F.SourceFold.number l.fold in
    let old = lane_entry l.pull.old in
    l.changes.items ++ changes_at old (pulled r number old (passes_words l.pull.from) l.pull.flat.now.edges) (bit_members 64 (64 * l.block) l.left)
    ≡ l.fn.changes.items ++ block_changes l.pull r number l.block l.fn.word

abbrev pub decreases-vertices : goal.decreases-vertices
decreases-vertices g l = l.left
