-- Proofs of `form`, src/block.rt.
use Rattle.std.proofs.Common.{◌∙◌}
use Rattle.vertex_blocks.specs.inside.LongLists.{entries_in}
use Rattle.vertex_blocks.proofs.Sums.{from_long}
use Rattle.vertex_blocks.proofs.block.VertexBlock.form.Goals as goal

pub returns-in-Some : goal.returns-in-Some
returns-in-Some c =
    c.form.ensures ∙ from_long c.args.self.now c.parts.result.0.now c.parts.result.1.now c.args.vertex
    (entries_in c.in-Some.list.now) c.parts.ensures c.requires c.in-Some.ensures.0 c.in-Some.ensures.1
