-- Proofs of `push`, src/long_lists.rt.
use Rattle.std.proofs.Common.{refl}
use Rattle.ascending_lists.specs.Maps.{Rises}
use Rattle.vertex_blocks.specs.inside.LongLists.{long_entries}
use Rattle.vertex_blocks.proofs.LongTables.{long_pushed}
use Rattle.vertex_blocks.proofs.long_lists.LongLists.push.Goals as goal

pub invariant_of-self-2 : goal.invariant_of-self-2
invariant_of-self-2 c =
    let s = c.self.inside in
    let above : Rises 0 c.args.vertex (long_entries s.entries.items) = rw c.self.view_is c.requires.above in
    rw c.in_ok-push.ensures.items (long_pushed s.present c.args.vertex s.entries.items
    (record { vertex = c.args.vertex; list = c.args.list }) c.self.invariant refl above c.requires.vertex c.requires.some c.len.ensures.ascending)
