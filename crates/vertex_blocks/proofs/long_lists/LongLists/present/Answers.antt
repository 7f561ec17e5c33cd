-- Proofs of `present`, src/long_lists.rt.
use Rattle.pages.proofs.Ranks.{unmarked}
use Rattle.vertex_blocks.specs.inside.LongLists.{long_entries}
use Rattle.vertex_blocks.proofs.long_lists.LongLists.present.Goals as goal

pub returns : goal.returns
returns c u lt none =
    let s = c.self.inside in
    rw (← c.self.view_is) (unmarked s.present (long_entries s.entries.items) c.self.invariant.index u lt none)
