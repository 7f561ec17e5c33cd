-- Proofs of `with_capacity`, src/long_lists.rt.
use Rattle.pages.proofs.Ranks.{index_none}
use Rattle.vertex_blocks.proofs.long_lists.LongLists.with_capacity.Goals as goal

pub invariant_of-result : goal.invariant_of-result
invariant_of-result c = rw c.in_ok-entries.ensures.items (record { index = index_none; lists = tt })
