-- Proofs of `with_capacity`, src/page.rt.
use Rattle.std.proofs.Common.{arith}
use Rattle.pages.proofs.Ranks.{index_none}
use Rattle.pages.proofs.page.Page.with_capacity.Goals as goal

pub invariant_of-result : goal.invariant_of-result
invariant_of-result c =
    rw c.in_ok-entries.ensures.items (record {
      listed = tt;
      ends = omega (arith, c.in_ok-resize.ensures.len);
      index = index_none;
    })
