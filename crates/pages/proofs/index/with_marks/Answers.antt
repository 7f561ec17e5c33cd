-- Proofs of `with_marks`, src/index.rt.
use Rattle.std.proofs.Common.{arith}
use Rattle.pages.proofs.Copying.{mark_more}
use Rattle.pages.proofs.Storing.{no_entry}
use Rattle.pages.proofs.index.with_marks.Goals as goal

pub loop-entry-preserved : goal.loop-entry-preserved
loop-entry-preserved c =
    let l = c.loop-entry in
    λ es bytes ok rises. mark_more l.bits l.entry-index es bytes c.args.run.now (no_entry) (omega arith) rises (l.invariant es bytes ok rises)
