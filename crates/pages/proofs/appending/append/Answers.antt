-- Proofs of `append`, src/appending.rt.
use Rattle.std.proofs.Common.{get_or, drop, arith}
use Rattle.pages.specs.declared.entry.ListEntry.{ListEntry}
use Rattle.pages.proofs.Extending.{end_from}
use Rattle.pages.proofs.Copying.{next_fits}
use Rattle.pages.proofs.Storing.{no_entry}
use Rattle.pages.proofs.appending.append.Goals as goal

pub overflow_cast-position : goal.overflow_cast-position
overflow_cast-position c =
    let l = c.loop-entry in
    omega (arith, end_from l.position (drop l.entry-index c.args.run.now), l.invariant.ends, c.requires.fits)

pub overflow_add-position : goal.overflow_add-position
overflow_add-position c =
    let l = c.loop-entry in
    let e : ListEntry = get_or c.args.run.now l.entry-index (no_entry) in
    omega (arith, c.size-position.ensures.size, next_fits l.position l.entry-index c.args.run.now (no_entry) (omega arith), l.invariant.ends, c.requires.fits)
