-- Proofs of `pull_by_workers`, src/crew_apply.rt.
use denote.Param.Send.{sendable}
use Rattle.std.proofs.Crossing.{crosses}
use Rattle.std.proofs.Common.{◌∙◌, length, sym, subst}
use Rattle.crew.specs.Pieces.{AreFound}
use Rattle.crew.proofs.FoundPieces.{found_answers, found_once}
use Rattle.pull_engine.proofs.Crossing.{work_sync}
use Rattle.edge_apply.specs.declared.apply.Apply.{Apply}
use Rattle.edge_apply.specs.Applied.{AreChangesOf}
use Rattle.pull_engine.specs.KeptCut.{IsCutFor}
use Rattle.pull_engine.specs.Pieces.{Answers}
use Rattle.pull_engine.proofs.crew_apply.pull_by_workers.Goals as goal

pub run_pieces-requires-sync-W : goal.run_pieces-requires-sync-W
run_pieces-requires-sync-W g c κs within = search (sendable, crosses, work_sync) depth 14

pub returns-clause-changes : goal.returns-clause-changes
returns-clause-changes g c =
    let work = c.in_ok-work.work in
    let lent = c.deref.ensures.value in
    let found = subst (λ n. AreFound (Answers work) n c.in_ok-found.found.items) c.pieces-pieces.ensures c.in_ok-found.ensures.found in
    let listed = subst (λ fs. AreFound (Answers work) (length work.partition) fs) (sym lent) found in
    let whole = c.in_ok-changes.ensures.changes (found_answers (Answers work) (length work.partition) _ listed) (found_once (Answers work) (length work.partition) _ listed) in
    subst (λ (a : Apply). AreChangesOf a c.in_ok-changes.changes.vectors.items) c.in_ok-work.ensures.apply whole

pub returns-clause-cut : goal.returns-clause-cut
returns-clause-cut g c =
    let a = c.args.apply.now in
    c.keep.ensures a.flat.now
    (subst (IsCutFor a.parallelization c.args.workers.now.count a.flat.now) (sym (c.into_partition.ensures ∙ c.in_ok-work.ensures.partition)) c.in_ok-partition.ensures.taken)
