-- Proofs of `forget_vectors` of a follower, src/follower.rt.
use Rattle.std.proofs.Common.{Option, IfSome, sym, subst}
use Rattle.run_records.specs.declared.former_run.FormerRun.{FormerRun}
use Rattle.run_records.specs.declared.follower.Recorder.{Recorder}
use Rattle.run_records.specs.inside.FormerRun.{IsBeside}
use Rattle.run_records.specs.inside.Follower.{IsRecorderOf}
use Rattle.run_records.proofs.follower.FollowerEdgeApplier.forget_vectors.Goals as goal

pub returns-clause-ready : goal.returns-clause-ready
returns-clause-ready over c f g ready =
    let is = ready.1 in (
      ready.0,
      record {
        former = c.forgotten.ensures.beside f g (subst (λ (o : Option FormerRun). IfSome o (IsBeside f g)) (sym c.take.ensures.value) is.former);
        recorder = c.closed.ensures.recorded f g (subst (λ (r : Recorder). IsRecorderOf f g r) (sym c.take_recorder.ensures.taken) is.recorder);
      },
    )
