-- Proofs of `finish`, src/started_job.rt.
use Rattle.std.proofs.Common.{Option, sym, subst}
use Rattle.std.specs.Option.{IfSome}
use Rattle.session.specs.declared.started_job.JobOrigin.{JobOrigin}
use Rattle.session.specs.inside.Records.{IsOriginOf}
use Rattle.session.proofs.started_job.StartedJob.finish.Goals as goal

pub returns-in-Some-clause-records : goal.returns-in-Some-clause-records
returns-in-Some-clause-records c = λ plans are has.
    c.finish_kept.ensures.records plans are
    (subst (λ (o : Option JobOrigin). IfSome o (IsOriginOf plans c.args.versions.now.state c.args.self.now.job)) (sym c.in-Some.ensures.value) has)
