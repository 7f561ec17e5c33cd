-- Proofs of `finish_kept`, src/started_job.rt.
use Rattle.session.proofs.Recording.{former_of_job, records_after_job, stepped_again}
use Rattle.session.proofs.started_job.finish_kept.Goals as goal

pub finish_recorded-requires-clause-former : goal.finish_recorded-requires-clause-former
finish_recorded-requires-clause-former c =
    former_of_job c.args.versions.now.state c.args.records.now c.args.job.now c.args.origin c.predecessor-former.result c.requires.kept c.requires.plans c.predecessor-former.ensures

pub returns-in-Ok-finish_recorded-clause-records : goal.returns-in-Ok-finish_recorded-clause-records
returns-in-Ok-finish_recorded-clause-records c = λ plans are of.
    records_after_job plans c.args.versions.now.state c.args.records.now c.keep.new.self c.args.job.now c.args.origin c.in-Ok-finish_recorded.ended.run_record c.requires.kept of
    c.in-Ok-finish_recorded.ensures.kept c.keep.ensures are

pub returns-in-Err-clause-steps : goal.returns-in-Err-clause-steps
returns-in-Err-clause-steps c = stepped_again c.args.job.now c.finish_recorded.new.job c.finish-in-Err.new.self c.finish_recorded.ensures.steps c.finish-in-Err.ensures.steps
