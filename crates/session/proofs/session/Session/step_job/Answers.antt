-- Proofs of `step_job`, src/session.rt.
use Rattle.std.proofs.Common.{List, Option, MutBor, map, ap, sym, subst}
use Rattle.std.specs.Arc.{arc_value}
use Rattle.std.specs.List.{IsItemAtMut}
use Rattle.std.specs.Prelude.{slice_set}
use Rattle.session.specs.declared.started_job.StartedJob.{StartedJob}
use Rattle.session.specs.declared.step.SessionStep.TheVariants.{JobStep}
use Rattle.session.specs.Standing.{SessionValue}
use Rattle.session.specs.World.{step_answer}
use Rattle.session.proofs.Attempting.{no_memory_attempt, on_err}
use Rattle.session.proofs.Recording.{with_stepped}
use Rattle.session.proofs.Taking.{jobs_of, no_job_there, steps_job_there, unstepped_there}
use Rattle.session.proofs.session.Session.step_job.Goals as goal

pub returns-in_default-get_mut-clause-attempts : goal.returns-in_default-get_mut-clause-attempts
returns-in_default-get_mut-clause-attempts c = λ programs w at.
    let jobs : List StartedJob = c.self.inside.jobs.items in
    let past = subst (λ (found : Option (MutBor StartedJob)). IsItemAtMut jobs c.in-Some.index found) c.in_default-get_mut.is c.get_mut.ensures.item in
    (no_job_there programs w c.args.self.now jobs c.args.number c.in-Some.index at (ap (λ (v : SessionValue). v.jobs) (sym c.self.view_is)) c.in-Some.ensures past.3, c.self.view_is)

pub returns-clause-attempts : goal.returns-clause-attempts
returns-clause-attempts c = λ programs w at.
    let jobs : List StartedJob = c.self.inside.jobs.items in
    let there = subst (λ (found : Option (MutBor StartedJob)). IsItemAtMut jobs c.in-Some.index found) c.in-Some-get_mut.is c.get_mut.ensures.item in
    steps_job_there programs w c.args.self.now _ jobs c.args.number c.in-Some.index c.in-Some-get_mut.started.now c.step.new.self c.in_ok-stand.stand at
    (ap (λ (v : SessionValue). v.jobs) (sym c.self.view_is)) c.in-Some.ensures
    there.3.0 there.3.1 c.in_ok-stand.ensures.steps c.in_ok-stand.ensures.stand
    (ap (λ (v : SessionValue). record v { jobs = jobs_of (slice_set jobs c.in-Some.index c.step.new.self) }) c.self.view_is)

pub returns-in_err-stand-clause-err : goal.returns-in_err-stand-clause-err
returns-in_err-stand-clause-err c =
    let jobs : List StartedJob = c.self.inside.jobs.items in
    let there = subst (λ (found : Option (MutBor StartedJob)). IsItemAtMut jobs c.in-Some.index found) c.in-Some-get_mut.is c.get_mut.ensures.item in
    let same = unstepped_there c.args.self.now _ jobs c.in-Some.index c.in-Some-get_mut.started.now c.step.new.self (ap (λ (v : SessionValue). v.jobs) (sym c.self.view_is)) there.3.1 c.in_err-stand.ensures.err
    (ap (λ (v : SessionValue). record v { jobs = jobs_of (slice_set jobs c.in-Some.index c.step.new.self) }) c.self.view_is) in
    on_err c.from_residual.result _ same

pub returns-in_err-stand-clause-attempts : goal.returns-in_err-stand-clause-attempts
returns-in_err-stand-clause-attempts c = λ programs w at.
    let jobs : List StartedJob = c.self.inside.jobs.items in
    let there = subst (λ (found : Option (MutBor StartedJob)). IsItemAtMut jobs c.in-Some.index found) c.in-Some-get_mut.is c.get_mut.ensures.item in
    let same = unstepped_there c.args.self.now _ jobs c.in-Some.index c.in-Some-get_mut.started.now c.step.new.self (ap (λ (v : SessionValue). v.jobs) (sym c.self.view_is)) there.3.1 c.in_err-stand.ensures.err
    (ap (λ (v : SessionValue). record v { jobs = jobs_of (slice_set jobs c.in-Some.index c.step.new.self) }) c.self.view_is) in
    no_memory_attempt programs w (step_answer programs w (JobStep c.args.number)) c.args.self.now _ c.from_residual.result c.from_residual.ensures.1 same

pub invariant_of-self-2 : goal.invariant_of-self-2
invariant_of-self-2 c =
    let s = c.self.inside in
    with_stepped (map arc_value s.plans.items) s.versions.state s.flats s.records s.records s.jobs.items c.in-Some.index c.step.new.self c.self.invariant.are_records c.step.ensures.origin
    c.self.invariant
