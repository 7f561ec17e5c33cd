-- Proofs of `finish_job`, src/session.rt.
use Rattle.std.proofs.Common.{List, Option, MutBor, map, ap, sym, subst}
use Rattle.std.specs.Arc.{arc_value}
use Rattle.std.specs.List.{IsItemAtMut}
use Rattle.std.specs.Prelude.{slice_set}
use Rattle.session.specs.declared.started_job.StartedJob.{StartedJob}
use Rattle.session.specs.Standing.{SessionValue}
use Rattle.session.proofs.Finishing.{finishes_there, none_to_finish, stops_finishing, stops_there}
use Rattle.session.proofs.Recording.{origin_at, with_stepped}
use Rattle.session.proofs.Taking.{job_numbered, jobs_of, none_numbered, with_job_there}
use Rattle.session.proofs.session.Session.finish_job.Goals as goal

pub returns-in_default-get_mut : goal.returns-in_default-get_mut
returns-in_default-get_mut c = λ programs w at.
    let jobs : List StartedJob = c.self.inside.jobs.items in
    let past = subst (λ (found : Option (MutBor StartedJob)). IsItemAtMut jobs c.in-Some.index found) c.in_default-get_mut.is c.get_mut.ensures.item in
    none_to_finish programs w c.args.self.now _ c.args.number at
    (none_numbered c.args.self.now jobs c.args.number c.in-Some.index (ap (λ (v : SessionValue). v.jobs) (sym c.self.view_is)) c.in-Some.ensures past.3) c.self.view_is

pub returns-in_err-end : goal.returns-in_err-end
returns-in_err-end c = λ programs w at.
    let jobs : List StartedJob = c.self.inside.jobs.items in
    let there = subst (λ (found : Option (MutBor StartedJob)). IsItemAtMut jobs c.in-Some.index found) c.in-Some-get_mut.is c.get_mut.ensures.item in
    let are = ap (λ (v : SessionValue). v.jobs) (sym c.self.view_is) in
    stops_finishing programs w c.args.number c.args.self.now _ c.from_residual.result c.from_residual.ensures.1
    (stops_there programs w c.args.self.now _ c.args.number c.in-Some-get_mut.started.now.job c.finish.new.self.job at
    (job_numbered c.args.self.now jobs c.args.number c.in-Some.index c.in-Some-get_mut.started.now are c.in-Some.ensures there.3.0 there.3.1) c.finish.ensures.steps
    (with_job_there c.args.self.now _ jobs c.args.number c.in-Some.index c.finish.new.self are c.in-Some.ensures
    (ap (λ (v : SessionValue). record v { jobs = jobs_of (slice_set jobs c.in-Some.index c.finish.new.self) }) c.self.view_is)))

pub returns : goal.returns
returns c = λ programs w at.
    let jobs : List StartedJob = c.self.inside.jobs.items in
    let there = subst (λ (found : Option (MutBor StartedJob)). IsItemAtMut jobs c.in-Some.index found) c.in-Some-get_mut.is c.get_mut.ensures.item in
    let are = ap (λ (v : SessionValue). v.jobs) (sym c.self.view_is) in
    finishes_there programs w c.args.self.now _ c.args.number c.in-Some-get_mut.started.now.job c.finish.new.self.job c.in_ok-end.end at
    (job_numbered c.args.self.now jobs c.args.number c.in-Some.index c.in-Some-get_mut.started.now are c.in-Some.ensures there.3.0 there.3.1) c.finish.ensures.steps c.in_ok-end.ensures.end
    (with_job_there c.args.self.now _ jobs c.args.number c.in-Some.index c.finish.new.self are c.in-Some.ensures
    (ap (λ (v : SessionValue). record v { jobs = jobs_of (slice_set jobs c.in-Some.index c.finish.new.self) }) c.self.view_is))

pub finish-requires : goal.finish-requires
finish-requires c =
    let s = c.self.inside in
    let plans = map arc_value s.plans.items in
    let jobs : List StartedJob = s.jobs.items in
    let there = subst (λ (found : Option (MutBor StartedJob)). IsItemAtMut jobs c.in-Some.index found) c.in-Some-get_mut.is c.get_mut.ensures.item in
    record {
      plans = plans;
      are_records = c.self.invariant.are_records;
      is_origin = origin_at plans s.versions.state jobs c.in-Some.index c.in-Some-get_mut.started.now c.self.invariant.have_origins there.3.0 there.3.1;
    }

pub invariant_of-self-2 : goal.invariant_of-self-2
invariant_of-self-2 c =
    let s = c.self.inside in
    let plans = map arc_value s.plans.items in
    let jobs : List StartedJob = s.jobs.items in
    let there = subst (λ (found : Option (MutBor StartedJob)). IsItemAtMut jobs c.in-Some.index found) c.in-Some-get_mut.is c.get_mut.ensures.item in
    let origin = origin_at plans s.versions.state jobs c.in-Some.index c.in-Some-get_mut.started.now c.self.invariant.have_origins there.3.0 there.3.1 in
    with_stepped plans s.versions.state s.flats s.records c.finish.new.records jobs c.in-Some.index c.finish.new.self
    (c.finish.ensures.records plans c.self.invariant.are_records origin) c.finish.ensures.origin c.self.invariant

pub invariant_of-self-in_err-end : goal.invariant_of-self-in_err-end
invariant_of-self-in_err-end c =
    let s = c.self.inside in
    let plans = map arc_value s.plans.items in
    let jobs : List StartedJob = s.jobs.items in
    let there = subst (λ (found : Option (MutBor StartedJob)). IsItemAtMut jobs c.in-Some.index found) c.in-Some-get_mut.is c.get_mut.ensures.item in
    let origin = origin_at plans s.versions.state jobs c.in-Some.index c.in-Some-get_mut.started.now c.self.invariant.have_origins there.3.0 there.3.1 in
    with_stepped plans s.versions.state s.flats s.records c.finish.new.records jobs c.in-Some.index c.finish.new.self
    (c.finish.ensures.records plans c.self.invariant.are_records origin) c.finish.ensures.origin c.self.invariant
