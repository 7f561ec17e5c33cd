-- Proofs of `start`, src/session.rt.
use Rattle.std.proofs.Common.{◌≡◌, ℕ, Bor, map, List, ◌∷◌, [], ◌++◌, ◌+◌, Option, Some, None, length, refl, ap, sym, ◌∙◌, subst}
use Rattle.std.proofs.lemmas.List.{length-map, map-append}
use Rattle.std.specs.Arc.{arc_value}
use Rattle.std.specs.Option.{MatchOption, option_copied}
use Rattle.runner.specs.Resting.{JobValue}
use Rattle.tree_batch.specs.Digraph.{Digraph}
use Rattle.version_list.specs.Machine.{ticket_version, ticket_graph}
use Rattle.version_list.specs.Kept.{IsHeld}
use Rattle.session.specs.declared.started_job.StartedJob.{StartedJob}
use Rattle.session.specs.World.{nth_from_one}
use Rattle.session.specs.Standing.{SessionValue}
use Rattle.session.specs.inside.Records.{AreOfVersions}
use Rattle.session.proofs.Recording.{graph_of_new, plan_of_new, with_flats, with_started}
use Rattle.session.proofs.Taking.{jobs_of, mapped_found, starts_no_program, starts_no_ticket, starts_there}
use Rattle.session.proofs.session.Session.start.Goals as goal

pub returns-in_default-clause-attempts : goal.returns-in_default-clause-attempts
returns-in_default-clause-attempts c = λ programs w at. (
  starts_no_program arc_value c.self.inside.plans.items c.deref.result.now programs w c.args.self.now c.args.program c.args.turns (ticket_graph w.versions c.args.ticket) at
      (ap (λ (v : SessionValue). v.plans) (sym c.self.view_is)) c.deref.ensures.value
      (subst (λ found. option_copied found ≡ nth_from_one c.deref.result.now c.args.program) c.in_default.is c.numbered_in.ensures),
  refl,
)

pub returns-in_default-kept-clause-attempts : goal.returns-in_default-kept-clause-attempts
returns-in_default-kept-clause-attempts c = λ programs w at.
    let s = c.self.inside.versions.state in
    let ticket = c.args.ticket in
    let none : ticket_version s.open_tickets ticket ≡ None =
    subst (λ (found : Option (ℕ × Bor Digraph)). MatchOption found (ticket_version s.open_tickets ticket ≡ None) (λ v. IsHeld s ticket v.0 v.1.now)) c.in_default-kept.is c.kept.ensures in (
      starts_no_ticket arc_value c.self.inside.plans.items c.deref.result.now programs w c.args.self.now s c.args.program ticket c.args.turns c.in-Some.plan.now at
          (ap (λ (v : SessionValue). v.plans) (sym c.self.view_is)) c.deref.ensures.value
          (subst (λ found. option_copied found ≡ nth_from_one c.deref.result.now c.args.program) c.in-Some.is c.numbered_in.ensures)
          (ap (λ (v : SessionValue). v.versions) (sym c.self.view_is)) none,
      refl,
    )

pub flat-requires-clause-graph : goal.flat-requires-clause-graph
flat-requires-clause-graph c =
    let s = c.self.inside.versions.state in
    let held : IsHeld s c.args.ticket c.in-Some-kept.version c.in-Some-kept.graph.now =
    subst (λ (found : Option (ℕ × Bor Digraph)). MatchOption found (ticket_version s.open_tickets c.args.ticket ≡ None) (λ v. IsHeld s c.args.ticket v.0 v.1.now)) c.in-Some-kept.is c.kept.ensures in
    record { kept = held.kept; made = held.made; graph = held.graph }

pub invariant_of-self-in_err-job : goal.invariant_of-self-in_err-job
invariant_of-self-in_err-job c =
    let s = c.self.inside.versions.state in
    let inside = c.self.inside in
    with_flats (map arc_value inside.plans.items) s inside.flats c.flat.new.self inside.records inside.jobs.items
    c.flat.ensures.are_of c.self.invariant

pub invariant_of-self-in_err-push : goal.invariant_of-self-in_err-push
invariant_of-self-in_err-push c =
    let s = c.self.inside.versions.state in
    let inside = c.self.inside in
    let plans = map arc_value inside.plans.items in
    subst (λ (js : List StartedJob). AreOfVersions plans s c.flat.new.self inside.records js) (sym c.in_err-push.ensures.items)
    (with_flats plans s inside.flats c.flat.new.self inside.records inside.jobs.items c.flat.ensures.are_of c.self.invariant)

pub invariant_of-self-2 : goal.invariant_of-self-2
invariant_of-self-2 c =
    let inside = c.self.inside in
    let s = inside.versions.state in
    let plans = map arc_value inside.plans.items in
    let job : JobValue = c.in_ok-job.job in
    let own = arc_value c.in_ok-clone.field-0 in
    let flat = arc_value c.in_ok-flat.flat in
    let held : IsHeld s c.args.ticket c.in-Some-kept.version c.in-Some-kept.graph.now =
    subst (λ (found : Option (ℕ × Bor Digraph)). MatchOption found (ticket_version s.open_tickets c.args.ticket ≡ None) (λ v. IsHeld s c.args.ticket v.0 v.1.now)) c.in-Some-kept.is c.kept.ensures in
    let are = with_flats plans s inside.flats c.flat.new.self inside.records inside.jobs.items
    c.flat.ensures.are_of c.self.invariant in
    let found : nth_from_one plans c.args.program ≡ Some (arc_value c.in-Some.plan.now) =
    mapped_found arc_value plans inside.plans.items c.deref.result.now c.args.program (Some c.in-Some.plan.now) refl c.deref.ensures.value
    (subst (λ found. option_copied found ≡ nth_from_one c.deref.result.now c.args.program) c.in-Some.is c.numbered_in.ensures) in
    let same_plan = plan_of_new own flat c.args.turns job c.in_ok-job.ensures ∙ c.in_ok-clone.ensures.cases in
    let same_graph = graph_of_new own flat c.args.turns job c.in_ok-job.ensures ∙ c.in_ok-flat.ensures.flat in
    subst (λ (js : List StartedJob). AreOfVersions plans s c.flat.new.self inside.records js) (sym c.in_ok-push.ensures.items)
    (with_started plans s c.flat.new.self inside.records inside.jobs.items (record { origin = Some (record { program = c.args.program; version = c.in-Some-kept.version }); job = job })
    (record { plan = found ∙ ap Some (sym same_plan); made = held.made; graph = same_graph ∙ held.graph }) are)

pub returns-clause-attempts : goal.returns-clause-attempts
returns-clause-attempts c = λ programs w at.
    let inside = c.self.inside in
    let s = inside.versions.state in
    let ticket = c.args.ticket in
    let job : JobValue = c.in_ok-job.job in
    let held : IsHeld s ticket c.in-Some-kept.version c.in-Some-kept.graph.now =
    subst (λ (found : Option (ℕ × Bor Digraph)). MatchOption found (ticket_version s.open_tickets ticket ≡ None) (λ v. IsHeld s ticket v.0 v.1.now)) c.in-Some-kept.is c.kept.ensures in
    let jobs : List StartedJob = inside.jobs.items in
    let started : StartedJob = record { origin = Some (record { program = c.args.program; version = c.in-Some-kept.version }); job = job } in
    starts_there arc_value inside.plans.items c.deref.result.now programs w c.args.self.now _ s c.args.program ticket c.in-Some-kept.version c.args.turns c.in-Some.plan.now c.in-Some-kept.graph.now
    (arc_value c.in_ok-flat.flat)
    (arc_value c.in_ok-clone.field-0) job c.len.result at
    (ap (λ (v : SessionValue). v.plans) (sym c.self.view_is)) c.deref.ensures.value
    (subst (λ found. option_copied found ≡ nth_from_one c.deref.result.now c.args.program) c.in-Some.is c.numbered_in.ensures)
    (ap (λ (v : SessionValue). v.versions) (sym c.self.view_is)) held.ticket held.graph c.in_ok-clone.ensures.cases c.in_ok-flat.ensures.flat c.in_ok-job.ensures
    (ap (λ (js : List StartedJob). record { plans = map arc_value inside.plans.items; versions = s; jobs = jobs_of js }) c.in_ok-push.ensures.items
    ∙ ap (λ (js : List JobValue). record { plans = map arc_value inside.plans.items; versions = s; jobs = js }) (map-append (λ (x : StartedJob). x.job) jobs (started ∷ []))
    ∙ ap (λ (v : SessionValue). record v { jobs = v.jobs ++ job ∷ [] }) c.self.view_is)
    (c.len.ensures ∙ c.in_ok-push.ensures.len ∙ ap (λ (n : ℕ). n + 1) (inside.jobs.ok.0 ∙ sym (length-map jobs (λ (x : StartedJob). x.job)) ∙ ap (λ (v : SessionValue). length v.jobs) c.self.view_is))
