-- Proofs of `acquire`, src/session.rt.
use Rattle.std.proofs.Common.{map, sym, subst}
use Rattle.std.specs.Arc.{arc_value}
use Rattle.version_list.specs.Timeline.{Timeline}
use Rattle.version_flats.proofs.Holds.{hold_keeps, hold_refused}
use Rattle.session.specs.inside.Records.{AreOfVersions}
use Rattle.session.proofs.Recording.{held_versions, of_later_versions}
use Rattle.session.proofs.session.Session.acquire.Goals as goal

pub invariant_of-self : goal.invariant_of-self
invariant_of-self c =
    let s = c.self.inside in
    let same = hold_refused s.versions c.prepare_acquire.new.self c.args.which c.in_err-prepared.field-0.0 c.in_err-prepared.ensures in
    subst (λ (t : Timeline). AreOfVersions (map arc_value s.plans.items) t.state s.flats s.records s.jobs.items) (sym same) c.self.invariant

pub invariant_of-self-2 : goal.invariant_of-self-2
invariant_of-self-2 c =
    let s = c.self.inside in
    let p = c.in_ok-prepared.prepared in
    let plans = map arc_value s.plans.items in
    let before = c.prepare_acquire.new.self in
    let after = c.finish_acquire.new.self in
    let accepted = c.finish_acquire.ensures.accepted in
    let ready = subst (λ (t : Timeline). AreOfVersions plans t.state s.flats s.records s.jobs.items) (sym c.in_ok-prepared.ensures.0) c.self.invariant in
    of_later_versions plans before.state after.state s.flats s.flats s.records s.records s.jobs.items (held_versions before after p.which p.ticket.number p.version accepted)
    (hold_keeps before after p.which p.ticket.number p.version s.flats accepted ready.are_flats) (λ program k r has. has) ready
