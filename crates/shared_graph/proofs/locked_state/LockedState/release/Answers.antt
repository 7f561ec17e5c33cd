-- Proofs of `release`, src/locked_state.rt.
use Rattle.std.proofs.Common.{◌≡◌, ◌∙◌, true, List, refl, sym, subst}
use Rattle.version_list.specs.declared.step.Step.TheVariants.{Release}
use Rattle.version_list.specs.declared.step.Reply.TheVariants.{Released}
use Rattle.version_list.specs.Machine.{State, opened, is_open, reply_to}
use Rattle.shared_graph.specs.declared.entry.Entry.{Entry}
use Rattle.shared_graph.specs.inside.Locked.{IsTimelineOf}
use Rattle.shared_graph.proofs.Steps.{release_accepted, timeline_push}
use Rattle.shared_graph.proofs.locked_state.LockedState.release.Goals as goal

pub invariant_of-self : goal.invariant_of-self
invariant_of-self g c =
    let base : State = opened g.J.Naming.vertices g.J.Naming.room in
    let log : List Entry = c.self.inside.published_log in
    let number = c.ticket-ticket.result.number in
    let old = c.self.inside.versions in
    let e : Entry = record { by = c.args.me.now.number; done = record { step = Release number; reply = Released } } in
    let open_is : is_open old.state number ≡ true = sym c.is_open.ensures ∙ c.if-not-is_open.false in
    let answer : reply_to old.state (Release number) ≡ Released = rw (open_is) refl in
    let accepted = release_accepted old c.release.new.self number c.release.result answer c.release.ensures.only_not_held c.release.ensures.answer in
    subst (λ (l : List Entry). IsTimelineOf base l c.release.new.self) (sym c.record.ensures.log) (timeline_push base log e old c.release.new.self c.self.invariant accepted)
