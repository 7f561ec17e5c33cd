-- Proofs of `release`, src/versions.rt.
use Rattle.std.proofs.Common.{◌≡◌, ◌+◌, ◌∙◌, false, Some, is_some, nat_eq, refl, sym, ap, subst}
use Rattle.indexmap.specs.IndexMap.{get}
use Rattle.version_list.specs.declared.step.Step.TheVariants.{Release}
use Rattle.version_list.specs.declared.step.Reply.TheVariants.{Released, Refused}
use Rattle.version_list.specs.declared.versions.Versions.TheInside.{Inside}
use Rattle.version_list.specs.Machine.{State, is_open, reply_to, version_graph, ticket_version}
use Rattle.version_list.specs.Timeline.{Timeline, Accepts}
use Rattle.version_list.specs.inside.Fields.{timeline, Shows}
use Rattle.version_list.proofs.Holding.{is_open_is}
use Rattle.version_list.proofs.Keeping.{some_of, holds_closed}
use Rattle.version_list.proofs.Stepping.{release_reply, release_after, shows_released, kept_step, accepts_step}
use Rattle.version_list.proofs.versions.Versions.release.Goals as goal

pub returns-then-not-is_open-clause-answer : goal.returns-then-not-is_open-clause-answer
returns-then-not-is_open-clause-answer c =
    let s : State = (timeline c.self.inside).state in
    let number = c.args.ticket.number in
    let closed : is_open s number ≡ false = is_open_is s.open_tickets number ∙ ap is_some (sym (c.self.invariant.state.held.tickets number)) ∙ sym c.is_open.ensures ∙ c.if-not-is_open.true in
    let answer : reply_to s (Release number) ≡ Refused 122 = rw (closed) refl in
    record { is_answer = subst (λ (t : Timeline). reply_to t.state (Release number) ≡ Refused 122) c.self.view_is answer; unchanged = refl }

pub invariant_of-self : goal.invariant_of-self
invariant_of-self c =
    let old : Inside = c.self.inside in
    let new : Inside = record old { history = c.push_reserved.new.self; steps = old.steps + 1; held = c.close.new.self; reserved = 0 } in
    let s : State = (timeline old).state in
    let shows : Shows old s = c.self.invariant.state in
    let number = c.args.ticket.number in
    let open_ticket = some_of (ticket_version s.open_tickets number) (ap is_some (sym (shows.held.tickets number)) ∙ sym c.is_open.ensures ∙ c.if-not-is_open.false) in
    let was : get nat_eq old.held.tickets number ≡ Some open_ticket.0 = shows.held.tickets number ∙ open_ticket.1 in
    let closed = c.close.ensures.version ∙ was in
    let one_fewer = rw (closed) at c.close.ensures.count in
    let holds = holds_closed old.held new.held s.open_tickets (version_graph s) number open_ticket.0 shows.tickets.distinct open_ticket.1 c.close.ensures.tickets (one_fewer refl)
    (c.close.ensures.versions open_ticket.0 closed) shows.held in
    kept_step old new c.self.invariant (Release number) Released (release_reply s number open_ticket.0 open_ticket.1) tt refl c.push_reserved.ensures.items refl
    (subst (Shows new) (sym (release_after s number open_ticket.0 open_ticket.1))
    (shows_released old new s shows
    (record { step = Release number; reply = Released }) refl c.push_reserved.ensures.items refl refl number open_ticket.0 open_ticket.1 refl refl refl holds c.push_reserved.ensures.capacity))

pub returns-clause-answer : goal.returns-clause-answer
returns-clause-answer c =
    let old : Inside = c.self.inside in
    let new : Inside = record old { history = c.push_reserved.new.self; steps = old.steps + 1; held = c.close.new.self; reserved = 0 } in
    let s : State = (timeline old).state in
    let number = c.args.ticket.number in
    let open_ticket = some_of (ticket_version s.open_tickets number) (ap is_some (sym (c.self.invariant.state.held.tickets number)) ∙ sym c.is_open.ensures ∙ c.if-not-is_open.false) in
    subst (λ (t : Timeline). Accepts t (Release number) Released (timeline new)) c.self.view_is
    (accepts_step old new c.self.invariant (Release number) Released (release_reply s number open_ticket.0 open_ticket.1) tt refl c.push_reserved.ensures.items refl)
