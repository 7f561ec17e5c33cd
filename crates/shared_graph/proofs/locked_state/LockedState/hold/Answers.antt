-- Proofs of `hold`, src/locked_state.rt.
use Rattle.std.proofs.Common.{◌∙◌, List, refl, sym, ap, subst}
use Rattle.std.specs.Arc.{arc_value}
use Rattle.version_list.specs.declared.step.Which.{Which}
use Rattle.version_list.specs.declared.step.Step.TheVariants.{Acquire}
use Rattle.version_list.specs.declared.step.Reply.TheVariants.{Ticket}
use Rattle.version_list.specs.Machine.{State, opened}
use Rattle.version_list.specs.Timeline.{Accepts}
use Rattle.shared_graph.specs.declared.entry.Entry.{Entry}
use Rattle.shared_graph.specs.Histories.{IsVersionOf}
use Rattle.shared_graph.specs.Holding.{Hold}
use Rattle.shared_graph.specs.inside.Locked.{IsTimelineOf}
use Rattle.shared_graph.proofs.Steps.{holds_version, timeline_push}
use Rattle.shared_graph.proofs.Versions.{held_is}
use Rattle.shared_graph.proofs.locked_state.LockedState.hold.Goals as goal

pub invariant_of-self-2 : goal.invariant_of-self-2
invariant_of-self-2 g c =
    let base : State = opened g.J.Naming.vertices g.J.Naming.room in
    let p = c.in_ok-prepared.prepared in
    let log : List Entry = c.self.inside.published_log in
    let e : Entry = record { by = c.prepare_hold.new.me.number; done = record { step = Acquire c.args.which; reply = Ticket p.ticket.number p.version } } in
    let accepted = subst (λ (w : Which). Accepts c.prepare_hold.new.versions (Acquire w)
    (Ticket p.ticket.number p.version) c.finish_acquire.new.self) c.in_ok-prepared.ensures.prepared.which c.finish_acquire.ensures.accepted in
    subst (λ (l : List Entry). IsTimelineOf base l c.finish_acquire.new.self) (sym c.record.ensures.log)
    (timeline_push base log e c.prepare_hold.new.versions c.finish_acquire.new.self c.in_ok-prepared.ensures.timeline accepted)

pub new-requires : goal.new-requires
new-requires g c =
    let n = g.J.Naming.vertices in
    let room = g.J.Naming.room in
    let p = c.in_ok-prepared.prepared in
    let log : List Entry = c.self.inside.published_log in
    let shown : List Entry = c.record.new.me.shown in
    let e : Entry = record { by = c.prepare_hold.new.me.number; done = record { step = Acquire c.args.which; reply = Ticket p.ticket.number p.version } } in
    let h : Hold = record { ticket = p.ticket.number; version = p.version; graph = arc_value c.in_ok-prepared.graph; history = shown } in
    let holds = holds_version c.prepare_hold.new.versions c.args.which p (opened n room) log shown e h c.in_ok-prepared.ensures.timeline c.in_ok-prepared.ensures.prepared refl
    (c.record.ensures.shown ∙ c.record.ensures.log) refl c.in_ok-prepared.ensures.graph in
    subst (λ (l : List Entry). IsVersionOf n l p.version (arc_value c.in_ok-prepared.graph)) (sym c.history_prefix.ensures) (held_is n room shown c.args.which h c.record.ensures.made.legal holds)

pub returns-clause-version : goal.returns-clause-version
returns-clause-version g c =
    let base : State = opened g.J.Naming.vertices g.J.Naming.room in
    let p = c.in_ok-prepared.prepared in
    let log : List Entry = c.self.inside.published_log in
    let e : Entry = record { by = c.prepare_hold.new.me.number; done = record { step = Acquire c.args.which; reply = Ticket p.ticket.number p.version } } in
    let h : Hold = c.new.result in
    holds_version c.prepare_hold.new.versions c.args.which p base log c.record.new.me.shown e h c.in_ok-prepared.ensures.timeline c.in_ok-prepared.ensures.prepared refl
    (c.record.ensures.shown ∙ c.record.ensures.log) (ap (λ (x : Hold). x.version) c.new.ensures) (ap (λ (x : Hold). x.graph) c.new.ensures ∙ c.in_ok-prepared.ensures.graph)
