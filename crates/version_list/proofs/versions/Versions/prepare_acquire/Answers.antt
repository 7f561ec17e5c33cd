-- Proofs of `prepare_acquire`, src/versions.rt.
use Rattle.std.proofs.Common.{◌≡◌, length, refl, ap, arith}
use Rattle.version_list.specs.declared.versions.Versions.TheInside.{Inside}
use Rattle.version_list.specs.Machine.{State, version_graph}
use Rattle.version_list.specs.inside.Fields.{timeline}
use Rattle.version_list.proofs.Keeping.{holds_unchanged}
use Rattle.version_list.proofs.Stepping.{kept_reserved}
use Rattle.version_list.proofs.versions.Versions.prepare_acquire.Goals as goal

pub invariant_of-self-2 : goal.invariant_of-self-2
invariant_of-self-2 c =
    let old : Inside = c.self.inside in
    let new : Inside = record old { history = c.reserve_ticket.new.history; held = c.reserve_ticket.new.held; reserved = 2 } in
    let s : State = (timeline old).state in
    let shows = c.self.invariant.state in
    let holds = holds_unchanged old.held new.held s.open_tickets (version_graph s) c.in_ok-reserve_ticket.ensures.tickets c.in_ok-reserve_ticket.ensures.versions shows.held in
    let items : new.history.items ≡ old.history.items = c.in_ok-reserve_ticket.ensures.entries in
    kept_reserved old new c.self.invariant refl refl refl refl refl items refl holds
    (omega (arith, c.in_ok-reserve_ticket.ensures.entry_room, ap length items, holds.count)) (λ two. c.in_ok-reserve_ticket.ensures.room)
