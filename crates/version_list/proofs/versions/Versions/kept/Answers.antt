-- Proofs of `kept`, src/versions.rt.
use Rattle.std.proofs.Common.{◌≡◌, ◌∙◌, Some, None, ap, sym, subst}
use Rattle.std.specs.Option.{option_map}
use Rattle.version_list.specs.Machine.{version_graph, ticket_version}
use Rattle.version_list.specs.Kept.{IsHeld}
use Rattle.version_list.specs.Timeline.{Timeline}
use Rattle.version_list.specs.inside.Fields.{timeline}
use Rattle.version_list.proofs.Keeping.{graph_of_ticket}
use Rattle.version_list.proofs.Kept.{held_is}
use Rattle.version_list.proofs.versions.Versions.kept.Goals as goal

pub returns-in-Some : goal.returns-in-Some
returns-in-Some c =
    let old = c.self.inside in
    let shows = c.self.invariant.state in
    let s = (timeline old).state in
    let number = c.args.ticket.number in
    let k = c.in_ok-held.held in
    let found = c.in-Some.ensures ∙ graph_of_ticket s old.held shows.held number k (sym c.in_ok-held.ensures) in
    let ticket : ticket_version s.open_tickets number ≡ Some k = sym (shows.held.tickets number) ∙ sym c.in_ok-held.ensures in
    subst (λ (t : Timeline). IsHeld t.state number k c.in-Some.graph.now) c.self.view_is (held_is s shows.tickets number k ticket c.in-Some.graph.now found)

pub returns-in-None : goal.returns-in-None
returns-in-None c =
    let old = c.self.inside in
    let shows = c.self.invariant.state in
    let s = (timeline old).state in
    let number = c.args.ticket.number in
    let k = c.in_ok-held.held in
    let ticket : ticket_version s.open_tickets number ≡ Some k = sym (shows.held.tickets number) ∙ sym c.in_ok-held.ensures in
    let lost : None ≡ Some (version_graph s k) = c.in-None.ensures ∙ graph_of_ticket s old.held shows.held number k (sym c.in_ok-held.ensures) ∙ ap (option_map (version_graph s)) ticket in
    absurd cc
