-- Proofs of `graph`, src/versions.rt.
use Rattle.std.proofs.Common.{◌∙◌, ap, sym}
use Rattle.version_list.specs.Machine.{ticket_graph}
use Rattle.version_list.specs.Timeline.{Timeline}
use Rattle.version_list.specs.inside.Fields.{timeline}
use Rattle.version_list.proofs.Keeping.{graph_of_ticket}
use Rattle.version_list.proofs.versions.Versions.graph.Goals as goal

pub returns : goal.returns
returns c =
    let old = c.self.inside in
    let found = graph_of_ticket (timeline old).state old.held c.self.invariant.state.held c.args.ticket.number c.in_ok-version.version (sym c.in_ok-version.ensures) in
    c.graph.ensures ∙ found ∙ ap (λ (t : Timeline). ticket_graph t.state c.args.ticket.number) c.self.view_is
