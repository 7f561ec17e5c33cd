-- Proofs of `kept_graph`, src/versions.rt.
use Rattle.std.proofs.Common.{◌∙◌, ap, sym}
use Rattle.version_list.specs.Machine.{kept_graph}
use Rattle.version_list.specs.Timeline.{Timeline}
use Rattle.version_list.specs.inside.Fields.{timeline}
use Rattle.version_list.proofs.Keeping.{graph_of_held}
use Rattle.version_list.proofs.versions.Versions.kept_graph.Goals as goal

pub returns-else-version-self-clause-graph : goal.returns-else-version-self-clause-graph
returns-else-version-self-clause-graph c =
    let old = c.self.inside in
    let shows = c.self.invariant.state in
    let found = graph_of_held (timeline old).state old.held shows.held c.args.version (λ newest. c.if-version-self.false (newest ∙ sym shows.number)) in
    c.graph.ensures ∙ found ∙ ap (λ (t : Timeline). kept_graph t.state c.args.version) c.self.view_is
