-- Proofs of `version_of`, src/open_graph.rt.
use Rattle.std.proofs.Common.{◌∙◌, ap, sym}
use Rattle.scripts.specs.Replies.{graph_of}
use Rattle.scripts.proofs.TicketLaws.{newest_is_kept, graph_found, kept_found}
use Rattle.scripts.proofs.open_graph.version_of.Goals as goal

pub returns-in-None-clause-kept : goal.returns-in-None-clause-kept
returns-in-None-clause-kept c = newest_is_kept _ _ _ c.newest.ensures.number c.newest.ensures.graph

pub returns-in-Some-clause-graph : goal.returns-in-Some-clause-graph
returns-in-Some-clause-graph c = graph_found c.args.versions.now.state c.in-Some.number c.kept.result c.kept.ensures ∙ ap (graph_of c.args.versions.now.state) (sym c.in-Some.is)

pub returns-in-Some-clause-kept : goal.returns-in-Some-clause-kept
returns-in-Some-clause-kept c = kept_found c.args.versions.now.state c.in-Some.number c.kept.result c.kept.ensures
