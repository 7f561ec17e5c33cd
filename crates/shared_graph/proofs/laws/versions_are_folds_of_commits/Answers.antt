-- Proofs of `versions_are_folds_of_commits`, src/laws.rt.
use Rattle.shared_graph.proofs.Versions.{number_at, graph_at, newest_is}
use Rattle.shared_graph.proofs.laws.versions_are_folds_of_commits.Goals as goal

pub returns-clause-number : goal.returns-clause-number
returns-clause-number c = number_at

pub returns-clause-graph : goal.returns-clause-graph
returns-clause-graph c = graph_at

pub returns-clause-newest : goal.returns-clause-newest
returns-clause-newest c = newest_is
