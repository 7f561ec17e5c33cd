-- Proofs of `commits_are_counted`, src/laws.rt.
use Rattle.shared_graph.proofs.Counted.{commits_alone, number_counts}
use Rattle.shared_graph.proofs.laws.commits_are_counted.Goals as goal

pub returns-clause-number : goal.returns-clause-number
returns-clause-number c = number_counts

pub returns-clause-alone : goal.returns-clause-alone
returns-clause-alone c = commits_alone
