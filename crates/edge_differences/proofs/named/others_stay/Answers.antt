-- Proofs of `others_stay`, src/named.rt.
use Rattle.edge_differences.proofs.Unnamed.{all_changed, weights_stay}
use Rattle.edge_differences.proofs.named.others_stay.Goals as goal

pub returns-clause-weights : goal.returns-clause-weights
returns-clause-weights c = weights_stay

pub returns-clause-edges : goal.returns-clause-edges
returns-clause-edges c = all_changed
