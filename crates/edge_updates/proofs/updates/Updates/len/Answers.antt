-- Proofs of `len`, src/updates.rt.
use Rattle.edge_updates.proofs.Weighted.{seen_length}
use Rattle.edge_updates.proofs.updates.Updates.len.Goals as goal

pub returns : goal.returns
returns c = seen_length c.self.inside.updates.now c.self.inside.weights.now c.args.self.now c.self.view_is
