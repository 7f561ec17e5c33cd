-- Proofs of `update`, src/updates.rt.
use Rattle.std.proofs.Common.{arith}
use Rattle.edge_updates.proofs.Weighted.{seen_length, seen_thing}
use Rattle.edge_updates.proofs.updates.Updates.update.Goals as goal

pub prove-unreachable-requires : goal.prove-unreachable-requires
prove-unreachable-requires c =
    omega (arith, c.requires, c.if-prove.true, seen_length c.self.inside.updates.now c.self.inside.weights.now c.args.self.now c.self.view_is)

pub returns : goal.returns
returns c = λ d. seen_thing c.self.inside.updates.now c.self.inside.weights.now c.args.self.now c.self.view_is c.args.index d (record { bits = 0 }) c.requires
