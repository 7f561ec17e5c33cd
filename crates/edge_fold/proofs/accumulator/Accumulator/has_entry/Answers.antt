-- Proofs of `has_entry`, src/joins.rt.
use Rattle.std.proofs.Common.{sym}
use Rattle.edge_fold.proofs.accumulator.Accumulator.has_entry.Goals as goal

pub returns-then-vertex-self : goal.returns-then-vertex-self
returns-then-vertex-self c = sym (c.args.self.now.whole c.args.vertex c.if-vertex-self.true)
