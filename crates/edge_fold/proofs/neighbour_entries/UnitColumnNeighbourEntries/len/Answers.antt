-- Proofs of `len`, src/neighbour_entries.rt.
use Rattle.std.proofs.Common.{[], sym}
use Rattle.edge_fold.proofs.WeightColumns.{entries-length}
use Rattle.edge_fold.proofs.neighbour_entries.UnitColumnNeighbourEntries.len.Goals as goal

pub returns : goal.returns
returns c = sym (entries-length c.args.self.now.neighbours.now [])
