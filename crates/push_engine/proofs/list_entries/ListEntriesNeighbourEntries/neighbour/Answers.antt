-- Proofs of `neighbour`, src/list_entries.rt.
use Rattle.std.proofs.Common.{pos, sym, ◌∙◌}
use Rattle.edge_fold.proofs.WeightColumns.{first_at}
use Rattle.push_engine.proofs.list_entries.ListEntriesNeighbourEntries.neighbour.Goals as goal

pub returns : goal.returns
returns c = c.neighbour.ensures ∙ sym (first_at c.args.self.now.list.now c.args.index (0, pos 1) 0 c.requires)
