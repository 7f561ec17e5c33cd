-- Proofs of `weight`, src/neighbour_entries.rt.
use Rattle.std.proofs.Common.{◌<◌, ℕ, ℤ, pos, [], length, ap, arith}
use Rattle.edge_fold.proofs.WeightColumns.{entries-length, unit_at}
use Rattle.edge_fold.proofs.neighbour_entries.UnitColumnNeighbourEntries.weight.Goals as goal

pub returns : goal.returns
returns c =
    let column = c.args.self.now in
    let all = entries-length column.neighbours.now [] in
    let inside : c.args._index < length column.neighbours.now = omega (arith, all, c.requires) in
    ap (λ (e : ℕ × ℤ). e.1) (unit_at c.args._index column.neighbours.now 0 (0, pos 1) inside)
