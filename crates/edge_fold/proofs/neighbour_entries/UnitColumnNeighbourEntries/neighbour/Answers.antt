-- Proofs of `neighbour`, src/neighbour_entries.rt.
use Rattle.std.proofs.Common.{rules, ◌<◌, ℕ, ℤ, pos, [], length, ap, arith}
use Rattle.edge_fold.proofs.WeightColumns.{entries-length, unit_at}
use Rattle.edge_fold.proofs.neighbour_entries.UnitColumnNeighbourEntries.neighbour.Goals as goal

pub offset_bounds-self-index : goal.offset_bounds-self-index
offset_bounds-self-index c =
    let column = c.args.self.now in
    let all = entries-length column.neighbours.now [] in
    let inside : c.args.index < length column.neighbours.now = omega (arith, all, c.requires) in
    search rules

pub bounds-self-index : goal.bounds-self-index
bounds-self-index c =
    let all = entries-length c.args.self.now.neighbours.now [] in
    omega (arith, all, c.requires)

pub returns : goal.returns
returns c =
    let column = c.args.self.now in
    let all = entries-length column.neighbours.now [] in
    let inside : c.args.index < length column.neighbours.now = omega (arith, all, c.requires) in
    ap (λ (e : ℕ × ℤ). e.0) (unit_at c.args.index column.neighbours.now 0 (0, pos 1) inside)
