-- Proofs of `weight`, src/neighbour_entries.rt.
use Rattle.std.proofs.Common.{rules, ◌<◌, ℕ, ℤ, pos, length, get_or, FitsSigned, w64, ap, ◌∙◌, arith}
use Rattle.std.proofs.lemmas.Int.{to_z-of_z}
use Rattle.edge_fold.proofs.WeightColumns.{entries-at, entries-length}
use Rattle.edge_fold.proofs.neighbour_entries.WeightedColumnsNeighbourEntries.weight.Goals as goal

pub offset_bounds-self-index : goal.offset_bounds-self-index
offset_bounds-self-index c =
    let column = c.args.self.now in
    let all = entries-length column.neighbours.now column.weights.now in
    let inside : c.args.index < length column.weights.now = omega (arith, all, column.same, c.requires) in
    search rules

pub bounds-self-index : goal.bounds-self-index
bounds-self-index c =
    let column = c.args.self.now in
    let all = entries-length column.neighbours.now column.weights.now in
    omega (arith, all, column.same, c.requires)

pub returns : goal.returns
returns c =
    let column = c.args.self.now in
    let all = entries-length column.neighbours.now column.weights.now in
    let inside : c.args.index < length column.neighbours.now = omega (arith, all, c.requires) in
    let fits : FitsSigned w64 (get_or column.weights.now c.args.index (pos 0)) = search rules in
    to_z-of_z w64 (get_or column.weights.now c.args.index (pos 0)) fits
    ∙ ap (λ (e : ℕ × ℤ). e.1) (entries-at c.args.index column.neighbours.now column.weights.now 0 (pos 0) (0, pos 1) column.same inside)
