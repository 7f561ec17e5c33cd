use Rattle.std.proofs.Common.{◌≡◌, ◌≤◌, ℕ, ℤ, pos, drop, get_or}
use Rattle.edge_fold.specs.Between.{firsts}
use Rattle.edge_fold.specs.inside.Contributions.{each_given}
use Rattle.edge_fold.specs.Contributions.{reduced_at}
use Rattle.edge_fold.proofs.joins.reduce_filled.Given as goal

-- the entries so far, reduced with what is left, are the whole, and no neighbour so far is a vertex from the count on
abbrev pub invariant-vertices : goal.invariant-vertices
invariant-vertices g l =
    let ds = firsts (g.E.NeighbourEntries.entries l.neighbours) in
    record {
      reduced : (v : ℕ) → reduced_at l.reduction v (get_or l.values v (pos 0)) (each_given l.number (drop l.index ds)) ≡ reduced_at l.reduction v (get_or l.fn.values v (pos 0))
          (each_given l.number ds);
      others : (v : ℕ) (h : ℤ) → l.filled ≤ v → reduced_at l.reduction v h (each_given l.number (drop l.index ds)) ≡ reduced_at l.reduction v h (each_given l.number ds);
    }
