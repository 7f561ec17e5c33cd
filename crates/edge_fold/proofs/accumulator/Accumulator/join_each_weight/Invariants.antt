use Rattle.std.proofs.Common.{◌≡◌, ℕ, ℤ, drop}
use Rattle.edge_fold.specs.inside.EntryNumbers.{each_weighed, number_with}
use Rattle.edge_fold.specs.Contributions.{reduced_at}
use Rattle.edge_fold.specs.Held.{held_with}
use Rattle.edge_fold.specs.FoldStarts.{combined_with_seed}
use Rattle.edge_fold.specs.inside.FoldStarts.{initial_seed, start_of}
use Rattle.edge_fold.proofs.accumulator.Accumulator.join_each_weight.Given as goal

-- the entries that are held, reduced with what is left to join, are the whole
abbrev pub invariant-edges : goal.invariant-edges
invariant-edges g l =
    let es = g.E.NeighbourEntries.entries l.destinations in
    (v : ℕ) (h : ℤ) → reduced_at l.reduction v (held_with (combined_with_seed (start_of l.seeds) l.reduction) l.self v (initial_seed l.seeds v h))
    (each_weighed (number_with l.numbers) (drop l.index es))
    ≡ reduced_at l.reduction v (held_with (combined_with_seed (start_of l.seeds) l.reduction) l.fn.self v (initial_seed l.seeds v h)) (each_weighed (number_with l.numbers) es)
