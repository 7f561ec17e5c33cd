use Rattle.std.proofs.Common.{◌≡◌, ℕ, ℤ, drop}
use Rattle.edge_fold.specs.Gathered.{given_numbers}
use Rattle.edge_fold.specs.Contributions.{reduced_at}
use Rattle.edge_fold.specs.Held.{held_with}
use Rattle.edge_fold.specs.FoldStarts.{combined_with_seed}
use Rattle.edge_fold.specs.inside.FoldStarts.{initial_seed, start_of}
use Rattle.edge_fold.proofs.accumulator.Accumulator.join_changes.Given as goal

-- the entries that are held, reduced with what is left to join, are the whole
abbrev pub invariant-numbers : goal.invariant-numbers
invariant-numbers l = (v : ℕ) (h : ℤ)
    → reduced_at l.reduction v (held_with (combined_with_seed (start_of l.seeds) l.reduction) l.self v (initial_seed l.seeds v h)) (given_numbers (drop l.change-index l.numbers))
    ≡ reduced_at l.reduction v (held_with (combined_with_seed (start_of l.seeds) l.reduction) l.fn.self v (initial_seed l.seeds v h)) (given_numbers l.numbers)
