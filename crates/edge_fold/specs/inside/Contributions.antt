-- Beside `Contributions`: definitions that no public contract cites.
use Rattle.std.specs.Prelude.{[], ℕ, ◌+◌, ℤ, List, ◌∷◌, ◌++◌}
use Rattle.apply_options.specs.declared.reduction.Reduction.{Reduction}
use Rattle.edge_fold.specs.Contributions.{numbers_for_vector}

-- what is given for a vector to these destinations of pairs, from pair i on
abbrev pub given_from : (vector : ℕ) → (ℕ → List (ℕ × Reduction × ℤ)) → (i : ℕ) → (destinations : List ℕ) → List (ℕ × ℤ)
given_from x gives i [] = []
given_from x gives i (d ∷ ds) = numbers_for_vector x d (gives i) ++ given_from x gives (i + 1) ds

-- one number for each destination
abbrev pub each_given : ℤ → List ℕ → List (ℕ × ℤ)
each_given n [] = []
each_given n (d ∷ ds) = (d, n) ∷ each_given n ds
