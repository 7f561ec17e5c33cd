-- Beside `ReducedContributions`: definitions that no public contract cites.
use Rattle.std.specs.Prelude.{[], ℕ, ℤ, List, ◌∷◌, ◌≡◌}
use Rattle.apply_options.specs.declared.reduction.Reduction.{Reduction}
use Rattle.weighted_edges.specs.Edge.{Edge}
use Rattle.edge_fold.specs.Contributions.{reduced_at}
use Rattle.edge_fold.specs.declared.apply_context.SourceContribution.{SourceContribution}

-- a vertex is given the number of each source
abbrev pub numbers_given : (number : ℕ → ℤ) → (v : ℕ) → List ℕ → List (ℕ × ℤ)
numbers_given number v [] = []
numbers_given number v (s ∷ ss) = (v, number s) ∷ numbers_given number v ss

-- to reduce with this number is to reduce with those of the sources
abbrev pub IsReducedTo : Reduction → (number : ℕ → ℤ) → List ℕ → ℤ → Type 0
IsReducedTo r number ss n = (d v : ℕ) (h : ℤ) → reduced_at r v h ((d, n) ∷ []) ≡ reduced_at r v h (numbers_given number d ss)

-- each edge gives the number of its source, and to reduce with what is sent is to reduce with those of these sources
pub record IsReducedContribution (contribution : SourceContribution) (gives : Edge → List (ℕ × Reduction × ℤ)) (ss : List ℕ) : Type 0 where
  pub number : ℕ → ℤ
  pub each : (s d : ℕ) (w : ℤ) → gives (s, d, w) ≡ (contribution.vector, contribution.reduction, number s) ∷ []
  pub all : IsReducedTo contribution.reduction number ss contribution.number
