-- Beside `EntryNumbers`: definitions that no public contract cites.
use Rattle.std.specs.Prelude.{[], ℤ, ℕ, List, ◌∷◌, ◌≡◌}
use Rattle.apply_options.specs.declared.reduction.Reduction.{Reduction}
use Rattle.weighted_edges.specs.Edge.{Edge}
use Rattle.algorithm_meaning.specs.Arithmetic.{arithmetic}
use Rattle.edge_fold.specs.declared.entry_numbers.NumberWith.{NumberWith}
use Rattle.edge_fold.specs.Contributions.{reduced_at}
use Rattle.edge_fold.specs.declared.apply_context.SourceContribution.{SourceContribution}

-- the number on the left of the operator, and the weight on its right
abbrev pub number_with : NumberWith → (weight : ℤ) → ℤ
number_with n w = arithmetic n.operator n.number w

-- each neighbour is given the number of its weight
abbrev pub each_weighed : (number : ℤ → ℤ) → List (ℕ × ℤ) → List (ℕ × ℤ)
each_weighed number [] = []
each_weighed number (e ∷ es) = (e.0, number e.1) ∷ each_weighed number es

-- a vertex is given the number of each source and weight
abbrev pub entry_numbers_given : (number : ℕ → ℤ → ℤ) → (v : ℕ) → List (ℕ × ℤ) → List (ℕ × ℤ)
entry_numbers_given number v [] = []
entry_numbers_given number v (e ∷ es) = (v, number e.0 e.1) ∷ entry_numbers_given number v es

-- to reduce with this number is to reduce with those of the entries
abbrev pub IsReducedOver : Reduction → (number : ℕ → ℤ → ℤ) → List (ℕ × ℤ) → ℤ → Type 0
IsReducedOver r number es n = (d v : ℕ) (h : ℤ) → reduced_at r v h ((d, n) ∷ []) ≡ reduced_at r v h (entry_numbers_given number d es)

-- each edge gives the number of its source and its weight, and to reduce with what is sent is to reduce with those of these entries
pub record IsEntryContribution (contribution : SourceContribution) (gives : Edge → List (ℕ × Reduction × ℤ)) (es : List (ℕ × ℤ)) : Type 0 where
  pub number : ℕ → ℤ → ℤ
  pub each : (s d : ℕ) (w : ℤ) → gives (s, d, w) ≡ (contribution.vector, contribution.reduction, number s w) ∷ []
  pub all : IsReducedOver contribution.reduction number es contribution.number
