-- Functions of two statements: what each gives.
use Rattle.std.specs.Prelude.{[], ◌≡◌, ℕ, ℤ, List, ◌++◌, ◌∷◌}
use Rattle.apply_options.specs.declared.reduction.Reduction.{Reduction}
use Rattle.weighted_edges.specs.Edge.{Edge}
use Rattle.algorithm_meaning.specs.State.{StateValue}
use Rattle.algorithm_meaning.specs.Arithmetic.{arithmetic}
use Rattle.algorithm_meaning.specs.Value.{entry}
use Rattle.kernels.specs.declared.shape_pair.ShapePair.{ShapePair}
use Rattle.kernels.specs.ShapePairs.{shape_given}
use Rattle.edge_fold.specs.declared.apply_context.EntryContribution.{EntryContribution}
use Rattle.edge_fold.specs.declared.statements.ContributionPair.{ContributionPair}
use Rattle.edge_fold.specs.inside.EntryNumbers.{IsEntryContribution}

-- on each edge what the first statement gives, and then what the second does
abbrev pub IsPairOf : StateValue → ShapePair → (Edge → List (ℕ × Reduction × ℤ)) → Type 0
IsPairOf m p gives = (edge : Edge) → gives edge ≡ shape_given p.first m edge ++ shape_given p.second m edge

-- on each edge an entry of the source with the weight
abbrev pub IsEntryOf : StateValue → EntryContribution → (Edge → List (ℕ × Reduction × ℤ)) → Type 0
IsEntryOf m g gives = (edge : Edge) → gives edge ≡ (g.vector, g.reduction, arithmetic g.operator (entry m.vectors g.from edge.0) edge.2) ∷ []

-- each statement gives numbers of its own, and to reduce with what is sent for it is to reduce with those of these entries
pub record ArePairContributions (p : ContributionPair) (gives : Edge → List (ℕ × Reduction × ℤ)) (es : List (ℕ × ℤ)) : Type 0 where
  pub first : Edge → List (ℕ × Reduction × ℤ)
  pub second : Edge → List (ℕ × Reduction × ℤ)
  pub each : (edge : Edge) → gives edge ≡ first edge ++ second edge
  pub of_first : IsEntryContribution p.first first es
  pub of_second : IsEntryContribution p.second second es
