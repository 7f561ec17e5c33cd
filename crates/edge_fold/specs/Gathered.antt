-- Gathered numbers: what a piece of an apply gives vertices, before it meets the old entries.
use Rattle.std.specs.Prelude.{[], ◌≡◌, ℕ, ◌<◌, ℤ, ◌==◌, ◌&&◌, nat_le, nat_lt, Bool, if◌then◌else◌, List, ◌∷◌, ◌++◌}
use Rattle.std.specs.List.Sorted.{IsNonDecreasingBy}
use Rattle.apply_options.specs.declared.reduction.Reduction.{Reduction}
use Rattle.weighted_edges.specs.Edge.{Edge}
use Rattle.typed_tree.specs.FunctionStatementTree.{FunctionStatementsTree}
use Rattle.algorithm_meaning.specs.State.{StateValue}
use Rattle.vectors.specs.declared.changes.EntryChange.{EntryChange}
use Rattle.edge_fold.specs.declared.gathered.Gathered.{Gathered}
use Rattle.edge_fold.specs.declared.gathered.GatheredIn.{GatheredIn}
use Rattle.edge_fold.specs.Contributions.{IsReducedBy, all_given, given_on, reduced_at}

-- the numbers, each given to its vertex
abbrev pub given_numbers : List EntryChange → List (ℕ × ℤ)
given_numbers [] = []
given_numbers (c ∷ cs) = (c.vertex, c.number) ∷ given_numbers cs

-- what is gathered for a vector
abbrev pub gathered_for : (vector : ℕ) → List GatheredIn → List (ℕ × ℤ)
gathered_for x [] = []
gathered_for x (g ∷ gs) = (if g.vector == x then given_numbers g.numbers.items else []) ++ gathered_for x gs

-- what is gathered for the vector is by this reduction
abbrev pub IsGatheredBy : Reduction → (vector : ℕ) → List GatheredIn → Type 0
IsGatheredBy r x [] = Unit {0}
IsGatheredBy r x (g ∷ gs) = (g.vector ≡ x → g.reduction ≡ r) × IsGatheredBy r x gs

-- for a vector to which the functions give by one reduction: to reduce a number with what is gathered is to reduce it with
-- what these edges give, at each of n vertices
pub record AreGatheredFor (vertices : ℕ) (m : StateValue) (steps : List FunctionStatementsTree) (edges : List Edge) (g : Gathered) (x : ℕ)
    (r : Reduction) : Type 0 where
  pub reduction : IsGatheredBy r x g.vectors.items
  pub numbers : (v : ℕ) (h : ℤ) → v < vertices → reduced_at r v h (gathered_for x g.vectors.items) ≡ reduced_at r v h (given_on x (all_given m steps) edges)

-- so it is for each such vector
abbrev pub AreGathered : (vertices : ℕ) → StateValue → List FunctionStatementsTree → List Edge → Gathered → Type 0
AreGathered vertices m steps edges g = (x : ℕ) (r : Reduction) → IsReducedBy r x m steps → AreGatheredFor vertices m steps edges g x r

-- the vertices of the numbers do not fall
abbrev pub IsNonDescending : List EntryChange → Type 0
IsNonDescending cs = IsNonDecreasingBy (λ c. c.vertex) cs

-- so it is for each vector
abbrev pub AllAreNonDescending : List GatheredIn → Type 0
AllAreNonDescending [] = Unit {0}
AllAreNonDescending (g ∷ gs) = IsNonDescending g.numbers.items × AllAreNonDescending gs

-- a vertex is one from a number on up to another
abbrev pub is_in_range : (low high : ℕ) → ℕ → Bool
is_in_range low high v = nat_le low v && nat_lt v high
