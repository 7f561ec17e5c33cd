-- Findings of the pieces of an apply, and the edges of which they are.
use Rattle.std.specs.Prelude.{ℕ, List, [], ◌∷◌}
use Rattle.weighted_edges.specs.Edge.{Edge}
use Rattle.kernels.specs.FunctionStatementTree.{FunctionStatementsTree}
use Rattle.kernels.specs.State.{StateValue}
use Rattle.crew.specs.declared.piece_results.Found.{Found}
use Rattle.edge_fold.specs.declared.gathered.Gathered.{Gathered}
use Rattle.edge_fold.specs.Gathered.{AllAreNonDescending, AreGathered}

-- what is found of pieces is what these edges give
abbrev pub EachGathered : (vertices : ℕ) → StateValue → List FunctionStatementsTree → (edges_of : ℕ → List Edge) → List (Found Gathered) → Type 0
EachGathered n m steps edges_of [] = Unit {0}
EachGathered n m steps edges_of (f ∷ fs) = AreGathered n m steps (edges_of f.piece) f.out × EachGathered n m steps edges_of fs

-- the numbers that each piece gave stand by ascending vertices
abbrev pub EachAscending : List (Found Gathered) → Type 0
EachAscending [] = Unit {0}
EachAscending (f ∷ fs) = AllAreNonDescending f.out.vectors.items × EachAscending fs
