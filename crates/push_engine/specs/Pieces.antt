-- Answers of the pieces of a push.
use Rattle.std.specs.Prelude.{◌≡◌, ℕ, Bool, List}
use Rattle.std.specs.List.{filter}
use Rattle.weighted_edges.specs.Edge.{Edge}
use Rattle.kernels.specs.FunctionStatementTree.{FunctionStatementsTree}
use Rattle.kernels.specs.State.{StateValue}
use Rattle.kernels.specs.Registers.{HasSizes}
use Rattle.edge_fold.specs.declared.gathered.Gathered.{Gathered}
use Rattle.edge_fold.specs.Ends.{IsEndTest}
use Rattle.edge_fold.specs.Folded.{AreKernels}
use Rattle.edge_fold.specs.Gathered.{AllAreNonDescending, AreGathered}
use Rattle.crew.specs.Partition.{piece_of}
use Rattle.push_engine.specs.declared.work.PushWork.{PushWork}
use Rattle.push_engine.specs.Rows.{rows}
use Rattle.push_engine.specs.Sources.{passing_in}

-- the edges of an apply from the sources of a piece, where these tests are those of its ends
abbrev pub edges_of_piece : PushWork → (from to : ℕ → Bool) → (piece : ℕ) → List Edge
edges_of_piece w from to k = filter (λ e. to e.1) (rows w.apply.flat.now.edges (passing_in w.tested from (piece_of w.partition w.sources.items k)))

-- what is gathered is what the edges of a piece give
abbrev pub GivesPiece : PushWork → (piece : ℕ) → Gathered → Type 0
GivesPiece w k g = (m : StateValue) (steps : List FunctionStatementsTree) (from to : ℕ → Bool) → w.apply.vectors.now.vectors ≡ m.vectors
    → HasSizes w.apply.sizes.now m
    → AreKernels w.apply.first.now w.apply.second steps → IsEndTest w.apply.from m from → IsEndTest w.apply.to m to
    → AreGathered w.apply.flat.now.vertices m steps (edges_of_piece w from to k) g

-- a piece answers what its edges give, by ascending vertices
abbrev pub Answers : PushWork → (piece : ℕ) → Gathered → Type 0
Answers w k g = AllAreNonDescending g.vectors.items × GivesPiece w k g
