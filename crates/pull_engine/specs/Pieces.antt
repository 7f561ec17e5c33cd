-- Answers of the pieces of a pull.
use Rattle.std.specs.Prelude.{◌≡◌, ℕ, ◌-◌, Bool, Option, Some, None, List}
use Rattle.std.specs.List.{All, filter, range_with_len}
use Rattle.apply_options.specs.declared.reduction.Reduction.{Reduction}
use Rattle.weighted_edges.specs.Edge.{Edge}
use Rattle.kernels.specs.FunctionStatementTree.{FunctionStatementsTree}
use Rattle.kernels.specs.State.{StateValue}
use Rattle.kernels.specs.Registers.{HasSizes}
use Rattle.vectors.specs.declared.changes.EntryChange.{EntryChange}
use Rattle.edge_fold.specs.declared.gathered.Gathered.{Gathered}
use Rattle.edge_fold.specs.declared.gathered.GatheredIn.{GatheredIn}
use Rattle.edge_fold.specs.Ends.{IsEndTest}
use Rattle.edge_fold.specs.Folded.{AreKernels}
use Rattle.edge_fold.specs.Gathered.{AreGathered}
use Rattle.edge_fold.specs.Between.{edges_between}
use Rattle.crew.specs.Partition.{end_of, piece_of}
use Rattle.pull_engine.specs.declared.work.PullWork.{PullWork}
use Rattle.pull_engine.specs.Columns.{columns}
use Rattle.pull_engine.specs.Ranges.{AreChangesFrom, all_listed, shape_reduction, shape_vector}

-- the edges of an apply into the vertices of a piece, where these tests are those of its ends
abbrev pub edges_into_piece : PullWork → (from to : ℕ → Bool) → (piece : ℕ) → List Edge
edges_into_piece w from to k = columns from w.apply.flat.now.edges (filter to (piece_of w.partition (range_with_len 0 w.apply.flat.now.vertices) k))

-- a piece of an apply by any functions answers what its edges give
abbrev pub GathersPiece : PullWork → (piece : ℕ) → Gathered → Type 0
GathersPiece w k g = (m : StateValue) (steps : List FunctionStatementsTree) (from to : ℕ → Bool) → w.apply.vectors.now.vectors ≡ m.vectors
    → HasSizes w.apply.sizes.now m
    → AreKernels w.apply.first.now w.apply.second steps → IsEndTest w.apply.from m from → IsEndTest w.apply.to m to
    → AreGathered w.apply.flat.now.vertices m steps (edges_into_piece w from to k) g

-- where one function gives a vector by sources alone, a piece answers what the apply changes at its vertices, ascending
abbrev pub IsPiecePulled : (vector : ℕ) → PullWork → (piece : ℕ) → List EntryChange → Type 0
IsPiecePulled x w k cs = (m : StateValue) (steps : List FunctionStatementsTree) (from to : ℕ → Bool) → w.apply.vectors.now.vectors ≡ m.vectors
    → HasSizes w.apply.sizes.now m
    → AreKernels w.apply.first.now w.apply.second steps → IsEndTest w.apply.from m from → IsEndTest w.apply.to m to
    → AreChangesFrom x (end_of w.partition (k - 1)) (end_of w.partition k - end_of w.partition (k - 1))
    (edges_between from to w.apply.flat.now.edges) m steps cs

-- what the edges of a piece give where there is no such vector, and else what changes in it
abbrev pub AnswersFor : Option ℕ → PullWork → (piece : ℕ) → Gathered → Type 0
AnswersFor None w k g = GathersPiece w k g
AnswersFor (Some x) w k g = IsPiecePulled x w k (all_listed g.vectors.items)

-- where a vector is given by a reduction, all that is listed is for it, by that reduction
abbrev pub AreFor : Option ℕ → Option Reduction → List GatheredIn → Type 0
AreFor None by listed = Unit {0}
AreFor (Some x) None listed = ⊥
AreFor (Some x) (Some r) listed = All (λ one. (one.vector ≡ x) × (one.reduction ≡ r)) listed

-- what a piece answers
abbrev pub Answers : PullWork → (piece : ℕ) → Gathered → Type 0
Answers w k g = AnswersFor (shape_vector w.shape) w k g × AreFor (shape_vector w.shape) (shape_reduction w.shape) g.vectors.items
