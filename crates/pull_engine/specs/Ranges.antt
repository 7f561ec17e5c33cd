-- Ranges of destinations, and the changes of a pull into one.
use Rattle.std.specs.Prelude.{[], ◌≡◌, ℕ, ℤ, Option, Some, None, List, ◌∷◌, ◌++◌}
use Rattle.apply_options.specs.declared.reduction.Reduction.{Reduction}
use Rattle.weighted_edges.specs.Edge.{Edge}
use Rattle.vectors.specs.declared.changes.EntryChange.{EntryChange}
use Rattle.kernels.specs.FunctionStatementTree.{FunctionStatementsTree}
use Rattle.kernels.specs.State.{StateValue}
use Rattle.kernels.specs.Value.{entry}
use Rattle.kernels.specs.declared.shape.Shape.{Shape}
use Rattle.kernels.specs.declared.shape.Shape.TheVariants as shape
use Rattle.edge_fold.specs.declared.gathered.GatheredIn.{GatheredIn}
use Rattle.edge_fold.specs.Changed.{changed_from}
use Rattle.edge_fold.specs.Contributions.{IsReducedBy, all_given, given_on, reduced_at}

-- the index of the vector to which a function of a shape gives by the sources and the weights
abbrev pub shape_vector : Shape → Option ℕ
shape_vector shape.Other = None
shape_vector (shape.Source x r) = Some x
shape_vector (shape.Entry x r y) = Some x
shape_vector (shape.EntryPlus x r y n) = Some x
shape_vector (shape.Constant x r n) = Some x
shape_vector (shape.EntryWith x r y o) = Some x

-- the reduction by which it gives
abbrev pub shape_reduction : Shape → Option Reduction
shape_reduction shape.Other = None
shape_reduction (shape.Source x r) = Some r
shape_reduction (shape.Entry x r y) = Some r
shape_reduction (shape.EntryPlus x r y n) = Some r
shape_reduction (shape.Constant x r n) = Some r
shape_reduction (shape.EntryWith x r y o) = Some r

-- the entry at a vertex after an apply to these edges
abbrev pub entry_after : StateValue → List FunctionStatementsTree → (x : ℕ) → Reduction → List Edge → ℕ → ℤ
entry_after m steps x r es v = reduced_at r v (entry m.vectors x v) (given_on x (all_given m steps) es)

-- the changes of a vector are those of an apply to these edges, at n vertices from one on
abbrev pub AreChangesFrom : (vector low count : ℕ) → (edges : List Edge) → StateValue → List FunctionStatementsTree → List EntryChange → Type 0
AreChangesFrom x low count es m steps cs = (r : Reduction) → IsReducedBy r x m steps
    → cs ≡ changed_from (entry m.vectors x) (entry_after m steps x r es) low count

-- all that is listed, one vector after the other
abbrev pub all_listed : List GatheredIn → List EntryChange
all_listed [] = []
all_listed (g ∷ gs) = g.numbers.items ++ all_listed gs
