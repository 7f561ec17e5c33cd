use Rattle.std.proofs.Common.{ℕ, List, [], take}
use Rattle.std.specs.List.{filter, flat_map}
use Rattle.weighted_edges.specs.Edge.{Edge}
use Rattle.kernels.specs.FunctionStatementTree.{FunctionStatementsTree}
use Rattle.kernels.specs.State.{StateValue}
use Rattle.edge_fold.specs.Folded.{HasFolded}
use Rattle.edge_fold.specs.Gathered.{is_in_range}
use Rattle.crew.specs.Pieces.{pieces_of}
use Rattle.edge_apply.specs.Pieces.{EachAscending, EachGathered}
use Rattle.edge_apply.proofs.joining.join_between.Given as goal

-- of the edges of the pieces that have come, those of the range are folded
abbrev pub invariant-found : goal.invariant-found
invariant-found l = (m : StateValue) (steps : List FunctionStatementsTree) (edges_of : ℕ → List Edge) → EachAscending l.found → EachGathered l.context.vertices m steps edges_of l.found
    → HasFolded l.context m steps [] l.fn.scratch → HasFolded l.context m steps (filter (λ e. is_in_range l.low l.high e.1) (flat_map edges_of (pieces_of (take l.one-index l.found)))) l.scratch
