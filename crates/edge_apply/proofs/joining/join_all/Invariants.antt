use Rattle.std.proofs.Common.{ℕ, List, [], take}
use Rattle.std.specs.List.{flat_map}
use Rattle.weighted_edges.specs.Edge.{Edge}
use Rattle.kernels.specs.FunctionStatementTree.{FunctionStatementsTree}
use Rattle.kernels.specs.State.{StateValue}
use Rattle.edge_fold.specs.Folded.{HasFolded}
use Rattle.crew.specs.Pieces.{pieces_of}
use Rattle.edge_apply.specs.Pieces.{EachGathered}
use Rattle.edge_apply.proofs.joining.join_all.Given as goal

-- the edges of the pieces that have come are folded
abbrev pub invariant-found : goal.invariant-found
invariant-found l = (m : StateValue) (steps : List FunctionStatementsTree) (edges_of : ℕ → List Edge) → EachGathered l.context.vertices m steps edges_of l.found
    → HasFolded l.context m steps [] l.fn.scratch → HasFolded l.context m steps (flat_map edges_of (pieces_of (take l.one-index l.found))) l.scratch
