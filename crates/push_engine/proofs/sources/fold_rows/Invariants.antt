use Rattle.std.proofs.Common.{◌++◌, List, take}
use Rattle.weighted_edges.specs.Edge.{Edge}
use Rattle.kernels.specs.FunctionStatementTree.{FunctionStatementsTree}
use Rattle.kernels.specs.State.{StateValue}
use Rattle.edge_fold.specs.Folded.{IsContextOf, HasFolded}
use Rattle.push_engine.specs.inside.Rows.{rows_to}
use Rattle.edge_apply.specs.Words.{passes_words}
use Rattle.push_engine.proofs.sources.fold_rows.Given as goal

-- the rows of the sources that have come are folded
abbrev pub invariant-sources : goal.invariant-sources
invariant-sources l = (m : StateValue) (steps : List FunctionStatementsTree) (edges : List Edge) → IsContextOf l.input.context m steps
    → HasFolded l.input.context m steps edges l.fn.scratch → HasFolded l.input.context m steps
    (edges ++ rows_to (passes_words l.input.to) l.input.flat.now.edges (take l.source-index l.sources)) l.scratch
