-- The range of a piece of a pull.
use Rattle.std.specs.Prelude.{◌≡◌, ◌-◌, ◌≤◌, ℕ, Bool, List}
use Rattle.flat_snapshot.specs.Digraph.{IsDigraph}
use Rattle.kernels.specs.FunctionStatementTree.{FunctionStatementsTree}
use Rattle.kernels.specs.State.{StateValue}
use Rattle.crew.specs.Partition.{end_of}
use Rattle.edge_fold.specs.declared.apply_context.FoldStart.{FoldStart}
use Rattle.edge_fold.specs.Ends.{IsEndTest}
use Rattle.edge_fold.specs.Folded.{IsContextOf}
use Rattle.edge_apply.specs.Contexts.{IsApplyOf, context_of}
use Rattle.edge_apply.specs.Words.{passes_words}
use Rattle.pull_engine.specs.declared.work.PullWork.{PullWork}
use Rattle.pull_engine.specs.declared.ranges.PullRange.{PullRange}
use Rattle.pull_engine.specs.inside.Sources.{is_source}

-- the range is that of the vertices of a piece, with the ends of the apply
pub record IsRangeOfPiece (w : PullWork) (start : FoldStart) (piece : ℕ) (p : PullRange) : Type 0 where
  pub flat : p.flat.now ≡ w.apply.flat.now
  pub graph : IsDigraph w.apply.flat.now
  pub context : p.context ≡ context_of w.apply start
  pub reads : (m : StateValue) (steps : List FunctionStatementsTree) → IsApplyOf w.apply m steps → IsContextOf p.context m steps
  pub from : (v : ℕ) → passes_words p.from v ≡ is_source w.sources v
  pub to : (m : StateValue) (test : ℕ → Bool) → IsEndTest w.apply.to m test → IsEndTest p.to m test
  pub low : p.low ≡ end_of w.partition (piece - 1)
  pub high : p.high ≡ end_of w.partition piece
  pub order : p.low ≤ p.high
  pub within : p.high ≤ w.apply.flat.now.vertices
  pub masked : p.masked.now ≡ w.masked.items
