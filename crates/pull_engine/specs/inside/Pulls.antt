-- Pulls of a range, by the numbers of sources and weights.
use Rattle.std.specs.Prelude.{◌≡◌, ℕ, ◌-◌, ℤ, Bool, List, ◌<◌, ◌≤◌}
use Rattle.apply_options.specs.declared.reduction.Reduction.{Reduction}
use Rattle.vectors.specs.declared.changes.EntryChange.{EntryChange}
use Rattle.kernels.specs.State.{StateValue}
use Rattle.kernels.specs.Registers.{HasSizes}
use Rattle.kernels.specs.Value.{entry}
use Rattle.kernels.specs.FunctionStatementTree.{FunctionStatementsTree}
use Rattle.edge_fold.specs.Changed.{changed_from}
use Rattle.edge_fold.specs.Ends.{IsEndTest}
use Rattle.edge_fold.specs.Between.{edges_between}
use Rattle.edge_fold.specs.Folded.{IsContextOf}
use Rattle.edge_apply.specs.Words.{passes_words}
use Rattle.pull_engine.specs.declared.ranges.PullRange.{PullRange}
use Rattle.pull_engine.specs.inside.Ranges.{pulled_to}
use Rattle.pull_engine.specs.Ranges.{AreChangesFrom}

-- the vertices of the range whose entry changes, where that is reduced with the numbers of those sources that pass
abbrev pub IsRangePulled : PullRange → (vector : ℕ) → Reduction → (number : ℕ → ℤ → ℤ) → List EntryChange → Type 0
IsRangePulled p x r number cs = (m : StateValue) (test : ℕ → Bool) → p.context.vectors.now.vectors ≡ m.vectors → HasSizes p.context.sizes.now m
    → IsEndTest p.to m test
    → cs ≡ changed_from (entry m.vectors x) (pulled_to r number (entry m.vectors x) (passes_words p.from) test p.flat.now.edges) p.low (p.high - p.low)

-- the changes of a vector are those of an apply, at the vertices of the range
abbrev pub IsRangeChanged : PullRange → (vector : ℕ) → List EntryChange → Type 0
IsRangeChanged p x cs = (m : StateValue) (steps : List FunctionStatementsTree) (test : ℕ → Bool) → IsContextOf p.context m steps → IsEndTest p.to m test
    → AreChangesFrom x p.low (p.high - p.low) (edges_between (passes_words p.from) test p.flat.now.edges) m steps cs

-- of the vertices of the range those pass that this test lets through
abbrev pub IsRangeEnd : PullRange → (lets : ℕ → Bool) → Type 0
IsRangeEnd p lets = (m : StateValue) (test : ℕ → Bool) → p.context.vectors.now.vectors ≡ m.vectors → HasSizes p.context.sizes.now m → IsEndTest p.to m test
    → (v : ℕ) → p.low ≤ v → v < p.high → test v ≡ lets v
