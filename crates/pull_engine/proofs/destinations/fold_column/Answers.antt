-- Proofs of `fold_column`, src/destinations.rt.
use Rattle.std.proofs.Common.{◌++◌, ℕ, ℤ, List, OnOk, sym, ap, ◌∙◌, subst}
use Rattle.weighted_edges.specs.Edge.{Edge}
use Rattle.kernels.specs.FunctionStatementTree.{FunctionStatementsTree}
use Rattle.kernels.specs.State.{StateValue}
use Rattle.edge_fold.specs.Folded.{IsContextOf, HasFolded}
use Rattle.edge_fold.specs.Contributions.{column}
use Rattle.vertex_blocks.specs.Forms.{listed}
use Rattle.edge_apply.specs.Words.{passes_words}
use Rattle.pull_engine.specs.Columns.{passing}
use Rattle.pull_engine.proofs.destinations.fold_column.Goals as goal

pub returns-in-Packed : goal.returns-in-Packed
returns-in-Packed c =
    let a = c.args in
    let same = c.ascending.ensures ∙ ap listed (sym c.in-Packed.is) ∙ c.into_form.ensures ∙ c.in_set.ensures in
    subst (λ (us : List (ℕ × ℤ)). OnOk c.fold_walk.result ((m : StateValue) → (steps : List FunctionStatementsTree) → (edges : List Edge) → IsContextOf a.input.context m steps
    → HasFolded a.input.context m steps edges a.scratch.now
    → HasFolded a.input.context m steps (edges ++ column a.destination (passing (passes_words a.input.from) us)) c.fold_walk.new.scratch)) same c.fold_walk.ensures

pub returns-in-Chunked : goal.returns-in-Chunked
returns-in-Chunked c =
    let a = c.args in
    let same = c.new.ensures ∙ ap listed (sym c.in-Chunked.is) ∙ c.into_form.ensures ∙ c.in_set.ensures in
    subst (λ (us : List (ℕ × ℤ)). OnOk c.fold_walk-in-Chunked.result ((m : StateValue) → (steps : List FunctionStatementsTree) → (edges : List Edge) → IsContextOf a.input.context m steps
    → HasFolded a.input.context m steps edges a.scratch.now
    → HasFolded a.input.context m steps (edges ++ column a.destination (passing (passes_words a.input.from) us)) c.fold_walk-in-Chunked.new.scratch)) same c.fold_walk-in-Chunked.ensures
