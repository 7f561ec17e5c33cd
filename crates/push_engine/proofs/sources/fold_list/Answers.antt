-- Proofs of `fold_list`, src/sources.rt.
use Rattle.std.proofs.Common.{◌++◌, ℕ, ℤ, List, OnOk, subst}
use Rattle.std.specs.List.{filter}
use Rattle.weighted_edges.specs.Edge.{Edge}
use Rattle.kernels.specs.FunctionStatementTree.{FunctionStatementsTree}
use Rattle.kernels.specs.State.{StateValue}
use Rattle.edge_fold.specs.Folded.{IsContextOf, HasFolded}
use Rattle.edge_fold.specs.Contributions.{row}
use Rattle.edge_apply.specs.Words.{passes_words}
use Rattle.push_engine.proofs.sources.fold_list.Goals as goal

pub returns-then-input : goal.returns-then-input
returns-then-input c =
    let a = c.args in
    subst (λ (es : List (ℕ × ℤ)). OnOk c.fold_weighted.result ((m : StateValue) → (steps : List FunctionStatementsTree) → (edges : List Edge) → IsContextOf a.input.context m steps
    → HasFolded a.input.context m steps edges a.scratch.now
    → HasFolded a.input.context m steps (edges ++ row a.source (filter (λ e. passes_words a.input.to e.0) es)) c.fold_weighted.new.scratch)) c.ascending.ensures c.fold_weighted.ensures

pub returns-in-One : goal.returns-in-One
returns-in-One c =
    let a = c.args in
    subst (λ (es : List (ℕ × ℤ)). OnOk c.fold_narrow.result ((m : StateValue) → (steps : List FunctionStatementsTree) → (edges : List Edge) → IsContextOf a.input.context m steps
    → HasFolded a.input.context m steps edges a.scratch.now
    → HasFolded a.input.context m steps (edges ++ row a.source (filter (λ e. passes_words a.input.to e.0) es)) c.fold_narrow.new.scratch)) c.in-One.ensures c.fold_narrow.ensures

pub returns-in-Two : goal.returns-in-Two
returns-in-Two c =
    let a = c.args in
    subst (λ (es : List (ℕ × ℤ)). OnOk c.fold_narrow-in-Two.result ((m : StateValue) → (steps : List FunctionStatementsTree) → (edges : List Edge) → IsContextOf a.input.context m steps
    → HasFolded a.input.context m steps edges a.scratch.now
    → HasFolded a.input.context m steps (edges ++ row a.source (filter (λ e. passes_words a.input.to e.0) es)) c.fold_narrow-in-Two.new.scratch)) c.in-Two.ensures c.fold_narrow-in-Two.ensures

pub returns-in-Three : goal.returns-in-Three
returns-in-Three c =
    let a = c.args in
    subst (λ (es : List (ℕ × ℤ)). OnOk c.fold_narrow-in-Three.result ((m : StateValue) → (steps : List FunctionStatementsTree) → (edges : List Edge) → IsContextOf a.input.context m steps
    → HasFolded a.input.context m steps edges a.scratch.now
    → HasFolded a.input.context m steps (edges ++ row a.source (filter (λ e. passes_words a.input.to e.0) es)) c.fold_narrow-in-Three.new.scratch)) c.in-Three.ensures c.fold_narrow-in-Three.ensures

pub returns-in-Four : goal.returns-in-Four
returns-in-Four c =
    let a = c.args in
    subst (λ (es : List (ℕ × ℤ)). OnOk c.fold_narrow-in-Four.result ((m : StateValue) → (steps : List FunctionStatementsTree) → (edges : List Edge) → IsContextOf a.input.context m steps
    → HasFolded a.input.context m steps edges a.scratch.now
    → HasFolded a.input.context m steps (edges ++ row a.source (filter (λ e. passes_words a.input.to e.0) es)) c.fold_narrow-in-Four.new.scratch)) c.in-Four.ensures c.fold_narrow-in-Four.ensures
