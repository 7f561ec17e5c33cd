-- Proofs of `fold_chunked`, src/sources.rt.
use Rattle.std.proofs.Common.{◌++◌, ℕ, ℤ, List, OnOk, take, refl, sym, subst, arith}
use Rattle.std.specs.List.{filter}
use Rattle.weighted_edges.specs.Edge.{Edge}
use Rattle.kernels.specs.FunctionStatementTree.{FunctionStatementsTree}
use Rattle.kernels.specs.State.{StateValue}
use Rattle.edge_fold.specs.Folded.{IsContextOf, HasFolded}
use Rattle.edge_fold.specs.Contributions.{row}
use Rattle.edge_fold.proofs.Walks.{HasWalked, parts_of, walk_begun, walk_done, walk_more}
use Rattle.edge_apply.specs.Words.{passes_words}
use Rattle.push_engine.proofs.Blocks.{keys_kept, none_left}
use Rattle.push_engine.proofs.Walked.{row_in_row, row_to}
use Rattle.push_engine.proofs.sources.fold_chunked.Goals as goal

pub rounds-preserved : goal.rounds-preserved
rounds-preserved c =
    let a = c.args in
    let to = passes_words a.input.to in
    let u = a.source in
    let n = c.fill-count.result in
    let coming = c.rounds.walk in
    let part = take n coming in
    let rest = c.fill-count.new.self in
    let kept = take c.keep_members-kept.result c.keep_members-kept.new.block in
    let same = keys_kept to n coming c.fill-count.new.block kept c.fill-count.ensures.filled c.keep_members-kept.ensures.kept in
    walk_more a.input.context (row_to to u) a.set.now.entries coming part rest a.scratch.now c.rounds.scratch c.fold.new.self
    (row_in_row to u) (parts_of n coming part rest refl c.fill-count.ensures.rest)
    (λ m steps es are has. c.in_ok-fold.ensures m steps es (filter (λ e. to e.0) part) same are has)
    c.rounds.invariant

pub returns : goal.returns
returns c =
    let a = c.args in
    let none = none_left c.rounds.walk (omega (arith, c.rounds-test.false, c.len.ensures)) in
    walk_done a.input.context (row_to (passes_words a.input.to) a.source) a.set.now.entries
    c.rounds.walk a.scratch.now c.rounds.scratch none c.rounds.invariant

pub rounds-init : goal.rounds-init
rounds-init c =
    let a = c.args in
    let all = a.set.now.entries in
    let row = row_to (passes_words a.input.to) a.source in
    subst (λ (es : List (ℕ × ℤ)). HasWalked a.input.context row all es a.scratch.now a.scratch.now) (sym c.new-walk.ensures) (walk_begun a.input.context row all a.scratch.now refl)

pub returns-then-input : goal.returns-then-input
returns-then-input c =
    let a = c.args in
    subst (λ (es : List (ℕ × ℤ)). OnOk c.fold_weighted.result ((m : StateValue) → (steps : List FunctionStatementsTree) → (edges : List Edge) → IsContextOf a.input.context m steps
    → HasFolded a.input.context m steps edges a.scratch.now
    → HasFolded a.input.context m steps (edges ++ row a.source (filter (λ e. passes_words a.input.to e.0) es)) c.fold_weighted.new.scratch)) c.new-walk.ensures c.fold_weighted.ensures
