-- Proofs of `fold_row`, src/sources.rt.
use Rattle.std.proofs.Common.{◌%◌, ◌++◌, ℕ, ℤ, List, Option, OnOk, sym, ap, ◌∙◌, subst}
use Rattle.std.proofs.lemmas.List.{append-nil}
use Rattle.std.specs.Borrow.{Bor}
use Rattle.std.specs.List.{filter}
use Rattle.std.specs.Option.{option_copied}
use Rattle.weighted_edges.specs.Edge.{Edge}
use Rattle.kernels.specs.FunctionStatementTree.{FunctionStatementsTree}
use Rattle.kernels.specs.State.{StateValue}
use Rattle.edge_fold.specs.Folded.{IsContextOf, HasFolded}
use Rattle.edge_fold.specs.Contributions.{row}
use Rattle.edge_fold.proofs.Walks.{folded_along}
use Rattle.edge_apply.specs.Words.{passes_words}
use Rattle.pages.specs.Vertices.{neighbours_of}
use Rattle.vertex_blocks.specs.Blocks.{vertices_at}
use Rattle.vertex_blocks.specs.Forms.{listed}
use Rattle.push_engine.proofs.sources.fold_row.Goals as goal

pub returns-in_default : goal.returns-in_default
returns-in_default c m steps edges are has =
    let a = c.args in
    let of = λ (lists : List (ℕ × List (ℕ × ℤ))). edges ++ row a.source (filter (λ e. passes_words a.input.to e.0) (neighbours_of (a.source % 64) lists)) in
    folded_along a.input.context m steps edges (of (vertices_at (option_copied a.found))) a.scratch.now
    (sym (append-nil edges) ∙ ap (λ (o : Option (Bor (List (ℕ × List (ℕ × ℤ))))). of (vertices_at (option_copied o))) (sym c.in_default.is)) has

pub returns-in-Packed : goal.returns-in-Packed
returns-in-Packed c =
    let a = c.args in
    let same = ap listed (sym c.in-Packed.is) ∙ c.into_form.ensures ∙ c.neighbours.ensures
    ∙ ap (λ (o : Option (Bor (List (ℕ × List (ℕ × ℤ))))). neighbours_of (a.source % 64) (vertices_at (option_copied o))) (sym c.in-Some.is) in
    subst (λ (es : List (ℕ × ℤ)). OnOk c.fold_list.result ((m : StateValue) → (steps : List FunctionStatementsTree) → (edges : List Edge) → IsContextOf a.input.context m steps
    → HasFolded a.input.context m steps edges a.scratch.now
    → HasFolded a.input.context m steps (edges ++ row a.source (filter (λ e. passes_words a.input.to e.0) es)) c.fold_list.new.scratch)) same c.fold_list.ensures

pub returns-in-Chunked : goal.returns-in-Chunked
returns-in-Chunked c =
    let a = c.args in
    let same = ap listed (sym c.in-Chunked.is) ∙ c.into_form.ensures ∙ c.neighbours.ensures
    ∙ ap (λ (o : Option (Bor (List (ℕ × List (ℕ × ℤ))))). neighbours_of (a.source % 64) (vertices_at (option_copied o))) (sym c.in-Some.is) in
    subst (λ (es : List (ℕ × ℤ)). OnOk c.fold_chunked.result ((m : StateValue) → (steps : List FunctionStatementsTree) → (edges : List Edge) → IsContextOf a.input.context m steps
    → HasFolded a.input.context m steps edges a.scratch.now
    → HasFolded a.input.context m steps (edges ++ row a.source (filter (λ e. passes_words a.input.to e.0) es)) c.fold_chunked.new.scratch)) same c.fold_chunked.ensures
