-- Proofs of `fold_untested`, src/sources.rt.
use Rattle.std.proofs.Common.{rules, ◌≡◌, ◌++◌, ℕ, ℤ, Option, None, List, sym, ap, ◌∙◌}
use Rattle.std.specs.Borrow.{Bor}
use Rattle.std.specs.List.{filter}
use Rattle.std.proofs.lemmas.Result.{IfOk-weaker}
use Rattle.edge_fold.specs.Contributions.{row}
use Rattle.edge_fold.proofs.Walks.{folded_along}
use Rattle.edge_apply.specs.Words.{passes_words}
use Rattle.edge_apply.proofs.Filtered.{all_pass}
use Rattle.push_engine.proofs.sources.fold_untested.Goals as goal

pub returns-clause-folded : goal.returns-clause-folded
returns-clause-folded c =
    let a = c.args in
    let es = a.list.now in
    let none : a.input.to ≡ None = search rules in
    let all : es ≡ filter (λ e. passes_words a.input.to e.0) es =
    sym (ap (λ (o : Option (Bor (List ℕ))). filter (λ (e : ℕ × ℤ). passes_words o e.0) es) none ∙ all_pass es) in
    IfOk-weaker c.fold_entries.result _ _
    (λ done folded yes m steps edges are has.
    folded_along a.input.context m steps (edges ++ row a.source es) (edges ++ row a.source (filter (λ e. passes_words a.input.to e.0) es)) c.fold_entries.new.self
    (ap (λ ks. edges ++ row a.source ks) all) (folded yes m steps edges are has))
    c.fold_entries.ensures.folded
