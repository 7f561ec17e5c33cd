-- Proofs of `fold_passing_part`, src/pieces.rt.
use Rattle.std.proofs.Common.{◌++◌, ℕ, [], List, Option, sym, ap, ◌∙◌, subst}
use Rattle.std.specs.List.{filter}
use Rattle.kernels.specs.declared.endpoint_filter.EndpointFilter.{EndpointFilter}
use Rattle.edge_fold.specs.Ends.{IsEndTest}
use Rattle.edge_fold.proofs.Walks.{folded_along}
use Rattle.edge_apply.specs.Words.{passes_words}
use Rattle.push_engine.specs.inside.Rows.{rows_to}
use Rattle.edge_apply.proofs.Listed.{filter_all}
use Rattle.push_engine.proofs.pieces.fold_passing_part.Goals as goal

pub returns-in_ok-fold_rows-in-None : goal.returns-in_ok-fold_rows-in-None
returns-in_ok-fold_rows-in-None c m steps test are is has =
    let a = c.args in
    let edges = a.apply.now.flat.now.edges in
    let to = passes_words a.to in
    let all = subst (λ (o : Option EndpointFilter). IsEndTest o m test) c.in-None.is is in
    folded_along a.context m steps (rows_to to edges a.part.now) (rows_to to edges (filter test a.part.now)) c.fold_rows.new.scratch (ap (rows_to to edges) (sym (filter_all test a.part.now all)))
    (c.in_ok-fold_rows-in-None.ensures m steps [] are has)

pub returns-in_ok-fold_rows-in-Some : goal.returns-in_ok-fold_rows-in-Some
returns-in_ok-fold_rows-in-Some c m steps test are is has =
    let a = c.args in
    let edges = a.apply.now.flat.now.edges in
    let to = passes_words a.to in
    let some = subst (λ (o : Option EndpointFilter). IsEndTest o m test) c.in-Some.is is in
    let kept = c.deref.ensures.value ∙ c.in_ok-keep_passing-in-Some.ensures.kept m test are.vectors are.sizes some ∙ ap (λ (ks : List ℕ). ks ++ filter test a.part.now) c.new-kept.ensures.items in
    folded_along a.context m steps (rows_to to edges c.deref.result.now) (rows_to to edges (filter test a.part.now)) c.fold_rows-in-Some.new.scratch (ap (rows_to to edges) kept)
    (c.in_ok-fold_rows-in-Some.ensures m steps [] are (c.in_ok-keep_passing-in-Some.ensures.folded a.context m steps [] has))
