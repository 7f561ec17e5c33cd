-- Proofs of `fold`, src/scratch.rt.
use Rattle.std.proofs.Common.{[], subst, sym}
use Rattle.std.proofs.lemmas.Result.{on_ok_weaker}
use Rattle.edge_fold.specs.declared.scratch.Scratch.{Scratch}
use Rattle.edge_fold.specs.Contributions.{weighted_entries, row}
use Rattle.edge_fold.specs.Folded.{HasFolded}
use Rattle.edge_fold.proofs.Orders.{folded_more_alike}
use Rattle.edge_fold.proofs.WeightColumns.{weightless_row}
use Rattle.edge_fold.proofs.scratch.Scratch.fold.Goals as goal

pub returns-then-done : goal.returns-then-done
returns-then-done c m steps edges es keys are has =
    let s = c.args.source in
    let ds = c.args.destinations.now in
    folded_more_alike c.args.context m steps edges (row s (weighted_entries ds [])) (row s es) _ (λ x. weightless_row x s m steps ds es (are.weightless c.requires.unweighted) keys)
    (c.in_ok-done.ensures.folded c.if-done.true m steps edges are has)

pub returns : goal.returns
returns c =
    let f = c.args.context in
    let s = c.args.source in
    let ds = c.args.destinations.now in
    let same = sym (c.in_ok-done.ensures.unchanged c.if-done.false) in
    on_ok_weaker c.gather.result
    (λ done m steps edges es keys are has.
    folded_more_alike f m steps edges (row s (weighted_entries ds [])) (row s es) _ (λ x. weightless_row x s m steps ds es (are.weightless c.requires.unweighted) keys)
    (done m steps edges are (subst (λ (t : Scratch). HasFolded f m steps edges t) same has)))
    c.gather.ensures
