-- Proofs of `fold_into`, src/by_destination.rt.
use Rattle.std.proofs.Common.{◌==◌, pos, ℕ, ℤ, List, [], ◌∷◌, cond, refl, sym, subst}
use Rattle.std.proofs.lemmas.Result.{on_ok_weaker}
use Rattle.apply_options.specs.declared.reduction.Reduction.{Reduction}
use Rattle.edge_fold.specs.declared.scratch.Scratch.{Scratch}
use Rattle.edge_fold.specs.Folded.{HasFolded}
use Rattle.edge_fold.specs.Contributions.{IsBy, all_given, column, weighted_entries, given_on}
use Rattle.edge_fold.specs.inside.Contributions.{each_given}
use Rattle.edge_fold.proofs.Columns.{together_given}
use Rattle.edge_fold.proofs.JoinedSlots.{folded_before, joined_alike}
use Rattle.edge_fold.proofs.Orders.{folded_more_alike}
use Rattle.edge_fold.proofs.WeightColumns.{weightless_column}
use Rattle.edge_fold.proofs.scratch.Scratch.fold_into.Goals as goal

pub returns-in-Some : goal.returns-in-Some
returns-in-Some c m steps edges es keys are has x r by =
    let now = c.args.self.now in
    let f = c.args.context in
    let d = c.args.destination in
    let ss = c.args.sources.now in
    let contribution = c.in-Some.contribution in
    let g = all_given m steps in
    let is = c.in-Some.ensures m steps are in
    let own : IsBy r x ((contribution.vector, contribution.reduction, is.number 0) ∷ []) = subst (λ (gs : List (ℕ × Reduction × ℤ)). IsBy r x gs) (is.each 0 d (pos 0)) (by (0, d, pos 0)) in
    folded_before f m steps edges (column d es) now _ x r refl
    (joined_alike f x r now.slots c.join_number.new.self (cond (contribution.vector == x) (each_given contribution.number (d ∷ [])) []) (given_on x g (column d es))
    (λ v n. together_given r x d v n contribution g ss es is own.0 keys)
    (c.in_ok-join_number.ensures x r own.0))
    (has x r by)

pub returns-then-done : goal.returns-then-done
returns-then-done c m steps edges es keys are has =
    let d = c.args.destination in
    let ss = c.args.sources.now in
    folded_more_alike c.args.context m steps edges (column d (weighted_entries ss [])) (column d es) _ (λ x. weightless_column x d m steps ss es (are.weightless c.requires.unweighted) keys)
    (c.in_ok-done.ensures.folded c.if-done.true m steps edges are has)

pub returns : goal.returns
returns c =
    let f = c.args.context in
    let d = c.args.destination in
    let ss = c.args.sources.now in
    let same = sym (c.in_ok-done.ensures.unchanged c.if-done.false) in
    on_ok_weaker c.gather_into.result
    (λ done m steps edges es keys are has.
    folded_more_alike f m steps edges (column d (weighted_entries ss [])) (column d es) _ (λ x. weightless_column x d m steps ss es (are.weightless c.requires.unweighted) keys)
    (done m steps edges are (subst (λ (t : Scratch). HasFolded f m steps edges t) same has)))
    c.gather_into.ensures
