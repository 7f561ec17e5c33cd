-- Proofs of `fold_into_weighted`, src/weighted.rt.
use Rattle.std.proofs.Common.{◌==◌, pos, ℕ, ℤ, List, [], ◌∷◌, cond, refl, sym, subst}
use Rattle.apply_options.specs.declared.reduction.Reduction.{Reduction}
use Rattle.std.proofs.lemmas.Result.{on_ok_weaker}
use Rattle.edge_fold.specs.declared.scratch.Scratch.{Scratch}
use Rattle.edge_fold.specs.Folded.{HasFolded}
use Rattle.edge_fold.specs.Contributions.{IsBy, all_given, column, weighted_entries, given_on}
use Rattle.edge_fold.specs.inside.Contributions.{each_given}
use Rattle.edge_fold.proofs.EntryRows.{weighed_together}
use Rattle.edge_fold.proofs.JoinedSlots.{folded_before, joined_alike}
use Rattle.edge_fold.proofs.scratch.Scratch.fold_into_weighted.Goals as goal

pub returns-in-Some : goal.returns-in-Some
returns-in-Some c m steps edges are has x r by =
    let now = c.args.self.now in
    let f = c.args.context in
    let d = c.args.destination in
    let es = weighted_entries c.args.sources.now c.args.weights.now in
    let contribution = c.in-Some.contribution in
    let g = all_given m steps in
    let is = c.in-Some.ensures m steps are in
    let own : IsBy r x ((contribution.vector, contribution.reduction, is.number 0 (pos 0)) ∷ []) = subst (λ (gs : List (ℕ × Reduction × ℤ)). IsBy r x gs) (is.each 0 d (pos 0)) (by (0, d, pos 0)) in
    folded_before f m steps edges (column d es) now _ x r refl
    (joined_alike f x r now.slots c.join_number.new.self (cond (contribution.vector == x) (each_given contribution.number (d ∷ [])) []) (given_on x g (column d es))
    (λ v n. weighed_together r x d v n contribution g es is own.0)
    (c.in_ok-join_number.ensures x r own.0))
    (has x r by)

pub returns-then-done : goal.returns-then-done
returns-then-done c = c.in_ok-done.ensures.folded c.if-done.true

pub returns : goal.returns
returns c =
    let same = sym (c.in_ok-done.ensures.unchanged c.if-done.false) in
    on_ok_weaker c.gather_into_weighted.result
    (λ done m steps edges are has. done m steps edges are (subst (λ (t : Scratch). HasFolded c.args.context m steps edges t) same has))
    c.gather_into_weighted.ensures
