-- Proofs of `begin_whole`, src/old_entries.rt.
use Rattle.std.proofs.Common.{pos, ℕ, ℤ, List, ◌∷◌, [], refl, subst}
use Rattle.std.proofs.lemmas.Result.{on_ok_weaker}
use Rattle.apply_options.specs.declared.reduction.Reduction.{Reduction}
use Rattle.edge_fold.specs.Contributions.{IsBy}
use Rattle.edge_fold.proofs.JoinedSlots.{folded_nothing}
use Rattle.edge_fold.proofs.scratch.Scratch.begin_whole.Goals as goal

pub returns-in-Some : goal.returns-in-Some
returns-in-Some c =
    let contribution = c.in-Some.contribution in
    on_ok_weaker c.fill.result
    (λ joined m steps are x r by.
    let own : IsBy r x ((contribution.vector, contribution.reduction, contribution.number) ∷ []) =
    subst (λ (gs : List (ℕ × Reduction × ℤ)). IsBy r x gs) (c.in-Some.ensures m steps are 0 (pos 0)) (by (0, 0, pos 0)) in
    folded_nothing c.args.context m steps _ _ x r refl refl (joined x r own.0))
    c.fill.ensures

pub returns-in-Some-entry_contribution : goal.returns-in-Some-entry_contribution
returns-in-Some-entry_contribution c =
    on_ok_weaker c.fill-in-Some-entry_contribution.result
    (λ joined m steps are x r by.
    folded_nothing c.args.context m steps _ _ x r refl refl (joined x r (subst (λ (gs : List (ℕ × Reduction × ℤ)). IsBy r x gs) (c.in-Some-entry_contribution.ensures m steps are (0, 0, pos 0))
    (by (0, 0, pos 0))).0))
    c.fill-in-Some-entry_contribution.ensures
