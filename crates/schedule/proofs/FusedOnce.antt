-- A label of an accepted schedule is in one fusing.
use Rattle.std.proofs.Common.{◌≡◌, refl, ap, subst, sym, ◌∙◌, ℕ, Bool, true, false, ◌||◌, nat_eq}
use Rattle.std.proofs.lemmas.Bool.{eqb-true}
use Rattle.std.specs.Prelude.{Option, Some, None, is_some, Ok}
use Rattle.typed_tree.specs.ProgramTree.{ProgramTree}
use Rattle.apply_options.specs.declared.apply_schedule.Fused.{Fused}
use Rattle.apply_options.specs.declared.apply_schedule.Fused.TheVariants.{With, Into}
use Rattle.typed_tree.specs.declared.apply.StatementApply.{StatementApply}
use Rattle.schedule.specs.Calls.{apply_at, fusing_fault_of, schedule_of}
use Rattle.schedule.specs.Laws.{FusesInPairs}
use Rattle.apply_options.specs.ScheduleTree.{ScheduleTree, apply_schedule_of}
use Rattle.schedule.specs.Schedule.{empty_schedule, is_fused, with_apply_schedule, with_fused}
use Rattle.schedule.proofs.CallSteps.{Step, GivesValue, Fuses, PutsGroup, kept_by_calls}
use Rattle.schedule.proofs.ApplySchedules.{fused_after_value, given_fused}
use Rattle.schedule.proofs.FusedPairs.{fused_elsewhere, fused_here, no_fault}

no_or : (a b : Bool) → a || b ≡ false → (a ≡ false) × (b ≡ false)
no_or true b h = cc
no_or false b h = (refl, h)

none_fused : (o : Option Fused) → is_some o ≡ false → o ≡ None
none_fused None h = refl
none_fused (Some fused) h = cc

-- neither label is fused yet, and they are two
pub record AreUnfused (s : ScheduleTree) (a b : ℕ) : Type 0 where
  pub are_two : nat_eq a b ≡ false
  pub first : (apply_schedule_of a s).fused ≡ None
  pub second : (apply_schedule_of b s).fused ≡ None

unfused_from : (p : ProgramTree) (s : ScheduleTree) (a b : ℕ) (one other : Option StatementApply) → fusing_fault_of p s a b one other ≡ None → AreUnfused s a b
unfused_from p s a b (Some x) (Some y) e =
    let apart = no_or (nat_eq a b) (is_fused a s || is_fused b s) (no_fault _ _ _ e).0 in
    let unfused = no_or (is_fused a s) (is_fused b s) apart.1 in
    record { are_two = apart.0; first = none_fused _ unfused.0; second = none_fused _ unfused.1 }
unfused_from p s a b (Some x) None e = cc
unfused_from p s a b None other e = cc

-- what a label is fused as after a and b are fused
abbrev fused_after : ℕ → ℕ → ScheduleTree → ℕ → Option Fused
fused_after a b s q = (apply_schedule_of q (with_fused b (Into a) (with_fused a (With b) s))).fused

after_second : (a b : ℕ) (s : ScheduleTree) → fused_after a b s b ≡ Some (Into a)
after_second a b s = fused_here b (Into a) (with_fused a (With b) s)

after_first : (a b : ℕ) (s : ScheduleTree) → nat_eq a b ≡ false → fused_after a b s a ≡ Some (With b)
after_first a b s h = fused_elsewhere a b (Into a) (with_fused a (With b) s) h ∙ fused_here a (With b) s

after_other : (a b q : ℕ) (s : ScheduleTree) → nat_eq q b ≡ false → nat_eq q a ≡ false → fused_after a b s q ≡ (apply_schedule_of q s).fused
after_other a b q s not_b not_a = fused_elsewhere q b (Into a) (with_fused a (With b) s) not_b ∙ fused_elsewhere q a (With b) s not_a

-- a label that was fused is neither
is_other : (s : ScheduleTree) (a q : ℕ) (fused : Fused) → (apply_schedule_of a s).fused ≡ None → (apply_schedule_of q s).fused ≡ Some fused → nat_eq q a ≡ false
is_other s a q fused unfused is = go (nat_eq q a) refl
  where
    go : (same : Bool) → nat_eq q a ≡ same → nat_eq q a ≡ false
    go false t = t
    go true t =
        let bad : None ≡ Some fused = sym unfused ∙ subst (λ (l : ℕ). (apply_schedule_of l s).fused ≡ Some fused) (eqb-true q a t) is in
        cc

with_then_into : (s : ScheduleTree) (a b : ℕ) → FusesInPairs s → AreUnfused s a b → (first second : ℕ)
    → fused_after a b s first ≡ Some (With second) → fused_after a b s second ≡ Some (Into first)
with_then_into s a b old un first second e = at_b (nat_eq first b) refl
  where
    at_a : (same : Bool) → nat_eq first a ≡ same → nat_eq first b ≡ false → fused_after a b s second ≡ Some (Into first)
    at_a true t not_b =
        let is : first ≡ a = eqb-true first a t in
        let both : Some (With b) ≡ Some (With second) = sym (after_first a b s un.are_two) ∙ subst (λ (l : ℕ). fused_after a b s l ≡ Some (With second)) is e in
        let other : b ≡ second = cc in
        subst (λ (l : ℕ). fused_after a b s l ≡ Some (Into first)) other (after_second a b s ∙ ap (λ (l : ℕ). Some (Into l)) (sym is))
    at_a false t not_b =
        let before : (apply_schedule_of second s).fused ≡ Some (Into first) = old.0 first second (sym (after_other a b first s not_b t) ∙ e) in
        after_other a b second s (is_other s b second (Into first) un.second before) (is_other s a second (Into first) un.first before) ∙ before

    at_b : (same : Bool) → nat_eq first b ≡ same → fused_after a b s second ≡ Some (Into first)
    at_b true t =
        let bad : Some (Into a) ≡ Some (With second) = sym (after_second a b s) ∙ subst (λ (l : ℕ). fused_after a b s l ≡ Some (With second)) (eqb-true first b t) e in
        cc
    at_b false t = at_a (nat_eq first a) refl t

into_then_with : (s : ScheduleTree) (a b : ℕ) → FusesInPairs s → AreUnfused s a b → (first second : ℕ)
    → fused_after a b s second ≡ Some (Into first) → fused_after a b s first ≡ Some (With second)
into_then_with s a b old un first second e = at_b (nat_eq second b) refl
  where
    at_a : (same : Bool) → nat_eq second a ≡ same → nat_eq second b ≡ false → fused_after a b s first ≡ Some (With second)
    at_a true t not_b =
        let bad : Some (With b) ≡ Some (Into first) = sym (after_first a b s un.are_two) ∙ subst (λ (l : ℕ). fused_after a b s l ≡ Some (Into first)) (eqb-true second a t) e in
        cc
    at_a false t not_b =
        let before : (apply_schedule_of first s).fused ≡ Some (With second) = old.1 first second (sym (after_other a b second s not_b t) ∙ e) in
        after_other a b first s (is_other s b first (With second) un.second before) (is_other s a first (With second) un.first before) ∙ before

    at_b : (same : Bool) → nat_eq second b ≡ same → fused_after a b s first ≡ Some (With second)
    at_b true t =
        let is : second ≡ b = eqb-true second b t in
        let both : Some (Into a) ≡ Some (Into first) = sym (after_second a b s) ∙ subst (λ (l : ℕ). fused_after a b s l ≡ Some (Into first)) is e in
        let other : a ≡ first = cc in
        subst (λ (l : ℕ). fused_after a b s l ≡ Some (With second)) other (after_first a b s un.are_two ∙ ap (λ (l : ℕ). Some (With l)) (sym is))
    at_b false t = at_a (nat_eq second a) refl t

step_keeps_pairs : (p : ProgramTree) (s new : ScheduleTree) → FusesInPairs s → Step p s new → FusesInPairs new
step_keeps_pairs p s new old (GivesValue setting text label c is after) = subst FusesInPairs after
    ((λ first second e. same second ∙ old.0 first second (sym (same first) ∙ e)), (λ first second e. same first ∙ old.1 first second (sym (same second) ∙ e)))
  where
    same : (q : ℕ) → (apply_schedule_of q (with_apply_schedule label c s)).fused ≡ (apply_schedule_of q s).fused
    same q = fused_after_value q label c s (given_fused setting text (apply_schedule_of label s) c is)
step_keeps_pairs p s new old (Fuses a b none after) =
    let un = unfused_from p s a b (apply_at p a) (apply_at p b) none in
    subst FusesInPairs after (with_then_into s a b old un, into_then_with s a b old un)
step_keeps_pairs p s new old (PutsGroup names group is after) = subst FusesInPairs after old

pub accepted_fuses_in_pairs : (p : ProgramTree) (s : ScheduleTree) → schedule_of p ≡ Ok s → FusesInPairs s
accepted_fuses_in_pairs p s e = kept_by_calls p FusesInPairs (step_keeps_pairs p) p.schedule empty_schedule s ((λ first second none. cc), (λ first second none. cc)) e
