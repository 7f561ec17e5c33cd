-- Fused statements of an accepted schedule.
use Rattle.std.proofs.Common.{◌≡◌, refl, ap, subst, sym, ◌∙◌, ℕ, Bool, true, false, not, ◌||◌, nat_eq}
use Rattle.std.proofs.lemmas.Bool.{eqb-true, and_parts}
use Rattle.std.specs.Prelude.{Option, Some, None, Ok, if◌then◌else◌}
use Rattle.typed_tree.specs.ProgramTree.{ProgramTree}
use Rattle.apply_options.specs.declared.apply_schedule.ApplySchedule.{ApplySchedule}
use Rattle.apply_options.specs.declared.apply_schedule.Fused.{Fused}
use Rattle.apply_options.specs.declared.apply_schedule.Fused.TheVariants.{With, Into}
use Rattle.schedule.specs.declared.error.ScheduleRule.{ScheduleRule}
use Rattle.typed_tree.specs.declared.apply.StatementApply.{StatementApply}
use Rattle.typed_tree.specs.declared.apply.StatementApply.TheVariants.{Vertices, Edges}
use Rattle.schedule.specs.Calls.{apply_at, fusing_fault_of, is_followed_by, schedule_of}
use Rattle.schedule.specs.Laws.{FusesWell, IsFusedWell, IsIndependent}
use Rattle.typed_tree.specs.Independence.{are_independent, have_same_sets, is_end_of_name}
use Rattle.apply_options.specs.ScheduleTree.{ScheduleTree, apply_schedule_of, fused_as}
use Rattle.schedule.specs.Schedule.{empty_schedule, with_fused}
use Rattle.schedule.proofs.CallSteps.{Step, GivesValue, Fuses, PutsGroup, kept_by_calls}
use Rattle.schedule.proofs.Uses.{nothing_in_common}
use Rattle.schedule.proofs.ApplySchedules.{apply_schedule_elsewhere, apply_schedule_here, fused_after_value, given_fused}

pub no_fault : (b : Bool) (r : ScheduleRule) (rest : Option ScheduleRule) → (if b then Some r else rest) ≡ None → (b ≡ false) × (rest ≡ None)
no_fault true r rest e = cc
no_fault false r rest e = (refl, e)

not_or : (a b : Bool) → not (a || b) ≡ true → (a ≡ false) × (b ≡ false)
not_or true b h = cc
not_or false true h = cc
not_or false false h = (refl, refl)

from_not : (b : Bool) → not b ≡ false → b ≡ true
from_not true h = refl
from_not false h = cc

is_independent : (p : ProgramTree) (one other : StatementApply) → are_independent p one other ≡ true → IsIndependent p one other
is_independent p (Edges a f r) (Edges b g s) h =
    let ends = and_parts _ _ h in
    let function = and_parts _ _ ends.1 in
    let sources = and_parts _ _ function.1 in
    let changes = not_or (is_end_of_name p.names r b.from) (is_end_of_name p.names r b.to) ends.0 in
    record {
      function = nothing_in_common _ _ function.0;
      sources = nothing_in_common _ _ sources.0;
      destinations = nothing_in_common _ _ sources.1;
      changes_of_sources = changes.0;
      changes_of_destinations = changes.1;
    }
is_independent p (Edges a f r) (Vertices set g) h = tt
is_independent p (Vertices set f) other h = tt

well_from : (p : ProgramTree) (s : ScheduleTree) (first second : ℕ) (one other : Option StatementApply) → apply_at p first ≡ one → apply_at p second ≡ other
    → fusing_fault_of p s first second one other ≡ None → IsFusedWell p first second
well_from p s first second (Some a) (Some b) is_one is_other e =
    let once = no_fault _ _ _ e in
    let behind = no_fault _ _ _ once.1 in
    let sets = no_fault _ _ _ behind.1 in
    let independent = no_fault _ _ _ sets.1 in
    record {
      one = a;
      other = b;
      first_applies = is_one;
      second_applies = is_other;
      next_in_block = from_not (is_followed_by p first second) behind.0;
      same_sets = from_not (have_same_sets p.names a b) sets.0;
      independent = is_independent p a b (from_not (are_independent p a b) independent.0);
    }
well_from p s first second (Some a) None is_one is_other e = cc
well_from p s first second None other is_one is_other e = cc

pub fused_here : (label : ℕ) (fused : Fused) (s : ScheduleTree) → (apply_schedule_of label (with_fused label fused s)).fused ≡ Some fused
fused_here label fused s = ap (λ (x : ApplySchedule). x.fused) (apply_schedule_here label (fused_as fused (apply_schedule_of label s)) s)

pub fused_elsewhere : (q label : ℕ) (fused : Fused) (s : ScheduleTree) → nat_eq q label ≡ false → (apply_schedule_of q (with_fused label fused s)).fused ≡ (apply_schedule_of q s).fused
fused_elsewhere q label fused s h = ap (λ (x : ApplySchedule). x.fused) (apply_schedule_elsewhere q label (fused_as fused (apply_schedule_of label s)) s h)

-- after a and b are fused, a label that is fused with another is a, or was before
fuses_step : (p : ProgramTree) (s : ScheduleTree) (a b : ℕ) → FusesWell p s → IsFusedWell p a b → FusesWell p (with_fused b (Into a) (with_fused a (With b) s))
fuses_step p s a b old well first second e = go (nat_eq first b) refl
  where
    middle : ScheduleTree
    middle = with_fused a (With b) s

    at_first : (is : Bool) → nat_eq first a ≡ is → (apply_schedule_of first middle).fused ≡ Some (With second) → IsFusedWell p first second
    at_first true t e =
        let same : first ≡ a = eqb-true first a t in
        let is : Some (With b) ≡ Some (With second) = sym (fused_here a (With b) s) ∙ subst (λ (q : ℕ). (apply_schedule_of q middle).fused ≡ Some (With second)) same e in
        let other : b ≡ second = cc in
        rw (same, ← other) well
    at_first false t e = old first second (sym (fused_elsewhere first a (With b) s t) ∙ e)

    go : (is : Bool) → nat_eq first b ≡ is → IsFusedWell p first second
    go true t =
        let same : first ≡ b = eqb-true first b t in
        let bad : Some (Into a) ≡ Some (With second) = sym (fused_here b (Into a) middle) ∙ subst (λ (q : ℕ). (apply_schedule_of q (with_fused b (Into a) middle)).fused ≡ Some (With second)) same e in
        cc
    go false t = at_first (nat_eq first a) refl (sym (fused_elsewhere first b (Into a) middle t) ∙ e)

step_fuses_well : (p : ProgramTree) (s new : ScheduleTree) → FusesWell p s → Step p s new → FusesWell p new
step_fuses_well p s new old (GivesValue setting text label c is after) =
    rw (← after) λ first second e. old first second (sym (fused_after_value first label c s (given_fused setting text (apply_schedule_of label s) c is)) ∙ e)
step_fuses_well p s new old (Fuses a b none after) = rw (← after) (fuses_step p s a b old (well_from p s a b _ _ refl refl none))
step_fuses_well p s new old (PutsGroup names group is after) = rw (← after) old

pub accepted_fuses_well : (p : ProgramTree) (s : ScheduleTree) → schedule_of p ≡ Ok s → FusesWell p s
accepted_fuses_well p s e = kept_by_calls p (FusesWell p) (step_fuses_well p) p.schedule empty_schedule s (λ first second none. cc) e
