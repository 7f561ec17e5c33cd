-- What a schedule says of a label after it is put.
use Rattle.std.proofs.Common.{◌≡◌, refl, ap, ◌∙◌, ℕ, Bool, true, false, nat_eq, List, [], ◌∷◌, cond}
use Rattle.std.proofs.lemmas.Bool.{eqb-true, eq-eqb}
use Rattle.std.specs.Map.{lookup}
use Rattle.std.specs.Prelude.{Some, Result, Ok, Err, if◌then◌else◌}
use Rattle.indexmap.specs.IndexMap.{insert_entry}
use Rattle.apply_options.specs.declared.setting.Setting.{Setting}
use Rattle.apply_options.specs.declared.setting.Setting.TheVariants as setting
use Rattle.apply_options.specs.declared.apply_schedule.ApplySchedule.{ApplySchedule}
use Rattle.schedule.specs.declared.error.ScheduleRule.{ScheduleRule}
use Rattle.schedule.specs.Calls.{and_then, given}
use Rattle.apply_options.specs.ScheduleTree.{ScheduleTree, apply_schedule_of, or_no_apply_schedule}
use Rattle.schedule.specs.Schedule.{with_apply_schedule}

put_here : (k : ℕ) (c : ApplySchedule) (es : List (ℕ × ApplySchedule)) → lookup (nat_eq k) (insert_entry nat_eq es k c) ≡ Some c
put_here k c [] = rw (eq-eqb k k refl) refl
put_here k c (e ∷ es) = go (nat_eq k e.0) refl (put_here k c es)
  where
    go : (b : Bool) → nat_eq k e.0 ≡ b → lookup (nat_eq k) (insert_entry nat_eq es k c) ≡ Some c
        → lookup (nat_eq k) (if b then (e.0, c) ∷ es else e ∷ insert_entry nat_eq es k c) ≡ Some c
    go true t others = rw t refl
    go false t others = rw t others

put_elsewhere : (q k : ℕ) (c : ApplySchedule) (es : List (ℕ × ApplySchedule)) → nat_eq q k ≡ false → lookup (nat_eq q) (insert_entry nat_eq es k c) ≡ lookup (nat_eq q) es
put_elsewhere q k c [] h = rw h refl
put_elsewhere q k c (e ∷ es) h = go (nat_eq k e.0) refl (put_elsewhere q k c es h)
  where
    go : (b : Bool) → nat_eq k e.0 ≡ b → lookup (nat_eq q) (insert_entry nat_eq es k c) ≡ lookup (nat_eq q) es
        → lookup (nat_eq q) (if b then (e.0, c) ∷ es else e ∷ insert_entry nat_eq es k c) ≡ lookup (nat_eq q) (e ∷ es)
    go true t others =
        let away : nat_eq q e.0 ≡ false = rw (← eqb-true k e.0 t) h in
        rw away refl
    go false t others = ap (cond (nat_eq q e.0) (Some e.1)) others

pub apply_schedule_here : (label : ℕ) (c : ApplySchedule) (s : ScheduleTree) → apply_schedule_of label (with_apply_schedule label c s) ≡ c
apply_schedule_here label c s = ap or_no_apply_schedule (put_here label c s.apply_schedules)

pub apply_schedule_elsewhere : (q label : ℕ) (c : ApplySchedule) (s : ScheduleTree) → nat_eq q label ≡ false → apply_schedule_of q (with_apply_schedule label c s) ≡ apply_schedule_of q s
apply_schedule_elsewhere q label c s h = ap or_no_apply_schedule (put_elsewhere q label c s.apply_schedules h)

and_then_ok : {A B : Type 0} (r : Result A ScheduleRule) (f : A → B) (b : B) → and_then r f ≡ Ok b → (a : A) × (b ≡ f a)
and_then_ok (Ok a) f b e = (a, cc)
and_then_ok (Err r) f b e = cc

-- a value leaves the fusing
pub given_fused : (which : Setting) (text : List ℕ) (c d : ApplySchedule) → given which text c ≡ Ok d → d.fused ≡ c.fused
given_fused setting.Direction text c d e = ap (λ (x : ApplySchedule). x.fused) (and_then_ok _ _ d e).1
given_fused setting.Parallelization text c d e = ap (λ (x : ApplySchedule). x.fused) (and_then_ok _ _ d e).1
given_fused setting.DenseVertexSet text c d e = ap (λ (x : ApplySchedule). x.fused) (and_then_ok _ _ d e).1
given_fused setting.FuseFunctions text c d e = cc
given_fused setting.FuseFields text c d e = cc

pub fused_after_value : (q label : ℕ) (c : ApplySchedule) (s : ScheduleTree) → c.fused ≡ (apply_schedule_of label s).fused
    → (apply_schedule_of q (with_apply_schedule label c s)).fused ≡ (apply_schedule_of q s).fused
fused_after_value q label c s h = go (nat_eq q label) refl
  where
    go : (b : Bool) → nat_eq q label ≡ b → (apply_schedule_of q (with_apply_schedule label c s)).fused ≡ (apply_schedule_of q s).fused
    go true t = rw (eqb-true q label t) (ap (λ (x : ApplySchedule). x.fused) (apply_schedule_here label c s) ∙ h)
    go false t = ap (λ (x : ApplySchedule). x.fused) (apply_schedule_elsewhere q label c s t)
