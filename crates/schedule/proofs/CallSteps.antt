-- What a call that breaks no rule does to a schedule, and what holds after all calls.
use Rattle.std.proofs.Common.{◌≡◌, refl, subst, ℕ, Bool, true, false, nat_lt, length, List, [], ◌∷◌}
use Rattle.std.specs.List.{concat}
use Rattle.std.specs.Prelude.{Option, Some, None, Result, Ok, Err}
use Rattle.apply_options.specs.declared.setting.Setting.{Setting}
use Rattle.apply_options.specs.declared.setting.Setting.TheVariants as setting
use Rattle.typed_tree.specs.ProgramTree.{ProgramTree, ScheduleCallTree}
use Rattle.apply_options.specs.declared.apply_schedule.ApplySchedule.{ApplySchedule}
use Rattle.apply_options.specs.declared.apply_schedule.Fused.TheVariants.{With, Into}
use Rattle.schedule.specs.declared.error.ScheduleRule.{ScheduleRule}
use Rattle.schedule.specs.declared.error.ScheduleRule.TheVariants as rule
use Rattle.typed_tree.specs.declared.apply.StatementApply.{StatementApply}
use Rattle.typed_tree.specs.declared.apply.StatementApply.TheVariants.{Vertices, Edges}
use Rattle.schedule.specs.Calls.{after_call, and_then, apply_at, fuse_at, fuse_or, fusing_fault, fusing_of_two, given, grown, two_of, value_at, value_of_two, value_on, with_call, with_call_of}
use Rattle.schedule.specs.Calls.{with_calls, with_fields, with_group}
use Rattle.schedule.specs.Schedule.{label_index, with_apply_schedule, with_fused, with_one_group}
use Rattle.apply_options.specs.ScheduleTree.{ScheduleTree, apply_schedule_of}

-- the three things that a call may do
pub data Step (p : ProgramTree) (s new : ScheduleTree) : Type 0 where
  GivesValue : (setting : Setting) (text : List ℕ) (label : ℕ) (c : ApplySchedule) → given setting text (apply_schedule_of label s) ≡ Ok c → with_apply_schedule label c s ≡ new → Step p s new
  Fuses : (first second : ℕ) → fusing_fault p s first second ≡ None → with_fused second (Into first) (with_fused first (With second) s) ≡ new → Step p s new
  PutsGroup : (names : List (List ℕ)) (group : List ℕ) → grown p (concat s.groups) [] names ≡ Some group → with_one_group group s ≡ new → Step p s new

pub ok_is : {A B : Type 0} (r : Result A B) (a b : A) → r ≡ Ok a → r ≡ Ok b → a ≡ b
ok_is r a b is e = cc

value_step : (p : ProgramTree) (setting : Setting) (text : List ℕ) (s new : ScheduleTree) (label : ℕ) (r : Result ApplySchedule ScheduleRule)
    → given setting text (apply_schedule_of label s) ≡ r → and_then r (λ c. with_apply_schedule label c s) ≡ Ok new → Step p s new
value_step p setting text s new label (Ok c) is e = GivesValue setting text label c is (ok_is _ _ _ refl e)
value_step p setting text s new label (Err r) is e = cc

value_on_step : (p : ProgramTree) (setting : Setting) (text : List ℕ) (s new : ScheduleTree) (label : ℕ) (apply : Option StatementApply)
    → value_on setting text s label apply ≡ Ok new → Step p s new
value_on_step p setting text s new label (Some (Edges ends function name)) e = value_step p setting text s new label _ refl e
value_on_step p setting text s new label (Some (Vertices set function)) e = cc
value_on_step p setting text s new label None e = cc

value_at_step : (p : ProgramTree) (setting : Setting) (text : List ℕ) (s new : ScheduleTree) (label : Option ℕ)
    → value_at p setting text s label ≡ Ok new → Step p s new
value_at_step p setting text s new None e = cc
value_at_step p setting text s new (Some label) e = value_on_step p setting text s new label (apply_at p label) e

two_step : (p : ProgramTree) (setting : Setting) (two : Option (List ℕ × List ℕ)) (s new : ScheduleTree)
    → value_of_two p setting two s ≡ Ok new → Step p s new
two_step p setting None s new e = cc
two_step p setting (Some (label, text)) s new e = value_at_step p setting text s new (label_index p label) e

fuse_step : (p : ProgramTree) (s new : ScheduleTree) (first second : ℕ) (fault : Option ScheduleRule)
    → fusing_fault p s first second ≡ fault → fuse_or fault first second s ≡ Ok new → Step p s new
fuse_step p s new first second None is e = Fuses first second is (ok_is _ _ _ refl e)
fuse_step p s new first second (Some r) is e = cc

fuse_at_step : (p : ProgramTree) (s new : ScheduleTree) (first second : Option ℕ) → fuse_at p s first second ≡ Ok new → Step p s new
fuse_at_step p s new (Some first) (Some second) e = fuse_step p s new first second _ refl e
fuse_at_step p s new (Some first) None e = cc
fuse_at_step p s new None second e = cc

fusing_step : (p : ProgramTree) (two : Option (List ℕ × List ℕ)) (s new : ScheduleTree) → fusing_of_two p two s ≡ Ok new → Step p s new
fusing_step p None s new e = cc
fusing_step p (Some (first, second)) s new e = fuse_at_step p s new (label_index p first) (label_index p second) e

group_step : (p : ProgramTree) (names : List (List ℕ)) (s new : ScheduleTree) (group : Option (List ℕ))
    → grown p (concat s.groups) [] names ≡ group → with_group group s ≡ Ok new → Step p s new
group_step p names s new None is e = cc
group_step p names s new (Some group) is e = PutsGroup names group is (ok_is _ _ _ refl e)

fields_step : (p : ProgramTree) (names : List (List ℕ)) (s new : ScheduleTree) (few : Bool)
    → nat_lt (length names) 2 ≡ few → with_fields p names s ≡ Ok new → Step p s new
fields_step p names s new true is e =
    let bad : Err rule.BadFields ≡ Ok new = rw is at e in
    cc
fields_step p names s new false is e = group_step p names s new _ refl (rw is at e)

pub call_step : (p : ProgramTree) (which : Setting) (arguments : List (List ℕ)) (s new : ScheduleTree) → with_call_of p which arguments s ≡ Ok new → Step p s new
call_step p setting.FuseFunctions arguments s new e = fusing_step p (two_of arguments) s new e
call_step p setting.FuseFields arguments s new e = fields_step p arguments s new _ refl e
call_step p setting.Direction arguments s new e = two_step p setting.Direction (two_of arguments) s new e
call_step p setting.Parallelization arguments s new e = two_step p setting.Parallelization (two_of arguments) s new e
call_step p setting.DenseVertexSet arguments s new e = two_step p setting.DenseVertexSet (two_of arguments) s new e

-- what each step keeps holds after all calls
pub kept_by_calls : (p : ProgramTree) (P : ScheduleTree → Type 0) → ((s new : ScheduleTree) → P s → Step p s new → P new)
    → (calls : List ScheduleCallTree) (s end : ScheduleTree) → P s → with_calls p calls s ≡ Ok end → P end
kept_by_calls p P keeps [] s end holds e = subst P (ok_is _ _ _ refl e) holds
kept_by_calls p P keeps (call ∷ calls) s end holds e =
    go (with_call p call s) refl (λ new before. kept_by_calls p P keeps calls new end before) e
  where
    go : (r : Result ScheduleTree ScheduleRule) → with_call p call s ≡ r → ((new : ScheduleTree) → P new → with_calls p calls new ≡ Ok end → P end)
        → after_call call.at r (λ new. with_calls p calls new) ≡ Ok end → P end
    go (Ok new) is others e = others new (keeps s new holds (call_step p call.setting call.arguments s new is)) e
    go (Err r) is others e = cc
