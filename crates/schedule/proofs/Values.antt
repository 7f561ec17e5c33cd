-- Values that calls gave in an accepted schedule.
use Rattle.std.proofs.Common.{◌≡◌, refl, subst, sym, ◌∙◌, ℕ, Bool, true, false, nat_eq, List, [], ◌∷◌}
use Rattle.std.proofs.lemmas.Bool.{eqb-true}
use Rattle.std.specs.Prelude.{Option, Some, None, Result, Ok, Err}
use Rattle.apply_options.specs.declared.setting.Setting.{Setting}
use Rattle.apply_options.specs.declared.setting.Setting.TheVariants as setting
use Rattle.typed_tree.specs.ProgramTree.{ProgramTree, ScheduleCallTree}
use Rattle.apply_options.specs.declared.apply_schedule.ApplySchedule.{ApplySchedule}
use Rattle.apply_options.specs.declared.apply_schedule.Fused.TheVariants.{With}
use Rattle.schedule.specs.declared.error.ScheduleRule.{ScheduleRule}
use Rattle.typed_tree.specs.declared.apply.StatementApply.{StatementApply}
use Rattle.typed_tree.specs.declared.apply.StatementApply.TheVariants.{Vertices, Edges}
use Rattle.schedule.specs.Calls.{after_call, and_then, apply_at, first_given, given, schedule_of, two_of, value_at, value_of_two, value_on, with_call, with_call_of, with_calls}
use Rattle.schedule.specs.Laws.{IsGiven, IsGivenByTwo, IsGivenTo, HasValues}
use Rattle.schedule.specs.Schedule.{label_index, empty_schedule, with_apply_schedule, with_fused}
use Rattle.apply_options.specs.ScheduleTree.{ScheduleTree, apply_schedule_of, fused_as}
use Rattle.schedule.proofs.CallSteps.{Step, GivesValue, Fuses, PutsGroup, kept_by_calls, ok_is}
use Rattle.schedule.proofs.ApplySchedules.{apply_schedule_elsewhere, apply_schedule_here}

-- what `and_then` gives comes from what was there
pub and_then_from : {A B : Type 0} (r : Result A ScheduleRule) (f : A → B) (b : B) → and_then r f ≡ Ok b → (a : A) × (r ≡ Ok a) × (f a ≡ b)
and_then_from (Ok a) f b e = (a, refl, ok_is _ _ _ refl e)
and_then_from (Err r) f b e = cc

pub given_is_new : {V : Type 0} (before value after : Option V) → first_given before value ≡ Ok after → (v : V) × (value ≡ Some v) × (after ≡ Some v) × (before ≡ None)
given_is_new before None after e = cc
given_is_new None (Some v) after e = (v, refl, sym (ok_is _ _ _ refl e), refl)
given_is_new (Some other) (Some v) after e = cc

given_stays : {V : Type 0} (before value after : Option V) (v : V) → first_given before value ≡ Ok after → before ≡ Some v → after ≡ Some v
given_stays before value after v e is =
    let new = given_is_new before value after e in
    let bad : None ≡ Some v = sym new.3 ∙ is in
    cc

-- what one apply schedule has, the other has too
record Extends (c d : ApplySchedule) : Type 0 where
  direction : (v : _) → c.direction ≡ Some v → d.direction ≡ Some v
  parallelization : (v : _) → c.parallelization ≡ Some v → d.parallelization ≡ Some v
  dense_vertex_set : (v : _) → c.dense_vertex_set ≡ Some v → d.dense_vertex_set ≡ Some v

given_extends : (which : Setting) (text : List ℕ) (c d : ApplySchedule) → given which text c ≡ Ok d → Extends c d
given_extends setting.Direction text c d e =
    let from = and_then_from _ _ d e in
    subst (Extends c) from.2 (record { direction = λ v is. given_stays _ _ _ v from.1 is; parallelization = λ v is. is; dense_vertex_set = λ v is. is })
given_extends setting.Parallelization text c d e =
    let from = and_then_from _ _ d e in
    subst (Extends c) from.2 (record { direction = λ v is. is; parallelization = λ v is. given_stays _ _ _ v from.1 is; dense_vertex_set = λ v is. is })
given_extends setting.DenseVertexSet text c d e =
    let from = and_then_from _ _ d e in
    subst (Extends c) from.2 (record { direction = λ v is. is; parallelization = λ v is. is; dense_vertex_set = λ v is. given_stays _ _ _ v from.1 is })
given_extends setting.FuseFunctions text c d e = cc
given_extends setting.FuseFields text c d e = cc

same_extends : (c : ApplySchedule) → Extends c c
same_extends c = record { direction = λ v is. is; parallelization = λ v is. is; dense_vertex_set = λ v is. is }

put_extends : (q label : ℕ) (c : ApplySchedule) (s : ScheduleTree) → Extends (apply_schedule_of label s) c → Extends (apply_schedule_of q s) (apply_schedule_of q (with_apply_schedule label c s))
put_extends q label c s more = go (nat_eq q label) refl
  where
    go : (same : Bool) → nat_eq q label ≡ same → Extends (apply_schedule_of q s) (apply_schedule_of q (with_apply_schedule label c s))
    go true t =
        subst (λ (l : ℕ). Extends (apply_schedule_of l s) (apply_schedule_of l (with_apply_schedule label c s))) (sym (eqb-true q label t))
        (subst (Extends (apply_schedule_of label s)) (sym (apply_schedule_here label c s)) more)
    go false t = subst (Extends (apply_schedule_of q s)) (sym (apply_schedule_elsewhere q label c s t)) (same_extends (apply_schedule_of q s))

extends_given : (which : Setting) (text : List ℕ) (c d : ApplySchedule) → Extends c d → IsGiven which text c → IsGiven which text d
extends_given setting.Direction text c d more is = (is.0, is.1, more.direction is.0 is.2)
extends_given setting.Parallelization text c d more is = (is.0, is.1, more.parallelization is.0 is.2)
extends_given setting.DenseVertexSet text c d more is = (is.0, is.1, more.dense_vertex_set is.0 is.2)
extends_given setting.FuseFunctions text c d more is = is
extends_given setting.FuseFields text c d more is = is

fused_extends : (q label : ℕ) (fused : _) (s : ScheduleTree) → Extends (apply_schedule_of q s) (apply_schedule_of q (with_fused label fused s))
fused_extends q label fused s = put_extends q label (fused_as fused (apply_schedule_of label s)) s (record { direction = λ v is. is; parallelization = λ v is. is; dense_vertex_set = λ v is. is })

-- a value that was given stays
pub step_keeps_value : (p : ProgramTree) (which : Setting) (text : List ℕ) (q : ℕ) (s new : ScheduleTree)
    → IsGiven which text (apply_schedule_of q s) → Step p s new → IsGiven which text (apply_schedule_of q new)
step_keeps_value p which text q s new is (GivesValue setting other label c given after) =
    subst (λ (t : ScheduleTree). IsGiven which text (apply_schedule_of q t)) after
    (extends_given which text _ _ (put_extends q label c s (given_extends setting other (apply_schedule_of label s) c given)) is)
step_keeps_value p which text q s new is (Fuses a b none after) =
    subst (λ (t : ScheduleTree). IsGiven which text (apply_schedule_of q t)) after
    (extends_given which text _ _ (fused_extends q b _ (with_fused a (With b) s)) (extends_given which text _ _ (fused_extends q a _ s) is))
step_keeps_value p which text q s new is (PutsGroup names group grown after) = subst (λ (t : ScheduleTree). IsGiven which text (apply_schedule_of q t)) after is

given_has : (which : Setting) (text : List ℕ) (c d : ApplySchedule) → given which text c ≡ Ok d → IsGiven which text d
given_has setting.Direction text c d e =
    let from = and_then_from _ _ d e in
    let new = given_is_new _ _ _ from.1 in
    subst (IsGiven setting.Direction text) from.2 (new.0, new.1, new.2)
given_has setting.Parallelization text c d e =
    let from = and_then_from _ _ d e in
    let new = given_is_new _ _ _ from.1 in
    subst (IsGiven setting.Parallelization text) from.2 (new.0, new.1, new.2)
given_has setting.DenseVertexSet text c d e =
    let from = and_then_from _ _ d e in
    let new = given_is_new _ _ _ from.1 in
    subst (IsGiven setting.DenseVertexSet text) from.2 (new.0, new.1, new.2)
given_has setting.FuseFunctions text c d e = cc
given_has setting.FuseFields text c d e = cc

on_has : (which : Setting) (text : List ℕ) (s new : ScheduleTree) (label : ℕ) (apply : Option StatementApply) → value_on which text s label apply ≡ Ok new
    → IsGiven which text (apply_schedule_of label new)
on_has which text s new label (Some (Edges ends function name)) e =
    let from = and_then_from _ _ new e in
    subst (λ (t : ScheduleTree). IsGiven which text (apply_schedule_of label t)) from.2
    (subst (IsGiven which text) (sym (apply_schedule_here label from.0 s)) (given_has which text (apply_schedule_of label s) from.0 from.1))
on_has which text s new label (Some (Vertices set function)) e = cc
on_has which text s new label None e = cc

at_has : (p : ProgramTree) (which : Setting) (text : List ℕ) (s new : ScheduleTree) (label : Option ℕ) → value_at p which text s label ≡ Ok new → IsGivenTo new which text label
at_has p which text s new None e = cc
at_has p which text s new (Some label) e = on_has which text s new label (apply_at p label) e

two_has : (p : ProgramTree) (which : Setting) (two : Option (List ℕ × List ℕ)) (s new : ScheduleTree) → value_of_two p which two s ≡ Ok new → IsGivenByTwo p new which two
two_has p which None s new e = cc
two_has p which (Some (name, text)) s new e = at_has p which text s new (label_index p name) e

call_has : (p : ProgramTree) (which : Setting) (two : Option (List ℕ × List ℕ)) (s end : ScheduleTree)
    → ((text : List ℕ) (label : ℕ) → IsGiven which text (apply_schedule_of label s) → IsGiven which text (apply_schedule_of label end)) → IsGivenByTwo p s which two → IsGivenByTwo p end which two
call_has p which None s end stays is = is
call_has p which (Some (name, text)) s end stays is = at (label_index p name) is
  where
    at : (label : Option ℕ) → IsGivenTo s which text label → IsGivenTo end which text label
    at None is = is
    at (Some label) is = stays text label is

kept_to_end : (p : ProgramTree) (calls : List ScheduleCallTree) (s end : ScheduleTree) → with_calls p calls s ≡ Ok end
    → (which : Setting) (text : List ℕ) (label : ℕ) → IsGiven which text (apply_schedule_of label s) → IsGiven which text (apply_schedule_of label end)
kept_to_end p calls s end e which text label is =
    kept_by_calls p (λ t. IsGiven which text (apply_schedule_of label t)) (step_keeps_value p which text label) calls s end is e

nothing_to : (s : ScheduleTree) (text : List ℕ) (label : Option ℕ) → IsGivenTo s setting.FuseFunctions text label × IsGivenTo s setting.FuseFields text label
nothing_to s text None = (tt, tt)
nothing_to s text (Some label) = (tt, tt)

nothing_by_fusing : (p : ProgramTree) (s : ScheduleTree) (two : Option (List ℕ × List ℕ)) → IsGivenByTwo p s setting.FuseFunctions two
nothing_by_fusing p s None = tt
nothing_by_fusing p s (Some (name, text)) = (nothing_to s text (label_index p name)).0

nothing_by_fields : (p : ProgramTree) (s : ScheduleTree) (two : Option (List ℕ × List ℕ)) → IsGivenByTwo p s setting.FuseFields two
nothing_by_fields p s None = tt
nothing_by_fields p s (Some (name, text)) = (nothing_to s text (label_index p name)).1

pub made : (p : ProgramTree) (which : Setting) (arguments : List (List ℕ)) (s new : ScheduleTree) → with_call_of p which arguments s ≡ Ok new
    → IsGivenByTwo p new which (two_of arguments)
made p setting.Direction arguments s new e = two_has p setting.Direction (two_of arguments) s new e
made p setting.Parallelization arguments s new e = two_has p setting.Parallelization (two_of arguments) s new e
made p setting.DenseVertexSet arguments s new e = two_has p setting.DenseVertexSet (two_of arguments) s new e
made p setting.FuseFunctions arguments s new e = nothing_by_fusing p new (two_of arguments)
made p setting.FuseFields arguments s new e = nothing_by_fields p new (two_of arguments)

calls_have : (p : ProgramTree) (calls : List ScheduleCallTree) (s end : ScheduleTree) → with_calls p calls s ≡ Ok end → HasValues p end calls
calls_have p [] s end e = tt
calls_have p (call ∷ calls) s end e = go (with_call p call s) refl (λ new after. calls_have p calls new end after) e
  where
    go : (r : Result ScheduleTree ScheduleRule) → with_call p call s ≡ r → ((new : ScheduleTree) → with_calls p calls new ≡ Ok end → HasValues p end calls)
        → after_call call.at r (λ new. with_calls p calls new) ≡ Ok end → HasValues p end (call ∷ calls)
    go (Ok new) is others e =
        (call_has p call.setting (two_of call.arguments) new end (kept_to_end p calls new end e call.setting) (made p call.setting call.arguments s new is), others new e)
    go (Err r) is others e = cc

pub accepted_has_values : (p : ProgramTree) (s : ScheduleTree) → schedule_of p ≡ Ok s → HasValues p s p.schedule
accepted_has_values p s e = calls_have p p.schedule empty_schedule s e
