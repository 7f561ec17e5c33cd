-- Values that no call gave, and calls on one label.
use Rattle.std.proofs.Common.{◌≡◌, refl, ap, subst, sym, ◌∙◌, ℕ, Bool, true, false, nat_eq, nat_lt, length, List, [], ◌∷◌}
use Rattle.std.proofs.lemmas.Bool.{eqb-true}
use Rattle.std.specs.List.{concat}
use Rattle.std.specs.Prelude.{Option, Some, None, Result, Ok, Err}
use Rattle.apply_options.specs.declared.setting.Setting.{Setting}
use Rattle.apply_options.specs.declared.setting.Setting.TheVariants as setting
use Rattle.typed_tree.specs.ProgramTree.{ProgramTree, ScheduleCallTree}
use Rattle.apply_options.specs.declared.apply_schedule.ApplySchedule.{ApplySchedule}
use Rattle.apply_options.specs.declared.apply_schedule.Fused.{Fused}
use Rattle.apply_options.specs.declared.apply_schedule.Fused.TheVariants.{With, Into}
use Rattle.schedule.specs.declared.error.ScheduleRule.{ScheduleRule}
use Rattle.schedule.specs.declared.error.ScheduleRule.TheVariants as rule
use Rattle.typed_tree.specs.declared.apply.StatementApply.{StatementApply}
use Rattle.typed_tree.specs.declared.apply.StatementApply.TheVariants.{Vertices, Edges}
use Rattle.schedule.specs.Calls.{after_call, apply_at, fuse_at, fuse_or, fusing_fault, fusing_of_two, given, grown, schedule_of, two_of, value_at, value_of_two, value_on, with_call, with_call_of}
use Rattle.schedule.specs.Calls.{with_calls, with_fields, with_group}
use Rattle.schedule.specs.Laws.{AreOnceOnLabels, HasDefault, HasDefaults, IsConfig, IsGiven, IsGivenByTwo, IsGivenTo, IsOnLabel, NoneIsOnLabel}
use Rattle.schedule.specs.Schedule.{label_index, empty_schedule, with_apply_schedule, with_fused}
use Rattle.apply_options.specs.ScheduleTree.{ScheduleTree, apply_schedule_of, fused_as}
use Rattle.schedule.proofs.CallSteps.{call_step, ok_is}
use Rattle.schedule.proofs.ApplySchedules.{apply_schedule_elsewhere, apply_schedule_here}
use Rattle.schedule.proofs.Values.{and_then_from, given_is_new, made, step_keeps_value}

-- a value of one kind leaves those of the others
given_leaves : (k which : Setting) (text : List ℕ) (c d : ApplySchedule) → given k text c ≡ Ok d → (k ≡ which → ⊥) → HasDefault which c → HasDefault which d
given_leaves setting.Direction setting.Direction text c d e other none = absurd (other refl)
given_leaves setting.Direction setting.Parallelization text c d e other none = subst (λ (x : ApplySchedule). x.parallelization ≡ None) (and_then_from _ _ d e).2 none
given_leaves setting.Direction setting.DenseVertexSet text c d e other none = subst (λ (x : ApplySchedule). x.dense_vertex_set ≡ None) (and_then_from _ _ d e).2 none
given_leaves setting.Parallelization setting.Direction text c d e other none = subst (λ (x : ApplySchedule). x.direction ≡ None) (and_then_from _ _ d e).2 none
given_leaves setting.Parallelization setting.Parallelization text c d e other none = absurd (other refl)
given_leaves setting.Parallelization setting.DenseVertexSet text c d e other none = subst (λ (x : ApplySchedule). x.dense_vertex_set ≡ None) (and_then_from _ _ d e).2 none
given_leaves setting.DenseVertexSet setting.Direction text c d e other none = subst (λ (x : ApplySchedule). x.direction ≡ None) (and_then_from _ _ d e).2 none
given_leaves setting.DenseVertexSet setting.Parallelization text c d e other none = subst (λ (x : ApplySchedule). x.parallelization ≡ None) (and_then_from _ _ d e).2 none
given_leaves setting.DenseVertexSet setting.DenseVertexSet text c d e other none = absurd (other refl)
given_leaves setting.FuseFunctions which text c d e other none = cc
given_leaves setting.FuseFields which text c d e other none = cc
given_leaves k setting.FuseFunctions text c d e other none = tt
given_leaves k setting.FuseFields text c d e other none = tt

-- where a label had none of a kind it has none after a call that is not of that kind on it
put_leaves : (which : Setting) (q label : ℕ) (c : ApplySchedule) (s : ScheduleTree) → (q ≡ label → HasDefault which c) → HasDefault which (apply_schedule_of q s)
    → HasDefault which (apply_schedule_of q (with_apply_schedule label c s))
put_leaves which q label c s here none = go (nat_eq q label) refl
  where
    go : (same : Bool) → nat_eq q label ≡ same → HasDefault which (apply_schedule_of q (with_apply_schedule label c s))
    go true t =
        let is = eqb-true q label t in
        subst (λ (l : ℕ). HasDefault which (apply_schedule_of l (with_apply_schedule label c s))) (sym is) (subst (HasDefault which) (sym (apply_schedule_here label c s)) (here is))
    go false t = subst (HasDefault which) (sym (apply_schedule_elsewhere q label c s t)) none

-- what a `config` call that breaks no rule is
record IsValueOf (p : ProgramTree) (which : Setting) (two : Option (List ℕ × List ℕ)) (s new : ScheduleTree) : Type 0 where
  name : List ℕ
  text : List ℕ
  label : ℕ
  apply_schedule : ApplySchedule
  arguments : two ≡ Some (name, text)
  named : label_index p name ≡ Some label
  gives : given which text (apply_schedule_of label s) ≡ Ok apply_schedule
  after : with_apply_schedule label apply_schedule s ≡ new

value_from : (p : ProgramTree) (which : Setting) (two : Option (List ℕ × List ℕ)) (s new : ScheduleTree) → value_of_two p which two s ≡ Ok new → IsValueOf p which two s new
value_from p which None s new e = cc
value_from p which (Some (name, text)) s new e = at (label_index p name) refl e
  where
    on : (label : ℕ) (apply : Option StatementApply) → label_index p name ≡ Some label → value_on which text s label apply ≡ Ok new → IsValueOf p which (Some (name, text)) s new
    on label (Some (Edges ends function r)) named e =
        let from = and_then_from _ _ new e in
        record { name = name; text = text; label = label; apply_schedule = from.0; arguments = refl; named = named; gives = from.1; after = from.2 }
    on label (Some (Vertices set function)) named e = cc
    on label None named e = cc

    at : (l : Option ℕ) → label_index p name ≡ l → value_at p which text s l ≡ Ok new → IsValueOf p which (Some (name, text)) s new
    at None named e = cc
    at (Some label) named e = on label (apply_at p label) named e

-- a `config` call leaves the defaults of other labels and of other kinds
value_leaves : (p : ProgramTree) (k which : Setting) (two : Option (List ℕ × List ℕ)) (q : ℕ) (s new : ScheduleTree)
    → ((name text : List ℕ) → k ≡ which → two ≡ Some (name, text) → label_index p name ≡ Some q → ⊥)
    → HasDefault which (apply_schedule_of q s) → value_of_two p k two s ≡ Ok new → HasDefault which (apply_schedule_of q new)
value_leaves p k which two q s new other none e =
    let is = value_from p k two s new e in
    subst (λ (t : ScheduleTree). HasDefault which (apply_schedule_of q t)) is.after
    (put_leaves which q is.label is.apply_schedule s
    (λ same. given_leaves k which is.text (apply_schedule_of is.label s) is.apply_schedule is.gives
    (λ kind. other is.name is.text kind is.arguments (is.named ∙ ap Some (sym same)))
    (subst (λ l. HasDefault which (apply_schedule_of l s)) same none)) none)

fused_leaves : (which : Setting) (fused : Fused) (c : ApplySchedule) → HasDefault which c → HasDefault which (fused_as fused c)
fused_leaves setting.Direction fused c none = none
fused_leaves setting.Parallelization fused c none = none
fused_leaves setting.DenseVertexSet fused c none = none
fused_leaves setting.FuseFunctions fused c none = tt
fused_leaves setting.FuseFields fused c none = tt

with_fused_leaves : (which : Setting) (q label : ℕ) (fused : Fused) (s : ScheduleTree) → HasDefault which (apply_schedule_of q s) → HasDefault which (apply_schedule_of q (with_fused label fused s))
with_fused_leaves which q label fused s none =
    put_leaves which q label (fused_as fused (apply_schedule_of label s)) s
    (λ same. fused_leaves which fused (apply_schedule_of label s) (subst (λ l. HasDefault which (apply_schedule_of l s)) same none)) none

fusing_leaves : (p : ProgramTree) (which : Setting) (two : Option (List ℕ × List ℕ)) (q : ℕ) (s new : ScheduleTree)
    → HasDefault which (apply_schedule_of q s) → fusing_of_two p two s ≡ Ok new → HasDefault which (apply_schedule_of q new)
fusing_leaves p which None q s new none e = cc
fusing_leaves p which (Some (one, other)) q s new none e = at (label_index p one) (label_index p other) e
  where
    or : (first second : ℕ) (fault : Option ScheduleRule) → fuse_or fault first second s ≡ Ok new → HasDefault which (apply_schedule_of q new)
    or first second (Some r) e = cc
    or first second None e =
        subst (λ (t : ScheduleTree). HasDefault which (apply_schedule_of q t)) (ok_is _ _ _ refl e)
        (with_fused_leaves which q second (Into first) (with_fused first (With second) s) (with_fused_leaves which q first (With second) s none))

    at : (first second : Option ℕ) → fuse_at p s first second ≡ Ok new → HasDefault which (apply_schedule_of q new)
    at (Some first) (Some second) e = or first second (fusing_fault p s first second) e
    at (Some first) None e = cc
    at None second e = cc

fields_leave : (p : ProgramTree) (which : Setting) (names : List (List ℕ)) (q : ℕ) (s new : ScheduleTree)
    → HasDefault which (apply_schedule_of q s) → with_fields p names s ≡ Ok new → HasDefault which (apply_schedule_of q new)
fields_leave p which names q s new none e = few (nat_lt (length names) 2) refl
  where
    group : (g : Option (List ℕ)) → with_group g s ≡ Ok new → HasDefault which (apply_schedule_of q new)
    group None e = cc
    group (Some g) e = subst (λ (t : ScheduleTree). HasDefault which (apply_schedule_of q t)) (ok_is _ _ _ refl e) none

    few : (is : Bool) → nat_lt (length names) 2 ≡ is → HasDefault which (apply_schedule_of q new)
    few true is = let bad : Err rule.BadFields ≡ Ok new = rw is at e in cc
    few false is = group (grown p (concat s.groups) [] names) (rw is at e)

call_leaves : (p : ProgramTree) (k which : Setting) (arguments : List (List ℕ)) (q : ℕ) (s new : ScheduleTree)
    → ((name text : List ℕ) → k ≡ which → two_of arguments ≡ Some (name, text) → label_index p name ≡ Some q → ⊥)
    → HasDefault which (apply_schedule_of q s) → with_call_of p k arguments s ≡ Ok new → HasDefault which (apply_schedule_of q new)
call_leaves p setting.Direction which arguments q s new other none e = value_leaves p setting.Direction which (two_of arguments) q s new other none e
call_leaves p setting.Parallelization which arguments q s new other none e = value_leaves p setting.Parallelization which (two_of arguments) q s new other none e
call_leaves p setting.DenseVertexSet which arguments q s new other none e = value_leaves p setting.DenseVertexSet which (two_of arguments) q s new other none e
call_leaves p setting.FuseFunctions which arguments q s new other none e = fusing_leaves p which (two_of arguments) q s new none e
call_leaves p setting.FuseFields which arguments q s new other none e = fields_leave p which arguments q s new none e

calls_leave : (p : ProgramTree) (which : Setting) (q : ℕ) (calls : List ScheduleCallTree) (s end : ScheduleTree) → NoneIsOnLabel p which q calls
    → HasDefault which (apply_schedule_of q s) → with_calls p calls s ≡ Ok end → HasDefault which (apply_schedule_of q end)
calls_leave p which q [] s end others none e = subst (λ (t : ScheduleTree). HasDefault which (apply_schedule_of q t)) (ok_is _ _ _ refl e) none
calls_leave p which q (call ∷ calls) s end (other, others) none e =
    go (with_call p call s) refl (λ new before. calls_leave p which q calls new end others before) e
  where
    go : (r : Result ScheduleTree ScheduleRule) → with_call p call s ≡ r
        → ((new : ScheduleTree) → HasDefault which (apply_schedule_of q new) → with_calls p calls new ≡ Ok end → HasDefault which (apply_schedule_of q end))
        → after_call call.at r (λ new. with_calls p calls new) ≡ Ok end → HasDefault which (apply_schedule_of q end)
    go (Ok new) is rest e =
        rest new (call_leaves p call.setting which call.arguments q s new
        (λ name text kind arguments named. other (record { name = name; text = text; kind = kind; arguments = arguments; named = named })) none is) e
    go (Err r) is rest e = cc

nothing_given : (which : Setting) (q : ℕ) → HasDefault which (apply_schedule_of q empty_schedule)
nothing_given setting.Direction q = refl
nothing_given setting.Parallelization q = refl
nothing_given setting.DenseVertexSet q = refl
nothing_given setting.FuseFunctions q = tt
nothing_given setting.FuseFields q = tt

pub accepted_has_defaults : (p : ProgramTree) (s : ScheduleTree) → schedule_of p ≡ Ok s → HasDefaults p s
accepted_has_defaults p s e which label others = calls_leave p which label p.schedule empty_schedule s others (nothing_given which label) e

given_twice : (which : Setting) (text other : List ℕ) (c d : ApplySchedule) → IsConfig which → IsGiven which text c → given which other c ≡ Ok d → ⊥
given_twice setting.Direction text other c d config is e =
    let new = given_is_new _ _ _ (and_then_from _ _ d e).1 in
    let bad : None ≡ Some is.0 = sym new.3 ∙ is.2 in
    cc
given_twice setting.Parallelization text other c d config is e =
    let new = given_is_new _ _ _ (and_then_from _ _ d e).1 in
    let bad : None ≡ Some is.0 = sym new.3 ∙ is.2 in
    cc
given_twice setting.DenseVertexSet text other c d config is e =
    let new = given_is_new _ _ _ (and_then_from _ _ d e).1 in
    let bad : None ≡ Some is.0 = sym new.3 ∙ is.2 in
    cc
given_twice setting.FuseFunctions text other c d config is e = absurd config
given_twice setting.FuseFields text other c d config is e = absurd config

by_two : (p : ProgramTree) (which : Setting) (arguments : List (List ℕ)) (s : ScheduleTree) → IsConfig which → with_call_of p which arguments s ≡ value_of_two p which (two_of arguments) s
by_two p setting.Direction arguments s config = refl
by_two p setting.Parallelization arguments s config = refl
by_two p setting.DenseVertexSet arguments s config = refl
by_two p setting.FuseFunctions arguments s config = absurd config
by_two p setting.FuseFields arguments s config = absurd config

first_is : {A B : Type 0} (a c : A) (b d : B) → ◌≡◌ {A = Option (A × B)} (Some (a, b)) (Some (c, d)) → a ≡ c
first_is {A} {B} a c b d e =
    let pair : ◌≡◌ {A = A × B} (a, b) (c, d) = cc in
    ap (λ (x : A × B). x.0) pair

some_is : {A : Type 0} (a b : A) → Some a ≡ Some b → a ≡ b
some_is a b e = cc

value_twice : (p : ProgramTree) (which : Setting) (text : List ℕ) (label : ℕ) (two : Option (List ℕ × List ℕ)) (s new : ScheduleTree) (name other : List ℕ) → IsConfig which
    → IsGiven which text (apply_schedule_of label s) → two ≡ Some (name, other) → label_index p name ≡ Some label → IsValueOf p which two s new → ⊥
value_twice p which text label two s new name other config has arguments named is =
    let names = first_is name is.name other is.text (sym arguments ∙ is.arguments) in
    let labels = some_is label is.label (sym named ∙ ap (label_index p) names ∙ is.named) in
    given_twice which text is.text (apply_schedule_of is.label s) is.apply_schedule config (subst (λ l. IsGiven which text (apply_schedule_of l s)) labels has) is.gives

-- a call on a label that has a value of its kind is refused
refused_again : (p : ProgramTree) (which : Setting) (text : List ℕ) (label : ℕ) (call : ScheduleCallTree) (s new : ScheduleTree) → IsConfig which
    → IsGiven which text (apply_schedule_of label s) → with_call p call s ≡ Ok new → IsOnLabel p which label call → ⊥
refused_again p which text label call s new config has e on =
    let same : with_call_of p which call.arguments s ≡ Ok new = subst (λ k. with_call_of p k call.arguments s ≡ Ok new) on.kind e in
    value_twice p which text label (two_of call.arguments) s new on.name on.text config has on.arguments on.named
    (value_from p which (two_of call.arguments) s new (sym (by_two p which call.arguments s config) ∙ same))

none_again : (p : ProgramTree) (which : Setting) (text : List ℕ) (label : ℕ) (calls : List ScheduleCallTree) (s end : ScheduleTree) → IsConfig which
    → IsGiven which text (apply_schedule_of label s) → with_calls p calls s ≡ Ok end → NoneIsOnLabel p which label calls
none_again p which text label [] s end config has e = tt
none_again p which text label (call ∷ calls) s end config has e =
    go (with_call p call s) refl (λ new before. none_again p which text label calls new end config before) e
  where
    go : (r : Result ScheduleTree ScheduleRule) → with_call p call s ≡ r
        → ((new : ScheduleTree) → IsGiven which text (apply_schedule_of label new) → with_calls p calls new ≡ Ok end → NoneIsOnLabel p which label calls)
        → after_call call.at r (λ new. with_calls p calls new) ≡ Ok end → NoneIsOnLabel p which label (call ∷ calls)
    go (Ok new) is rest e = (
      refused_again p which text label call s new config has is,
      rest new (step_keeps_value p which text label s new has (call_step p call.setting call.arguments s new is)) e,
    )
    go (Err r) is rest e = cc

given_to : (p : ProgramTree) (which : Setting) (label : ℕ) (call : ScheduleCallTree) (new : ScheduleTree) (on : IsOnLabel p which label call)
    → IsGivenByTwo p new call.setting (two_of call.arguments) → IsGiven which on.text (apply_schedule_of label new)
given_to p which label call new on is =
    subst (IsGivenTo new which on.text) on.named
    (subst (IsGivenByTwo p new which) on.arguments (subst (λ k. IsGivenByTwo p new k (two_of call.arguments)) on.kind is))

once : (p : ProgramTree) (calls : List ScheduleCallTree) (s end : ScheduleTree) → with_calls p calls s ≡ Ok end → AreOnceOnLabels p calls
once p [] s end e = tt
once p (call ∷ calls) s end e = go (with_call p call s) refl (λ new after. once p calls new end after) e
  where
    go : (r : Result ScheduleTree ScheduleRule) → with_call p call s ≡ r → ((new : ScheduleTree) → with_calls p calls new ≡ Ok end → AreOnceOnLabels p calls)
        → after_call call.at r (λ new. with_calls p calls new) ≡ Ok end → AreOnceOnLabels p (call ∷ calls)
    go (Ok new) is rest e = (
      λ which label config on. none_again p which on.text label calls new end config (given_to p which label call new on (made p call.setting call.arguments s new is)) e,
      rest new e,
    )
    go (Err r) is rest e = cc

pub accepted_are_once : (p : ProgramTree) (s : ScheduleTree) → schedule_of p ≡ Ok s → AreOnceOnLabels p p.schedule
accepted_are_once p s e = once p p.schedule empty_schedule s e
