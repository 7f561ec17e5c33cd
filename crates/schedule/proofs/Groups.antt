-- Groups of an accepted schedule.
use Rattle.std.proofs.Common.{◌≡◌, refl, subst, sym, ℕ, Bool, true, false, nat_eq, List, [], ◌∷◌, ◌++◌}
use Rattle.std.proofs.lemmas.List.{append_assoc, append-nil}
use Rattle.std.proofs.lemmas.Map.Keys.{IsDistinct-push}
use Rattle.std.specs.Cmp.{nat_eq_equiv}
use Rattle.std.specs.List.{concat, list_any, IsDistinct}
use Rattle.std.specs.Prelude.{Option, Some, None, Ok, if◌then◌else◌}
use Rattle.typed_tree.specs.ProgramTree.{ProgramTree}
use Rattle.schedule.specs.Calls.{grown, grown_by, schedule_of}
use Rattle.schedule.specs.Laws.{GroupsAreDistinct}
use Rattle.schedule.specs.Schedule.{vector_by_name, empty_schedule}
use Rattle.apply_options.specs.ScheduleTree.{ScheduleTree}
use Rattle.schedule.proofs.CallSteps.{Step, GivesValue, Fuses, PutsGroup, kept_by_calls}
use Rattle.schedule.proofs.Indices.{concat_last}

some_is : (o : Option (List ℕ)) (a b : List ℕ) → o ≡ Some a → o ≡ Some b → a ≡ b
some_is o a b is e = cc

-- a group that grows after what is taken stays distinct from it
grown_is_distinct : (p : ProgramTree) (taken group end : List ℕ) (names : List (List ℕ))
    → IsDistinct nat_eq (taken ++ group) → grown p taken group names ≡ Some end → IsDistinct nat_eq (taken ++ end)
grown_is_distinct p taken group end [] distinct e = subst (λ (g : List ℕ). IsDistinct nat_eq (taken ++ g)) (some_is _ _ _ refl e) distinct
grown_is_distinct p taken group end (name ∷ names) distinct e =
    at_index (vector_by_name p name) (λ more before. grown_is_distinct p taken more end names before) e
  where
    untaken : (v : ℕ) (any : Bool) → list_any (nat_eq v) (taken ++ group) ≡ any
        → ((more : List ℕ) → IsDistinct nat_eq (taken ++ more) → grown p taken more names ≡ Some end → IsDistinct nat_eq (taken ++ end))
        → (if any then None else grown p taken (group ++ v ∷ []) names) ≡ Some end → IsDistinct nat_eq (taken ++ end)
    untaken v true is others e = cc
    untaken v false is others e =
        others (group ++ v ∷ []) (subst (IsDistinct nat_eq) (append_assoc taken group (v ∷ [])) (IsDistinct-push nat_eq_equiv (taken ++ group) v distinct is)) e

    at_index : (index : Option ℕ)
        → ((more : List ℕ) → IsDistinct nat_eq (taken ++ more) → grown p taken more names ≡ Some end → IsDistinct nat_eq (taken ++ end))
        → grown_by taken group index (λ more. grown p taken more names) ≡ Some end → IsDistinct nat_eq (taken ++ end)
    at_index None others e = cc
    at_index (Some v) others e = untaken v (list_any (nat_eq v) (taken ++ group)) refl others e

step_keeps_distinct : (p : ProgramTree) (s new : ScheduleTree) → GroupsAreDistinct s → Step p s new → GroupsAreDistinct new
step_keeps_distinct p s new old (GivesValue setting text label c is after) = subst GroupsAreDistinct after old
step_keeps_distinct p s new old (Fuses a b none after) = subst GroupsAreDistinct after old
step_keeps_distinct p s new old (PutsGroup names group is after) =
    let before : IsDistinct nat_eq (concat s.groups ++ []) = subst (IsDistinct nat_eq) (sym (append-nil (concat s.groups))) old in
    subst GroupsAreDistinct after
    (subst (IsDistinct nat_eq) (sym (concat_last s.groups group)) (grown_is_distinct p (concat s.groups) [] group names before is))

pub accepted_groups_are_distinct : (p : ProgramTree) (s : ScheduleTree) → schedule_of p ≡ Ok s → GroupsAreDistinct s
unfolding IsDistinct
accepted_groups_are_distinct p s e = kept_by_calls p GroupsAreDistinct (step_keeps_distinct p) p.schedule empty_schedule s tt e
