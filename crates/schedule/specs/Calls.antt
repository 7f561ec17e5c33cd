-- The calls of a schedule, and their result, one after the other.
use Rattle.std.specs.Prelude.{◌≡◌, ℕ, Bool, false, not, ◌||◌, nat_eq, nat_lt, List, [], ◌∷◌, ◌++◌, length, Option, Some, None, Result, Ok, Err, if◌then◌else◌}
use Rattle.std.specs.List.{concat, list_any}
use Rattle.apply_options.specs.declared.setting.Setting.{Setting}
use Rattle.apply_options.specs.declared.setting.Setting.TheVariants as setting
use Rattle.typed_tree.specs.ProgramTree.{ProgramTree, ScheduleCallTree}
use Rattle.apply_options.specs.declared.apply_schedule.ApplySchedule.{ApplySchedule}
use Rattle.apply_options.specs.declared.apply_schedule.Fused.TheVariants.{With, Into}
use Rattle.schedule.specs.declared.error.ScheduleRule.{ScheduleRule}
use Rattle.schedule.specs.declared.error.ScheduleRule.TheVariants as rule
use Rattle.schedule.specs.declared.error.ScheduleError.{ScheduleError}
use Rattle.schedule.specs.declared.error.ScheduleError.TheVariants.{Faulty, NoMemory}
use Rattle.typed_tree.specs.declared.apply.StatementApply.{StatementApply}
use Rattle.typed_tree.specs.declared.apply.StatementApply.TheVariants.{Vertices, Edges}
use Rattle.schedule.specs.declared.site.Site.{Site}
use Rattle.schedule.specs.Schedule.{label_index, vector_by_name, with_apply_schedule, with_fused, with_one_group, is_fused, empty_schedule, site_of}
use Rattle.schedule.specs.Schedule.{direction_of, parallelization_of, dense_vertex_set_of}
use Rattle.typed_tree.specs.Independence.{have_same_sets, are_independent}
use Rattle.apply_options.specs.ScheduleTree.{ScheduleTree, apply_schedule_of}

-- a value, which is in its table, where none was given before
abbrev pub first_given : {V : Type 0} → Option V → Option V → Result (Option V) ScheduleRule
first_given before None = Err rule.BadArgument
first_given None (Some value) = Ok (Some value)
first_given (Some other) (Some value) = Err rule.GivenTwice

abbrev pub and_then : {A B : Type 0} → Result A ScheduleRule → (A → B) → Result B ScheduleRule
and_then (Ok a) f = Ok (f a)
and_then (Err r) f = Err r

-- a label's apply schedule with the value of a `config` call, or the rule that is broken
abbrev pub given : Setting → List ℕ → ApplySchedule → Result ApplySchedule ScheduleRule
given setting.Direction text c =
    and_then (first_given c.direction (direction_of text)) λ value.
    record { direction = value; parallelization = c.parallelization; dense_vertex_set = c.dense_vertex_set; fused = c.fused }
given setting.Parallelization text c =
    and_then (first_given c.parallelization (parallelization_of text)) λ value.
    record { direction = c.direction; parallelization = value; dense_vertex_set = c.dense_vertex_set; fused = c.fused }
given setting.DenseVertexSet text c =
    and_then (first_given c.dense_vertex_set (dense_vertex_set_of text)) λ value.
    record { direction = c.direction; parallelization = c.parallelization; dense_vertex_set = value; fused = c.fused }
given setting.FuseFunctions text c = Err rule.BadArgument
given setting.FuseFields text c = Err rule.BadArgument

abbrev pub apply_in : Option Site → Option StatementApply
apply_in None = None
apply_in (Some site) = site.apply

-- what the statement with a label applies
abbrev pub apply_at : ProgramTree → ℕ → Option StatementApply
apply_at p label = apply_in (site_of label p.main)

-- a `config` call on what a label is before
abbrev pub value_on : Setting → List ℕ → ScheduleTree → ℕ → Option StatementApply → Result ScheduleTree ScheduleRule
value_on setting text s label (Some (Edges ends function name)) = and_then (given setting text (apply_schedule_of label s)) λ c. with_apply_schedule label c s
value_on setting text s label (Some (Vertices set function)) = Err rule.NoApply
value_on setting text s label None = Err rule.NoApply

abbrev pub value_at : ProgramTree → Setting → List ℕ → ScheduleTree → Option ℕ → Result ScheduleTree ScheduleRule
value_at p setting text s None = Err rule.UnknownLabel
value_at p setting text s (Some label) = value_on setting text s label (apply_at p label)

-- the arguments where they are two
abbrev pub two_of : List (List ℕ) → Option (List ℕ × List ℕ)
two_of (first ∷ second ∷ []) = Some (first, second)
two_of _ = None

-- a `config` call
abbrev pub value_of_two : ProgramTree → Setting → Option (List ℕ × List ℕ) → ScheduleTree → Result ScheduleTree ScheduleRule
value_of_two p setting (Some (label, text)) s = value_at p setting text s (label_index p label)
value_of_two p setting None s = Err rule.BadArgument

abbrev pub with_setting_value : ProgramTree → Setting → List (List ℕ) → ScheduleTree → Result ScheduleTree ScheduleRule
with_setting_value p setting arguments s = value_of_two p setting (two_of arguments) s

-- the statement right after that with the first label, in its block, has the second
abbrev pub is_label : Option ℕ → ℕ → Bool
is_label None label = false
is_label (Some l) label = nat_eq l label

abbrev pub is_next : Option Site → ℕ → Bool
is_next None label = false
is_next (Some site) label = is_label site.next label

abbrev pub is_followed_by : ProgramTree → ℕ → ℕ → Bool
is_followed_by p first second = is_next (site_of first p.main) second

-- the rule that a fusing of two labels breaks
abbrev pub fusing_fault_of : ProgramTree → ScheduleTree → ℕ → ℕ → Option StatementApply → Option StatementApply → Option ScheduleRule
fusing_fault_of p s first second (Some a) (Some b) =
    if nat_eq first second || (is_fused first s || is_fused second s) then Some rule.GivenTwice else
    if not (is_followed_by p first second) then Some rule.NotAdjacent else
    if not (have_same_sets p.names a b) then Some rule.DifferentSets else
    if not (are_independent p a b) then Some rule.NotIndependent else None
fusing_fault_of p s first second _ _ = Some rule.NoApply

abbrev pub fusing_fault : ProgramTree → ScheduleTree → ℕ → ℕ → Option ScheduleRule
fusing_fault p s first second = fusing_fault_of p s first second (apply_at p first) (apply_at p second)

-- with two labels fused
abbrev pub fuse_or : Option ScheduleRule → ℕ → ℕ → ScheduleTree → Result ScheduleTree ScheduleRule
fuse_or (Some r) first second s = Err r
fuse_or None first second s = Ok (with_fused second (Into first) (with_fused first (With second) s))

abbrev pub fuse_at : ProgramTree → ScheduleTree → Option ℕ → Option ℕ → Result ScheduleTree ScheduleRule
fuse_at p s (Some first) (Some second) = fuse_or (fusing_fault p s first second) first second s
fuse_at p s _ _ = Err rule.UnknownLabel

-- a call of `fuseApplyFunctions`
abbrev pub fusing_of_two : ProgramTree → Option (List ℕ × List ℕ) → ScheduleTree → Result ScheduleTree ScheduleRule
fusing_of_two p (Some (first, second)) s = fuse_at p s (label_index p first) (label_index p second)
fusing_of_two p None s = Err rule.BadArgument

abbrev pub with_fusing : ProgramTree → List (List ℕ) → ScheduleTree → Result ScheduleTree ScheduleRule
with_fusing p arguments s = fusing_of_two p (two_of arguments) s

-- the vectors of these names after those of the group so far, where each is in no group
abbrev pub grown_by : (taken group : List ℕ) → Option ℕ → (List ℕ → Option (List ℕ)) → Option (List ℕ)
grown_by taken group None rest = None
grown_by taken group (Some v) rest = if list_any (nat_eq v) (taken ++ group) then None else rest (group ++ v ∷ [])

abbrev pub grown : ProgramTree → (taken group : List ℕ) → List (List ℕ) → Option (List ℕ)
grown p taken group [] = Some group
grown p taken group (name ∷ names) = grown_by taken group (vector_by_name p name) λ more. grown p taken more names

abbrev pub with_group : Option (List ℕ) → ScheduleTree → Result ScheduleTree ScheduleRule
with_group None s = Err rule.BadFields
with_group (Some group) s = Ok (with_one_group group s)

-- a call of `fuseFields`
abbrev pub with_fields : ProgramTree → List (List ℕ) → ScheduleTree → Result ScheduleTree ScheduleRule
with_fields p names s =
    if nat_lt (length names) 2 then Err rule.BadFields else with_group (grown p (concat s.groups) [] names) s

-- a call
abbrev pub with_call_of : ProgramTree → Setting → List (List ℕ) → ScheduleTree → Result ScheduleTree ScheduleRule
with_call_of p setting.FuseFunctions arguments s = with_fusing p arguments s
with_call_of p setting.FuseFields arguments s = with_fields p arguments s
with_call_of p which arguments s = with_setting_value p which arguments s

abbrev pub with_call : ProgramTree → ScheduleCallTree → ScheduleTree → Result ScheduleTree ScheduleRule
with_call p call s = with_call_of p call.setting call.arguments s

-- the calls, one after the other; the first that breaks a rule is reported, with its index
abbrev pub after_call : ℕ → Result ScheduleTree ScheduleRule → (ScheduleTree → Result ScheduleTree (ScheduleRule × ℕ)) → Result ScheduleTree (ScheduleRule × ℕ)
after_call at (Ok s) rest = rest s
after_call at (Err r) rest = Err (r, at)

abbrev pub with_calls : ProgramTree → List ScheduleCallTree → ScheduleTree → Result ScheduleTree (ScheduleRule × ℕ)
with_calls p [] s = Ok s
with_calls p (call ∷ calls) s = after_call call.at (with_call p call s) λ new. with_calls p calls new

-- what a program's schedule says, or the rule that its first faulty call breaks
abbrev pub schedule_of : ProgramTree → Result ScheduleTree (ScheduleRule × ℕ)
schedule_of p = with_calls p p.schedule empty_schedule

-- the answer is what the schedule says; nothing is said if memory runs out
abbrev pub Accepts : ProgramTree → Result ScheduleTree ScheduleError → Type 0
Accepts p (Ok s) = schedule_of p ≡ Ok s
Accepts p (Err (Faulty r at)) = schedule_of p ≡ Err (r, at)
Accepts p (Err NoMemory) = Unit {0}
