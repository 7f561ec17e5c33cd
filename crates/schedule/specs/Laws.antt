-- Laws of accepted schedules: what holds of each.
use Rattle.std.specs.Prelude.{◌≡◌, ℕ, true, false, nat_eq, Some, List, [], ◌∷◌, Option, None}
use Rattle.std.specs.List.{concat, Contains, IsDistinct}
use Rattle.apply_options.specs.declared.setting.Setting.{Setting}
use Rattle.apply_options.specs.declared.setting.Setting.TheVariants as setting
use Rattle.typed_tree.specs.declared.statement.ApplyEnds.{ApplyEnds}
use Rattle.typed_tree.specs.ProgramTree.{ProgramTree, ScheduleCallTree}
use Rattle.apply_options.specs.declared.apply_schedule.ApplySchedule.{ApplySchedule}
use Rattle.apply_options.specs.declared.apply_schedule.Direction.{Direction}
use Rattle.apply_options.specs.declared.apply_schedule.Parallelization.{Parallelization}
use Rattle.apply_options.specs.declared.apply_schedule.DenseVertexSet.{DenseVertexSet}
use Rattle.apply_options.specs.declared.apply_schedule.Fused.TheVariants.{With, Into}
use Rattle.typed_tree.specs.declared.apply.StatementApply.{StatementApply}
use Rattle.typed_tree.specs.declared.apply.StatementApply.TheVariants.{Edges}
use Rattle.schedule.specs.Calls.{apply_at, is_followed_by, two_of}
use Rattle.schedule.specs.Schedule.{label_index, direction_of, parallelization_of, dense_vertex_set_of}
use Rattle.typed_tree.specs.Independence.{end_reads, function_uses, function_writes, have_same_sets, is_end_of_name}
use Rattle.apply_options.specs.ScheduleTree.{ScheduleTree, apply_schedule_of}

-- No vector that the first of two edge applies writes is read or written by the second, or read by a filter of its ends,
-- and no end of the second is the set that the first one's changes go to. Two vertex applies are done vertex by vertex.
pub record SharesNoVector (p : ProgramTree) (f : ℕ) (r : Option ℕ) (b : ApplyEnds) (g : ℕ) : Type 0 where
  pub function : (v : ℕ) → Contains (function_uses p.edge_functions g) v → Contains (function_writes p.edge_functions f) v → ⊥
  pub sources : (v : ℕ) → Contains (end_reads p.filters b.from) v → Contains (function_writes p.edge_functions f) v → ⊥
  pub destinations : (v : ℕ) → Contains (end_reads p.filters b.to) v → Contains (function_writes p.edge_functions f) v → ⊥
  pub changes_of_sources : is_end_of_name p.names r b.from ≡ false
  pub changes_of_destinations : is_end_of_name p.names r b.to ≡ false

abbrev pub IsIndependent : ProgramTree → StatementApply → StatementApply → Type 0
IsIndependent p (Edges a f r) (Edges b g s) = SharesNoVector p f r b g
IsIndependent p _ _ = Unit {0}

-- the second of two fused statements is right after the first in one block; both apply to vertices or both to
-- edges, of the same sets and filters; and edge applies are independent
pub record IsFusedWell (p : ProgramTree) (first second : ℕ) : Type 0 where
  pub one : StatementApply
  pub other : StatementApply
  pub first_applies : apply_at p first ≡ Some one
  pub second_applies : apply_at p second ≡ Some other
  pub next_in_block : is_followed_by p first second ≡ true
  pub same_sets : have_same_sets p.names one other ≡ true
  pub independent : IsIndependent p one other

abbrev pub FusesWell : ProgramTree → ScheduleTree → Type 0
FusesWell p s = (first second : ℕ) → (apply_schedule_of first s).fused ≡ Some (With second) → IsFusedWell p first second

-- the first label of a fusing has the second, and the second the first; so no label is in two
abbrev pub FusesInPairs : ScheduleTree → Type 0
FusesInPairs s =
    ((first second : ℕ) → (apply_schedule_of first s).fused ≡ Some (With second) → (apply_schedule_of second s).fused ≡ Some (Into first))
    × ((first second : ℕ) → (apply_schedule_of second s).fused ≡ Some (Into first) → (apply_schedule_of first s).fused ≡ Some (With second))

-- each vector is in one group at most, and there once
abbrev pub GroupsAreDistinct : ScheduleTree → Type 0
GroupsAreDistinct s = IsDistinct nat_eq (concat s.groups)

-- the apply schedule has the value that the text names
abbrev pub IsGiven : Setting → List ℕ → ApplySchedule → Type 0
IsGiven setting.Direction text c = (v : Direction) × (direction_of text ≡ Some v) × (c.direction ≡ Some v)
IsGiven setting.Parallelization text c = (v : Parallelization) × (parallelization_of text ≡ Some v) × (c.parallelization ≡ Some v)
IsGiven setting.DenseVertexSet text c = (v : DenseVertexSet) × (dense_vertex_set_of text ≡ Some v) × (c.dense_vertex_set ≡ Some v)
IsGiven setting.FuseFunctions text c = Unit {0}
IsGiven setting.FuseFields text c = Unit {0}

abbrev pub IsGivenTo : ScheduleTree → Setting → List ℕ → Option ℕ → Type 0
IsGivenTo s which text None = Unit {0}
IsGivenTo s which text (Some label) = IsGiven which text (apply_schedule_of label s)

abbrev pub IsGivenByTwo : ProgramTree → ScheduleTree → Setting → Option (List ℕ × List ℕ) → Type 0
IsGivenByTwo p s which None = Unit {0}
IsGivenByTwo p s which (Some (name, text)) = IsGivenTo s which text (label_index p name)

-- the label of each `config` call has the value of that call
abbrev pub HasValues : ProgramTree → ScheduleTree → List ScheduleCallTree → Type 0
HasValues p s [] = Unit {0}
HasValues p s (call ∷ calls) = IsGivenByTwo p s call.setting (two_of call.arguments) × HasValues p s calls

-- the call is a `config` call of this kind on the label
pub record IsOnLabel (p : ProgramTree) (which : Setting) (label : ℕ) (call : ScheduleCallTree) : Type 0 where
  pub name : List ℕ
  pub text : List ℕ
  pub kind : call.setting ≡ which
  pub arguments : two_of call.arguments ≡ Some (name, text)
  pub named : label_index p name ≡ Some label

-- no call is one of this kind on the label
abbrev pub NoneIsOnLabel : ProgramTree → Setting → ℕ → List ScheduleCallTree → Type 0
NoneIsOnLabel p which label [] = Unit {0}
NoneIsOnLabel p which label (call ∷ calls) = (IsOnLabel p which label call → ⊥) × NoneIsOnLabel p which label calls

-- no value of this kind was given, so the default stands
abbrev pub HasDefault : Setting → ApplySchedule → Type 0
HasDefault setting.Direction c = c.direction ≡ None
HasDefault setting.Parallelization c = c.parallelization ≡ None
HasDefault setting.DenseVertexSet c = c.dense_vertex_set ≡ None
HasDefault setting.FuseFunctions c = Unit {0}
HasDefault setting.FuseFields c = Unit {0}

-- a label has the default of each kind of which no call is on it
abbrev pub HasDefaults : ProgramTree → ScheduleTree → Type 0
HasDefaults p s = (which : Setting) (label : ℕ) → NoneIsOnLabel p which label p.schedule → HasDefault which (apply_schedule_of label s)

-- a `config` call, and not one of fusing
abbrev pub IsConfig : Setting → Type 0
IsConfig setting.Direction = Unit {0}
IsConfig setting.Parallelization = Unit {0}
IsConfig setting.DenseVertexSet = Unit {0}
IsConfig setting.FuseFunctions = ⊥
IsConfig setting.FuseFields = ⊥

-- after a `config` call on a label no other of its kind is on that label
abbrev pub AreOnceOnLabels : ProgramTree → List ScheduleCallTree → Type 0
AreOnceOnLabels p [] = Unit {0}
AreOnceOnLabels p (call ∷ calls) =
    ((which : Setting) (label : ℕ) → IsConfig which → IsOnLabel p which label call → NoneIsOnLabel p which label calls) × AreOnceOnLabels p calls
