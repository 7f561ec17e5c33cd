-- Schedules: the choices for each label, and the groups of vectors.
use Rattle.std.specs.Prelude.{ℕ, List, nat_eq, Option, Some, None}
use Rattle.std.specs.Map.{lookup}
use Rattle.apply_options.specs.declared.apply_schedule.ApplySchedule.{ApplySchedule}
use Rattle.apply_options.specs.declared.apply_schedule.Fused.{Fused}

-- for each label that a call names its apply schedule, and the groups of vectors in the order of the calls
pub record ScheduleTree : Type 0 where
  pub apply_schedules : List (ℕ × ApplySchedule)
  pub groups : List (List ℕ)

abbrev pub no_apply_schedule : ApplySchedule
no_apply_schedule = record { direction = None; parallelization = None; dense_vertex_set = None; fused = None }

abbrev pub or_no_apply_schedule : Option ApplySchedule → ApplySchedule
or_no_apply_schedule None = no_apply_schedule
or_no_apply_schedule (Some c) = c

-- the apply schedule of a label
abbrev pub apply_schedule_of : ℕ → ScheduleTree → ApplySchedule
apply_schedule_of label s = or_no_apply_schedule (lookup (nat_eq label) s.apply_schedules)

abbrev pub apply_schedule_at : Option ℕ → ScheduleTree → ApplySchedule
apply_schedule_at None s = no_apply_schedule
apply_schedule_at (Some label) s = apply_schedule_of label s

-- an apply schedule with its place in a fused pair
abbrev pub fused_as : Fused → ApplySchedule → ApplySchedule
fused_as fused c = record { direction = c.direction; parallelization = c.parallelization; dense_vertex_set = c.dense_vertex_set; fused = Some fused }
