-- The numbers and offsets of refusals.
use Rattle.std.specs.Prelude.{ℕ, Option, Some, None}
use Rattle.schedule.specs.declared.error.ScheduleRule.{ScheduleRule}
use Rattle.schedule.specs.declared.error.ScheduleRule.TheVariants as rule
use Rattle.schedule.specs.declared.error.ScheduleError.{ScheduleError}
use Rattle.schedule.specs.declared.error.ScheduleError.TheVariants.{Faulty, NoMemory}

abbrev pub number_of_rule : ScheduleRule → ℕ
number_of_rule rule.UnknownLabel = 301
number_of_rule rule.NoApply = 302
number_of_rule rule.BadArgument = 303
number_of_rule rule.GivenTwice = 304
number_of_rule rule.NotAdjacent = 305
number_of_rule rule.DifferentSets = 306
number_of_rule rule.NotIndependent = 307
number_of_rule rule.BadFields = 308

abbrev pub number_of : ScheduleError → ℕ
number_of (Faulty rule at) = number_of_rule rule
number_of NoMemory = 900

-- where the fault stands
abbrev pub offset_of : ScheduleError → Option ℕ
offset_of (Faulty rule at) = Some at
offset_of NoMemory = None
