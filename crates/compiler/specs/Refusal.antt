-- The numbers and offsets of refusals.
use Rattle.std.specs.Prelude.{ℕ, Option, Some, None}
use Rattle.parser.specs.Refusal as parse_refusal
use Rattle.expression_types.specs.Faults.{number_of as rule_number}
use Rattle.schedule.specs.Refusal.{number_of_rule}
use Rattle.compiler.specs.declared.error.CompileError.{CompileError}
use Rattle.compiler.specs.declared.error.CompileError.TheVariants.{NotParsed, NotTyped, NotScheduled, NoMemory}

abbrev pub number_of : CompileError → ℕ
number_of (NotParsed e) = parse_refusal.number_of e
number_of (NotTyped fault) = rule_number fault.rule
number_of (NotScheduled rule at) = number_of_rule rule
number_of NoMemory = 900

-- where the fault stands
abbrev pub offset_of : CompileError → Option ℕ
offset_of (NotParsed e) = parse_refusal.offset_of e
offset_of (NotTyped fault) = Some fault.at
offset_of (NotScheduled rule at) = Some at
offset_of NoMemory = None
