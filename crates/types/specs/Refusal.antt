-- The numbers and offsets of refusals.
use Rattle.std.specs.Prelude.{ℕ, Option, Some, None}
use Rattle.expression_types.specs.Faults.{number_of as rule_number}
use Rattle.types.specs.declared.error.CheckError.{CheckError}
use Rattle.types.specs.declared.error.CheckError.TheVariants.{Faulty, NoMemory}

-- the number of a refusal
abbrev pub number_of : CheckError → ℕ
number_of (Faulty fault) = rule_number fault.rule
number_of NoMemory = 900

-- where the fault stands
abbrev pub offset_of : CheckError → Option ℕ
offset_of (Faulty fault) = Some fault.at
offset_of NoMemory = None
