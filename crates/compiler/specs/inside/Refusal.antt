-- Beside `Refusal`: definitions that no public contract cites.
use Rattle.parser.specs.declared.error.ParseError.{ParseError}
use Rattle.parser.specs.declared.error.ParseError.TheVariants as parser
use Rattle.types.specs.declared.error.CheckError.{CheckError}
use Rattle.types.specs.declared.error.CheckError.TheVariants as check
use Rattle.schedule.specs.declared.error.ScheduleError.{ScheduleError}
use Rattle.schedule.specs.declared.error.ScheduleError.TheVariants as schedule
use Rattle.compiler.specs.declared.error.CompileError.{CompileError}
use Rattle.compiler.specs.declared.error.CompileError.TheVariants.{NotParsed, NoMemory, NotTyped, NotScheduled}

-- what becomes of a refusal of the parser
abbrev pub of_parser : ParseError → CompileError
of_parser parser.NoMemory = NoMemory
of_parser e = NotParsed e

-- what becomes of a refusal of the rules of types
abbrev pub of_types : CheckError → CompileError
of_types (check.Faulty fault) = NotTyped fault
of_types check.NoMemory = NoMemory

-- what becomes of a refusal of a schedule
abbrev pub of_schedule : ScheduleError → CompileError
of_schedule (schedule.Faulty rule at) = NotScheduled rule at
of_schedule schedule.NoMemory = NoMemory
