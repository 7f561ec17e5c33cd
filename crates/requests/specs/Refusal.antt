-- What becomes of a fault of the words, and the numbers of refusals.
use Rattle.std.specs.Prelude.{ℕ, Option, Some, None}
use Rattle.clap.specs.declared.error.Error.{Error as Fault}
use Rattle.clap.specs.declared.error.kind.ErrorKind.{ErrorKind as FaultKind}
use Rattle.clap.specs.declared.error.kind.ErrorKind.TheVariants as fault
use Rattle.requests.specs.declared.asked.RequestError.{RequestError}
use Rattle.requests.specs.declared.asked.RequestError.TheVariants as request

-- a fault of this kind is reported with its own text, unless memory ran out
abbrev pub of_fault : FaultKind → Fault → RequestError
of_fault fault.OutOfMemory e = request.NoMemory
of_fault _ e = request.Fault e

-- the number of a refusal: words that are no request have none
abbrev pub number_of : RequestError → Option ℕ
number_of request.NoMemory = Some 900
number_of request.NotText = None
number_of (request.Fault e) = None
