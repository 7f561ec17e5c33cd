-- Ends of a request, as an error and as an exit status.
use Rattle.std.specs.Prelude.{ℕ, Bool, true, false, List, Result, Ok, Err}
use Rattle.compiler.specs.Refusal.{number_of as compile_number}
use Rattle.std.specs.Borrow.{Bor}
use Rattle.std.specs.IoError.{error_kind}
use Rattle.std.specs.declared.io.Error.{Error}
use Rattle.std.specs.declared.io.ErrorKind.{ErrorKind}
use Rattle.std.specs.declared.io.ErrorKind.TheVariants.{OutOfMemory}
use Rattle.scripts.specs.declared.error.ScriptError.{ScriptError}
use Rattle.scripts.specs.declared.error.ScriptError.TheVariants as script
use Rattle.driver.specs.declared.error.ServeError.{ServeError}
use Rattle.driver.specs.declared.error.ServeError.TheVariants.{NoMemory, ReadFailed, FileFailed, WriteFailed, Refused, RaceRefused, Closed}
use Rattle.requests.specs.declared.asked.RequestError.{RequestError}
use Rattle.requests.specs.declared.asked.RequestError.TheVariants as request
use Rattle.replies.specs.declared.send_error.SendError.{SendError}
use Rattle.replies.specs.declared.send_error.SendError.TheVariants as send
use Rattle.races.specs.declared.error.RaceScriptError.{RaceScriptError}
use Rattle.races.specs.declared.error.RaceScriptError.TheVariants as race_script
use Rattle.races.specs.declared.error.RaceError.{RaceError}
use Rattle.races.specs.declared.error.RaceError.TheVariants.{NotOpened, NotRun}
use Rattle.shared_graph.specs.Outcome.{number_of as shared_number_of}
use Rattle.shared_graph.specs.declared.error.SharedError.TheVariants as shared
use Rattle.snapshot_runs.specs.declared.error.LatestRunError.TheVariants as run

-- what becomes of a read of this file that failed for this reason
abbrev pub of_kind : Bor (List ℕ) → ErrorKind → ServeError
of_kind file OutOfMemory = NoMemory
of_kind file kind = FileFailed file kind

-- what becomes of a failed read of this file
abbrev pub of_file_read : Bor (List ℕ) → Error → ServeError
of_file_read file error = of_kind file (error_kind error)

-- what becomes of an error of a script
abbrev pub of_script : ScriptError → ServeError
of_script script.NoMemory = NoMemory
of_script script.ReadFailed = ReadFailed
of_script script.WriteFailed = WriteFailed

-- the exit status after a request that was not done
abbrev pub status_of : ServeError → ℕ
status_of NoMemory = 4
status_of ReadFailed = 5
status_of (FileFailed file kind) = 5
status_of WriteFailed = 5
status_of (Refused file error) = 1
status_of (RaceRefused file number) = 1
status_of Closed = 4

-- the number by which users know why a request was not done
abbrev pub number_of : ServeError → ℕ
number_of NoMemory = 900
number_of ReadFailed = 901
number_of (FileFailed file kind) = 901
number_of WriteFailed = 902
number_of (Refused file error) = compile_number error
number_of (RaceRefused file number) = number
number_of Closed = 125

-- the exit status after a request: whether some run ended by a fault, or why it was not done
abbrev pub status_of_end : Result Bool ServeError → ℕ
status_of_end (Ok false) = 0
status_of_end (Ok true) = 3
status_of_end (Err e) = status_of e

-- the exit status after a command line that is not done
abbrev pub refusal_status_of : RequestError → ℕ
refusal_status_of request.NoMemory = 4
refusal_status_of _ = 2

-- what becomes of a reply that could not be sent
abbrev pub of_send : SendError → ServeError
of_send send.NoMemory = NoMemory
of_send send.WriteFailed = WriteFailed

-- what becomes of a refusal of the script of a race in the file of this name
abbrev pub of_race_script : Bor (List ℕ) → RaceScriptError → ServeError
of_race_script file race_script.NoMemory = NoMemory
of_race_script file race_script.NoRace = RaceRefused file 801

-- what becomes of a refusal of a race of the script in this file
abbrev pub of_race : Bor (List ℕ) → RaceError → ServeError
of_race file (NotOpened shared.NoMemory) = NoMemory
of_race file (NotOpened error) = RaceRefused file (shared_number_of error)
of_race file (NotRun run.NoMemory) = NoMemory
of_race file (NotRun run.Closed) = Closed
of_race file (NotRun run.BadWorkers) = RaceRefused file 411
