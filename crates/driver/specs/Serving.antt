-- Outcomes of a request and of a command line.
use Rattle.std.specs.Prelude.{◌≡◌, ℕ, ◌<◌, Bool, true, false, List, [], ◌∷◌, ◌++◌, ◌⊎◌, Result, Ok, Err, map, codes}
use Rattle.std.specs.Str.{bytes_eq}
use Rattle.std.specs.declared.io.Error.{Error}
use Rattle.clap.specs.Words.{fault_of}
use Rattle.devices.specs.Devices.{TakesPart}
use Rattle.algorithm_meaning.specs.ProgramTree.{ProgramTree}
use Rattle.plans.specs.declared.plan.Plan.{Plan}
use Rattle.plans.specs.PlanOf.{program_of}
use Rattle.lowering.specs.Text.{text_of}
use Rattle.scripts.specs.declared.error.ScriptError.{ScriptError}
use Rattle.scripts.specs.Script.{Input, Written, RunsScript, RunsText}
use Rattle.requests.specs.declared.asked.Request.{Request}
use Rattle.requests.specs.Asked.{command_line, asked_by, request_of, IsFaultAmong}
use Rattle.requests.specs.declared.asked.RequestError.{RequestError}
use Rattle.requests.specs.declared.asked.Request.TheVariants as request
use Rattle.driver.specs.Endings.{of_script, status_of_end, refusal_status_of}
use Rattle.driver.specs.Racing.{ServesRace}
use Rattle.driver.specs.Reading.{HoldPrograms, HoldsPlan, HoldsProgram, IsNoProgram, LacksProgram, LacksScript}
use Rattle.driver.specs.declared.error.ServeError.{ServeError}
use Rattle.driver.specs.declared.error.ServeError.TheVariants.{WriteFailed}

-- the end of a script, with the errors of this crate
abbrev pub script_end_of : Result Bool ScriptError → Result Bool ServeError
script_end_of (Ok faulted) = Ok faulted
script_end_of (Err e) = Err (of_script e)

-- the output for a program that compiles: `ok` and a line feed (10)
abbrev pub ok_line : List ℕ
ok_line = codes "ok" ++ 10 ∷ []

-- the file may hold a program, and all of the line `ok` was written, with no failure
pub record TellsOk (holds : List ℕ → Type 0) (before after : Written) (faulted : Bool) : Type 0 where
  pub program : ProgramTree
  pub compiled : HoldsProgram holds program
  pub bytes_written : after.bytes_written ≡ before.bytes_written ++ ok_line
  pub quiet : after.failures ≡ before.failures
  pub fault : faulted ≡ false

-- nothing was written, since the file of this name has no program
pub record TellsNothing (holds : List ℕ → Type 0) (fails : Error → Type 0) (name : List ℕ) (before after : Written) (e : ServeError) : Type 0 where
  pub untouched : after ≡ before
  pub cause : IsNoProgram holds fails name e

-- the file may hold a program, and a beginning of the line `ok` was written before the writer failed
pub record BeginsOk (holds : List ℕ → Type 0) (before after : Written) (e : ServeError) : Type 0 where
  pub program : ProgramTree
  pub compiled : HoldsProgram holds program
  pub part : TakesPart before.bytes_written after.bytes_written ok_line
  pub failed : before.failures < after.failures
  pub outcome : e ≡ WriteFailed

-- the outcome of checking the program in the file of this name
abbrev pub ChecksFile : (List ℕ → Type 0) → (Error → Type 0) → List ℕ → Written → Written → Result Bool ServeError → Type 0
ChecksFile holds fails name before after (Ok faulted) = TellsOk holds before after faulted
ChecksFile holds fails name before after (Err e) = TellsNothing holds fails name before after e ⊎ BeginsOk holds before after e

-- the text of the plan of the program that a file may hold
abbrev pub plan_text : {holds : List ℕ → Type 0} {plan : Plan} → HoldsPlan holds plan → List ℕ
plan_text {plan = plan} held = text_of (program_of plan) held.planned.schedule

-- the file may hold a program, of which this is the plan, and all of its text was written, with no failure
pub record TellsPlan (holds : List ℕ → Type 0) (before after : Written) (faulted : Bool) : Type 0 where
  pub plan : Plan
  pub planned : HoldsPlan holds plan
  pub bytes_written : after.bytes_written ≡ before.bytes_written ++ plan_text planned
  pub quiet : after.failures ≡ before.failures
  pub fault : faulted ≡ false

-- the file may hold a program, of which this is the plan, and a beginning of its text was written before the writer failed
pub record BeginsPlan (holds : List ℕ → Type 0) (before after : Written) (e : ServeError) : Type 0 where
  pub plan : Plan
  pub planned : HoldsPlan holds plan
  pub part : TakesPart before.bytes_written after.bytes_written (plan_text planned)
  pub failed : before.failures < after.failures
  pub outcome : e ≡ WriteFailed

-- the outcome of printing the plan of the program in the file of this name
abbrev pub PrintsPlan : (List ℕ → Type 0) → (Error → Type 0) → List ℕ → Written → Written → Result Bool ServeError → Type 0
PrintsPlan holds fails name before after (Ok faulted) = TellsPlan holds before after faulted
PrintsPlan holds fails name before after (Err e) = TellsNothing holds fails name before after e ⊎ BeginsPlan holds before after e

-- the files may hold these programs and this script, which was run with them, with this end
pub record RunsScriptOf (holds : List ℕ → List ℕ → Type 0) (script : List ℕ) (names : List (List ℕ)) (before after : Written)
    (ended : Result Bool ServeError) : Type 0 where
  pub programs : List ProgramTree
  pub compiled : HoldPrograms holds names programs
  pub text : List ℕ
  pub held : holds script text
  pub script_ended : Result Bool ScriptError
  pub runs : RunsText programs text before after script_ended
  pub ending : ended ≡ script_end_of script_ended

-- no script was run, and nothing was written, since some file has no program, or that of the script cannot be read
pub record RunsNone (holds : List ℕ → List ℕ → Type 0) (fails : List ℕ → Error → Type 0) (script : List ℕ) (names : List (List ℕ)) (before after : Written)
    (e : ServeError) : Type 0 where
  pub untouched : after ≡ before
  pub cause : LacksProgram holds fails names e ⊎ LacksScript holds fails script names e

-- the outcome of running the script in a file, with the programs in files
abbrev pub RunsFiles : (List ℕ → List ℕ → Type 0) → (List ℕ → Error → Type 0) → List ℕ → List (List ℕ) → Written → Written → Result Bool ServeError → Type 0
RunsFiles holds fails script names before after (Ok faulted) = RunsScriptOf holds script names before after (Ok faulted)
RunsFiles holds fails script names before after (Err e) =
    RunsNone holds fails script names before after e ⊎ RunsScriptOf holds script names before after (Err e)

-- the files may hold these programs, and the standard input was run as a script with them, with this end
pub record RunsStreamOf (holds : List ℕ → List ℕ → Type 0) (names : List (List ℕ)) (old new : Input) (before after : Written)
    (ended : Result Bool ServeError) : Type 0 where
  pub programs : List ProgramTree
  pub compiled : HoldPrograms holds names programs
  pub script_ended : Result Bool ScriptError
  pub runs : RunsScript programs old new before after script_ended
  pub ending : ended ≡ script_end_of script_ended

-- nothing was read from the standard input or written, since some file has no program
pub record RunsNoStream (holds : List ℕ → List ℕ → Type 0) (fails : List ℕ → Error → Type 0) (names : List (List ℕ)) (old new : Input) (before after : Written)
    (e : ServeError) : Type 0 where
  pub unread : new ≡ old
  pub untouched : after ≡ before
  pub cause : LacksProgram holds fails names e

-- the outcome of running the standard input, with the programs in files
abbrev pub RunsStream : (List ℕ → List ℕ → Type 0) → (List ℕ → Error → Type 0) → List (List ℕ) → Input → Input → Written → Written → Result Bool ServeError
    → Type 0
RunsStream holds fails names old new before after (Ok faulted) = RunsStreamOf holds names old new before after (Ok faulted)
RunsStream holds fails names old new before after (Err e) =
    RunsNoStream holds fails names old new before after e ⊎ RunsStreamOf holds names old new before after (Err e)

-- the program in the file of this name was checked, with this status at the end; the standard input was not read
pub record ServesCheck (holds : List ℕ → List ℕ → Type 0) (fails : List ℕ → Error → Type 0) (name : List ℕ) (old new : Input) (before after : Written)
    (status : ℕ) : Type 0 where
  pub ended : Result Bool ServeError
  pub checks : ChecksFile (holds name) (fails name) name before after ended
  pub ending : status ≡ status_of_end ended
  pub unread : new ≡ old

-- the plan of the program in the file of this name was printed, with this status at the end; the standard input was not read
pub record ServesPlan (holds : List ℕ → List ℕ → Type 0) (fails : List ℕ → Error → Type 0) (name : List ℕ) (old new : Input) (before after : Written)
    (status : ℕ) : Type 0 where
  pub ended : Result Bool ServeError
  pub prints : PrintsPlan (holds name) (fails name) name before after ended
  pub ending : status ≡ status_of_end ended
  pub unread : new ≡ old

-- the files were run, with this status at the end; the standard input was not read
pub record ServesFiles (holds : List ℕ → List ℕ → Type 0) (fails : List ℕ → Error → Type 0) (script : List ℕ) (names : List (List ℕ)) (old new : Input)
    (before after : Written) (status : ℕ) : Type 0 where
  pub ended : Result Bool ServeError
  pub runs : RunsFiles holds fails script names before after ended
  pub ending : status ≡ status_of_end ended
  pub unread : new ≡ old

-- the standard input was run with the programs in files, with this status at the end
pub record ServesStream (holds : List ℕ → List ℕ → Type 0) (fails : List ℕ → Error → Type 0) (names : List (List ℕ)) (old new : Input) (before after : Written)
    (status : ℕ) : Type 0 where
  pub ended : Result Bool ServeError
  pub runs : RunsStream holds fails names old new before after ended
  pub ending : status ≡ status_of_end ended

-- the outcome of running a script: the name `-` means the standard input, another name means a file
abbrev pub ServesScript : (is_stream : Bool) → (List ℕ → List ℕ → Type 0) → (List ℕ → Error → Type 0) → List ℕ → List (List ℕ) → Input → Input → Written
    → Written → ℕ → Type 0
ServesScript true holds fails script names old new before after status = ServesStream holds fails names old new before after status
ServesScript false holds fails script names old new before after status = ServesFiles holds fails script names old new before after status

-- the outcome of serving a request; the input is run as a script without programs
abbrev pub Serves : (List ℕ → List ℕ → Type 0) → (List ℕ → Error → Type 0) → Request → Input → Input → Written → Written → ℕ → Type 0
Serves holds fails request.Input old new before after status = ServesStream holds fails [] old new before after status
Serves holds fails (request.Check file) old new before after status = ServesCheck holds fails file.now old new before after status
Serves holds fails (request.Plan file) old new before after status = ServesPlan holds fails file.now old new before after status
Serves holds fails (request.Script script names) old new before after status =
    ServesScript (bytes_eq script.now (codes "-")) holds fails script.now (map (λ n. n.now) names.items) old new before after status
Serves holds fails (request.Race script names workers turns) old new before after status =
    ServesRace holds fails script.now (map (λ n. n.now) names.items) workers turns old new before after status

-- the words have no fault, and their request was served
pub record RunsRequest (holds : List ℕ → List ℕ → Type 0) (fails : List ℕ → Error → Type 0) (words : List (List ℕ)) (old new : Input) (before after : Written)
    (status : ℕ) : Type 0 where
  pub request : Request
  pub quiet : fault_of command_line words ≡ []
  pub read : asked_by request ≡ request_of words
  pub done : Serves holds fails request old new before after status

-- the words were refused, for a fault or since memory ran out, and nothing else was done
pub record RefusesWords (words : List (List ℕ)) (old new : Input) (before after : Written) (status : ℕ) : Type 0 where
  pub error : RequestError
  pub cause : IsFaultAmong (fault_of command_line words) error
  pub ending : status ≡ refusal_status_of error
  pub unread : new ≡ old
  pub untouched : after ≡ before

-- the outcome of a command line
abbrev pub Runs : (List ℕ → List ℕ → Type 0) → (List ℕ → Error → Type 0) → List (List ℕ) → Input → Input → Written → Written → ℕ → Type 0
Runs holds fails words old new before after status =
    RunsRequest holds fails words old new before after status ⊎ RefusesWords words old new before after status
