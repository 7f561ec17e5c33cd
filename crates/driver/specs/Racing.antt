-- Outcomes of serving a race.
use Rattle.std.specs.Prelude.{◌≡◌, ℕ, ◌<◌, ◌+◌, Bool, List, ◌++◌, ◌⊎◌, Result, Ok, Err, Some, length, map}
use Rattle.std.specs.Arc.{arc_value}
use Rattle.std.specs.Borrow.{Bor}
use Rattle.std.specs.declared.io.Error.{Error}
use Rattle.algorithm_meaning.specs.ProgramTree.{ProgramTree}
use Rattle.scripts.specs.Script.{Input, Written}
use Rattle.races.specs.RaceScript.{Order, ReadsScript, order_of, MayOpen, RefusesRace}
use Rattle.races.specs.Race.{IsRace, MayRun, race_has_faulted}
use Rattle.races.specs.RaceText.{TakesBeginning, race_text}
use Rattle.races.specs.declared.error.RaceError.{RaceError}
use Rattle.races.specs.declared.error.RaceScriptError.{RaceScriptError}
use Rattle.races.specs.declared.outcomes.Race.{Race}
use Rattle.driver.specs.declared.compiled_plan.CompiledPlan.{CompiledPlan}
use Rattle.driver.specs.declared.error.ServeError.{ServeError}
use Rattle.driver.specs.declared.error.ServeError.TheVariants.{NoMemory, WriteFailed}
use Rattle.driver.specs.Endings.{of_race, of_race_script, status_of_end}
use Rattle.driver.specs.Reading.{tree_of, FailsRead, HoldPrograms, LacksProgram}

-- the file may hold the script of a race, and that is it
pub record HoldsScript (holds : List ℕ → Type 0) (order : Order) : Type 0 where
  pub text : List ℕ
  pub held : holds text
  pub is_script : order_of text ≡ Some order

-- the text that the file may hold is refused as the script of a race, or memory ran out
pub record RefusesScript (holds : List ℕ → Type 0) (file : List ℕ) (e : ServeError) : Type 0 where
  pub text : List ℕ
  pub held : holds text
  pub error : RaceScriptError
  pub refused : ReadsScript text (Err error)
  pub name : Bor (List ℕ)
  pub named : name.now ≡ file
  pub outcome : e ≡ of_race_script name error

-- the files may hold these programs and this script, whose graph may be opened, and this is a race of them, by workers that may run
pub record IsRaceOf (holds : List ℕ → List ℕ → Type 0) (script : List ℕ) (names : List (List ℕ)) (workers turns : ℕ) (race : Race) : Type 0 where
  pub programs : List CompiledPlan
  pub compiled : HoldPrograms holds names (map tree_of programs)
  pub order : Order
  pub held : HoldsScript (holds script) order
  pub is_race : IsRace order.vertices 16777216 order.batches (map (λ p. arc_value p.plan) programs) turns race
  pub opened : MayOpen order.vertices order.chunk_size (length programs + 1)
  pub run_by : MayRun workers race.runs.items

-- all of the text of a race was written, with no failure
pub record TellsRace (holds : List ℕ → List ℕ → Type 0) (script : List ℕ) (names : List (List ℕ)) (workers turns : ℕ) (before after : Written)
    (faulted : Bool) : Type 0 where
  pub race : Race
  pub is_race : IsRaceOf holds script names workers turns race
  pub bytes_written : after.bytes_written ≡ before.bytes_written ++ race_text race
  pub quiet : after.failures ≡ before.failures
  pub fault : faulted ≡ race_has_faulted race

-- memory ran out and the writer did not fail, or it failed in this call
abbrev pub EndsWriting : Written → Written → ServeError → Type 0
EndsWriting before after e = ((e ≡ NoMemory) × (after.failures ≡ before.failures)) ⊎ ((e ≡ WriteFailed) × (before.failures < after.failures))

-- a beginning of the text of a race was written before memory ran out or the writer failed
pub record BeginsRace (holds : List ℕ → List ℕ → Type 0) (script : List ℕ) (names : List (List ℕ)) (workers turns : ℕ) (before after : Written)
    (e : ServeError) : Type 0 where
  pub race : Race
  pub is_race : IsRaceOf holds script names workers turns race
  pub part : TakesBeginning (race_text race) before after
  pub cause : EndsWriting before after e

-- the files may hold these programs and this script, of which there was no race, for this reason
pub record RefusesRaceOf (holds : List ℕ → List ℕ → Type 0) (script : List ℕ) (names : List (List ℕ)) (workers : ℕ) (e : ServeError) : Type 0 where
  pub programs : List CompiledPlan
  pub compiled : HoldPrograms holds names (map tree_of programs)
  pub order : Order
  pub held : HoldsScript (holds script) order
  pub error : RaceError
  pub refused : RefusesRace order.vertices order.chunk_size 16777216 order.batches (length programs) workers error
  pub name : Bor (List ℕ)
  pub named : name.now ≡ script
  pub outcome : e ≡ of_race name error

-- the files of these names may hold programs, and the one of the script cannot be read or holds no script of a race
pub record LacksRaceScript (holds : List ℕ → List ℕ → Type 0) (fails : List ℕ → Error → Type 0) (script : List ℕ) (names : List (List ℕ))
    (e : ServeError) : Type 0 where
  pub programs : List ProgramTree
  pub compiled : HoldPrograms holds names programs
  pub cause : FailsRead (fails script) script e ⊎ RefusesScript (holds script) script e

-- a file has no program or no script of a race, or there was no race of them, or memory ran out
abbrev pub LacksRace : (List ℕ → List ℕ → Type 0) → (List ℕ → Error → Type 0) → List ℕ → List (List ℕ) → ℕ → ServeError → Type 0
LacksRace holds fails script names workers e =
    LacksProgram holds fails names e ⊎ (LacksRaceScript holds fails script names e ⊎ (RefusesRaceOf holds script names workers e ⊎ (e ≡ NoMemory)))

-- nothing was written, since there was no race
pub record TellsNoRace (holds : List ℕ → List ℕ → Type 0) (fails : List ℕ → Error → Type 0) (script : List ℕ) (names : List (List ℕ)) (workers : ℕ)
    (before after : Written) (e : ServeError) : Type 0 where
  pub untouched : after ≡ before
  pub cause : LacksRace holds fails script names workers e

-- the outcome of a race of files
abbrev pub RacesFiles : (List ℕ → List ℕ → Type 0) → (List ℕ → Error → Type 0) → List ℕ → List (List ℕ) → (workers turns : ℕ) → Written → Written
    → Result Bool ServeError → Type 0
RacesFiles holds fails script names workers turns before after (Ok faulted) = TellsRace holds script names workers turns before after faulted
RacesFiles holds fails script names workers turns before after (Err e) =
    TellsNoRace holds fails script names workers before after e ⊎ BeginsRace holds script names workers turns before after e

-- the race of the files was done, with this status at the end; the standard input was not read
pub record ServesRace (holds : List ℕ → List ℕ → Type 0) (fails : List ℕ → Error → Type 0) (script : List ℕ) (names : List (List ℕ)) (workers turns : ℕ)
    (old new : Input) (before after : Written) (status : ℕ) : Type 0 where
  pub ended : Result Bool ServeError
  pub races : RacesFiles holds fails script names workers turns before after ended
  pub ending : status ≡ status_of_end ended
  pub unread : new ≡ old
