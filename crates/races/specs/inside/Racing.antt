-- Progress of a race: the commits made, and the runs.
use Rattle.std.specs.Prelude.{◌≡◌, ℕ, List, map, Result, Ok, Err, IfErr, IfOk, alloc_error}
use Rattle.std.specs.declared.alloc.AllocError.{AllocError}
use Rattle.std.specs.Global.{Vec}
use Rattle.std.specs.List.{All}
use Rattle.tree_batch.specs.declared.batch.Entry.{Entry as Change}
use Rattle.version_list.specs.Machine.{State}
use Rattle.plans.specs.declared.plan.Plan.{Plan}
use Rattle.shared_graph.specs.declared.error.SharedError.{SharedError}
use Rattle.shared_graph.specs.declared.error.SharedError.TheVariants as shared
use Rattle.shared_graph.specs.declared.naming.Naming as naming
use Rattle.shared_graph.specs.Histories.{ReaderState}
use Rattle.shared_graph.specs.Outcome.{number_of}
use Rattle.races.specs.declared.entrants.EarlyRun.{EarlyRun}
use Rattle.races.specs.declared.entrants.Entrant.{Entrant}
use Rattle.races.specs.declared.outcomes.CommitReply.{CommitReply}
use Rattle.races.specs.declared.outcomes.CommitReply.TheVariants as answer
use Rattle.races.specs.declared.outcomes.ProgramRuns.{ProgramRuns}
use Rattle.races.specs.declared.error.RaceError.{RaceError}
use Rattle.races.specs.declared.error.RaceError.TheVariants.{NotOpened, NotRun}
use Rattle.races.specs.Race.{AreAnswered, AreRaced, IsRunOn}
use Rattle.races.specs.RaceScript.{RefusesRun}
use Rattle.snapshot_runs.specs.Runs.{plan_of_runs}

-- the run is on the newest version of the history that the reader shows, or refused
abbrev pub RanEarly : {J : Type 0} {g : naming.Ghosts J} → ℕ → ℕ → ℕ → EarlyRun J g → Type 0
RanEarly n turns workers ran = IfOk ran.run (IsRunOn n (plan_of_runs ran.runs) turns ran.reader.shown) × IfErr ran.run (RefusesRun workers)

-- the programs that ran are those of the entrants, in order, and each ran
abbrev pub AllRanEarly : {J : Type 0} {g : naming.Ghosts J} → ℕ → ℕ → ℕ → List (Entrant J g) → List (EarlyRun J g) → Type 0
AllRanEarly n turns workers entrants ran = (map (λ r. plan_of_runs r.runs) ran ≡ map (λ e. plan_of_runs e.runs) entrants) × All (RanEarly n turns workers) ran

-- all batches are answered so; or memory ran out
abbrev pub AnswersAll : State → ReaderState → List (List Change) → Result (Vec CommitReply) AllocError → ReaderState → Type 0
AnswersAll base old batches (Ok replies) new = AreAnswered base old batches replies.items new
AnswersAll base old batches (Err error) new = Unit {0}

-- what a commit gave is answered so; or memory ran out
abbrev pub RepliesTo : Result ℕ SharedError → Result CommitReply AllocError → Type 0
RepliesTo (Ok version) result = result ≡ Ok (answer.Version version)
RepliesTo (Err shared.NoMemory) result = result ≡ Err alloc_error
RepliesTo (Err error) result = result ≡ Ok (answer.Refused (number_of error))

-- programs are not run again, for a refusal of a run; or memory ran out
abbrev pub RefusesRuns : ℕ → RaceError → Type 0
RefusesRuns workers (NotOpened error) = ⊥
RefusesRuns workers (NotRun error) = RefusesRun workers error

-- what committing and running gave, before it is put together
abbrev pub IsRaced : (n room : ℕ) → List (List Change) → List Plan → ℕ → Vec CommitReply × Vec ProgramRuns → Type 0
IsRaced n room batches plans turns raced = AreRaced n room batches raced.0.items plans turns raced.1.items
