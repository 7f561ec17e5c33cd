-- Races of a script and programs: commits of one history, and runs on versions of it.
use Rattle.std.specs.Prelude.{◌≡◌, ◌<◌, ℕ, Bool, ◌||◌, List, [], ◌∷◌, ◌++◌, length}
use Rattle.std.specs.List.{list_any}
use mathlib.Core.List.{IsPrefix}
use Rattle.tree_batch.specs.declared.batch.Entry.{Entry as Change}
use Rattle.crew.specs.Outcome.{AreWorkers}
use Rattle.replies.specs.ReplyText.{is_fault}
use Rattle.plans.specs.declared.plan.Plan.{Plan}
use Rattle.version_list.specs.declared.step.Step.TheVariants.{Commit}
use Rattle.version_list.specs.declared.step.Reply.TheVariants.{Version}
use Rattle.version_list.specs.Machine.{State, opened}
use Rattle.version_list.specs.Timeline.{IsLegal}
use Rattle.shared_graph.specs.declared.entry.Entry.{Entry}
use Rattle.shared_graph.specs.Histories.{batches_of, history_entry, fold_of, own, steps_of, ReaderState, fresh_reader, HasMade, IsRefused}
use Rattle.snapshot_runs.specs.Outcome.{IsOutcomeOn}
use Rattle.races.specs.declared.outcomes.CommitReply.{CommitReply}
use Rattle.races.specs.declared.outcomes.CommitReply.TheVariants as answer
use Rattle.races.specs.declared.outcomes.VersionRun.{VersionRun}
use Rattle.races.specs.declared.outcomes.ProgramRuns.{ProgramRuns}
use Rattle.races.specs.declared.outcomes.Race.{Race}

-- a reader's commit of the batch made this version; or the machine refuses it, by this number, at the end of the history that the reader then shows
abbrev pub IsAnswered : State → ReaderState → List Change → CommitReply → ReaderState → Type 0
IsAnswered base old batch (answer.Version version) new = HasMade base old (Commit batch) (Version version) new
IsAnswered base old batch (answer.Refused number) new = IsRefused base old (Commit batch) number new

-- a reader gave these batches to be committed, one after another, and was answered so
abbrev pub AreAnswered : State → ReaderState → List (List Change) → List CommitReply → ReaderState → Type 0
AreAnswered base old [] [] new = new ≡ old
AreAnswered base old [] (reply ∷ replies) new = ⊥
AreAnswered base old (batch ∷ batches) [] new = ⊥
AreAnswered base old (batch ∷ batches) (reply ∷ replies) new = (next : ReaderState) × IsAnswered base old batch reply next
    × AreAnswered base next batches replies new

-- the entry of a commit that was answered so, if it is one of the history
abbrev pub history_entries_of : ℕ → List Change → CommitReply → List Entry
history_entries_of by batch (answer.Version version) = history_entry by (Commit batch) (Version version) ∷ []
history_entries_of by batch (answer.Refused number) = []

-- the commits of these batches by one reader that made a version
abbrev pub commits : ℕ → List (List Change) → List CommitReply → List Entry
commits by [] replies = []
commits by (batch ∷ batches) [] = []
commits by (batch ∷ batches) (reply ∷ replies) = history_entries_of by batch reply ++ commits by batches replies

-- the run is on the newest version of the history: its number is the count of the commits, and its outcome what the plan's program means on the fold of their
-- batches
pub record IsRunOn (n : ℕ) (plan : Plan) (turns : ℕ) (history : List Entry) (run : VersionRun) : Type 0 where
  pub number : run.version ≡ length (batches_of history)
  pub outcome : IsOutcomeOn plan (fold_of n history) turns run.outcome

-- a program ran on the newest version of a history, and again on that of a longer history, which begins with the announced one too
pub record RanTwice (n room : ℕ) (plan : Plan) (turns : ℕ) (told : List Entry) (runs : ProgramRuns) : Type 0 where
  pub before : List Entry
  pub after : List Entry
  pub early : IsRunOn n plan turns before runs.early
  pub late : IsRunOn n plan turns after runs.late
  pub goes_on : IsPrefix before after
  pub is_told : IsPrefix told after
  pub legal : IsLegal (opened n room) (steps_of after)

-- each program ran twice
abbrev pub AllRan : (n room : ℕ) → (turns : ℕ) → (told : List Entry) → List Plan → List ProgramRuns → Type 0
AllRan n room turns told [] [] = Unit {0}
AllRan n room turns told [] (runs ∷ more) = ⊥
AllRan n room turns told (plan ∷ plans) [] = ⊥
AllRan n room turns told (plan ∷ plans) (runs ∷ more) = RanTwice n room plan turns told runs × AllRan n room turns told plans more

-- where a program ran, the workers are as many as a crew may have
abbrev pub MayRun : ℕ → List ProgramRuns → Type 0
MayRun workers runs = 0 < length runs → AreWorkers workers

-- One reader of a graph of n vertices, whose history has so much room, gave these batches to be committed, in order, and was answered so. In the history after
-- its last commit it made just those that were not refused, and the late run of each program knows that history whole.
pub record AreRaced (n room : ℕ) (batches : List (List Change)) (replies : List CommitReply) (plans : List Plan) (turns : ℕ)
    (runs : List ProgramRuns) : Type 0 where
  pub writer : ℕ
  pub after : ReaderState
  pub answered : AreAnswered (opened n room) (fresh_reader writer) batches replies after
  pub legal : IsLegal (opened n room) (steps_of after.last)
  pub committed : own writer after.last ≡ commits writer batches replies
  pub ran : AllRan n room turns after.last plans runs

-- a race on a graph of n vertices
abbrev pub IsRace : (n room : ℕ) → List (List Change) → List Plan → ℕ → Race → Type 0
IsRace n room batches plans turns race = (race.vertices ≡ n) × AreRaced n room batches race.replies.items plans turns race.runs.items

-- whether one of a program's two runs ended by a fault
abbrev pub runs_fault : ProgramRuns → Bool
runs_fault runs = is_fault runs.early.outcome.end || is_fault runs.late.outcome.end

-- whether some run of a race ended by a fault
abbrev pub race_has_faulted : Race → Bool
race_has_faulted race = list_any runs_fault race.runs.items
