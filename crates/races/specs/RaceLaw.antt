-- The law that a race whose replies and late runs count its own commits alone has no others.
use Rattle.std.specs.Prelude.{◌≡◌, ◌≤◌, ◌+◌, ℕ, List, [], ◌∷◌, length, take}
use Rattle.tree_batch.specs.declared.batch.Entry.{Entry as Change}
use Rattle.tree_batch.specs.Digraph.{empty_graph, graph_through}
use Rattle.plans.specs.declared.plan.Plan.{Plan}
use Rattle.snapshot_runs.specs.Outcome.{IsOutcomeOn}
use Rattle.races.specs.declared.outcomes.CommitReply.{CommitReply}
use Rattle.races.specs.declared.outcomes.CommitReply.TheVariants as answer
use Rattle.races.specs.declared.outcomes.VersionRun.{VersionRun}
use Rattle.races.specs.declared.outcomes.ProgramRuns.{ProgramRuns}
use Rattle.races.specs.declared.outcomes.Race.{Race}
use Rattle.races.specs.Race.{IsRace}

-- the replies number the versions one after another, from the one after version k
abbrev pub AreNumbered : ℕ → List CommitReply → Type 0
AreNumbered k [] = Unit {0}
AreNumbered k (answer.Version version ∷ replies) = (version ≡ k + 1) × AreNumbered (k + 1) replies
AreNumbered k (answer.Refused number ∷ replies) = AreNumbered k replies

-- the batches that were not refused
abbrev pub accepted : List (List Change) → List CommitReply → List (List Change)
accepted [] replies = []
accepted (batch ∷ batches) [] = []
accepted (batch ∷ batches) (answer.Version version ∷ replies) = batch ∷ accepted batches replies
accepted (batch ∷ batches) (answer.Refused number ∷ replies) = accepted batches replies

-- each late run is on version k
abbrev pub AreOnVersion : ℕ → List ProgramRuns → Type 0
AreOnVersion k [] = Unit {0}
AreOnVersion k (runs ∷ more) = (runs.late.version ≡ k) × AreOnVersion k more

-- the run is on n vertices without edges, taken through as many of these batches as its version's number says
pub record IsRunThrough (n : ℕ) (plan : Plan) (turns : ℕ) (batches : List (List Change)) (run : VersionRun) : Type 0 where
  pub made : run.version ≤ length batches
  pub outcome : IsOutcomeOn plan (graph_through (empty_graph n) (take run.version batches)) turns run.outcome

-- each program ran twice, both times on versions of these batches alone
abbrev pub AllRanThrough : (n turns : ℕ) → List (List Change) → List Plan → List ProgramRuns → Type 0
AllRanThrough n turns batches [] [] = Unit {0}
AllRanThrough n turns batches [] (runs ∷ more) = ⊥
AllRanThrough n turns batches (plan ∷ plans) [] = ⊥
AllRanThrough n turns batches (plan ∷ plans) (runs ∷ more) =
    IsRunThrough n plan turns batches runs.early × IsRunThrough n plan turns batches runs.late × AllRanThrough n turns batches plans more

-- if the replies of a race number its versions, and each late run is on the last of them, nobody else committed before any of its runs
abbrev pub HasNoOtherCommits : Race → Type 0
HasNoOtherCommits race = (n room : ℕ) (batches : List (List Change)) (plans : List Plan) (turns : ℕ) → IsRace n room batches plans turns race
    → AreNumbered 0 race.replies.items → AreOnVersion (length (accepted batches race.replies.items)) race.runs.items
    → AllRanThrough n turns (accepted batches race.replies.items) plans race.runs.items
