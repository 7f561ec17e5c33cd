-- Outcomes of runs on a version of a graph, and the reader where one is refused.
use Rattle.std.specs.Prelude.{◌≡◌, ℕ}
use Rattle.algorithm_meaning.specs.declared.outcome.Outcome.{Outcome}
use Rattle.algorithm_meaning.specs.Meaning.{meaning}
use Rattle.flat_snapshot.specs.Digraph.{Digraph}
use Rattle.plans.specs.declared.plan.Plan.{Plan}
use Rattle.plans.specs.PlanOf.{IsCompiled, program_of}
use Rattle.run_state.specs.State.{graph_value}
use Rattle.version_list.specs.Machine.{State}
use Rattle.shared_graph.specs.Histories.{ReaderState, Shows}
use Rattle.snapshot_runs.specs.declared.error.LatestRunError.{LatestRunError}
use Rattle.snapshot_runs.specs.declared.error.LatestRunError.TheVariants.{BadWorkers, Closed, NoMemory}

-- the outcome is what the program of the plan means on the graph within n turns, where the plan was compiled
abbrev pub IsOutcomeOn : Plan → Digraph → (turns : ℕ) → Outcome → Type 0
IsOutcomeOn plan graph turns o = IsCompiled plan → o ≡ meaning (program_of plan) (graph_value graph) turns

-- the reader is as it was; if memory ran out, it may show a history that continues where the one before ends
abbrev pub Leaves : State → LatestRunError → ReaderState → ReaderState → Type 0
Leaves base BadWorkers old new = new ≡ old
Leaves base Closed old new = new ≡ old
Leaves base NoMemory old new = Shows base old new
