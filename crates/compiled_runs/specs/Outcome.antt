-- Outcomes of runs of a text on a version of a graph, and the reader where one gives nothing.
use Rattle.std.specs.Prelude.{◌≡◌, ℕ, List}
use Rattle.typed_tree.specs.ProgramTree.{ProgramTree}
use Rattle.algorithm_meaning.specs.declared.outcome.Outcome.{Outcome}
use Rattle.algorithm_meaning.specs.Meaning.{meaning}
use Rattle.flat_snapshot.specs.Digraph.{Digraph}
use Rattle.run_state.specs.State.{graph_value}
use Rattle.version_list.specs.Machine.{State}
use Rattle.shared_graph.specs.Histories.{ReaderState}
use Rattle.snapshot_runs.specs.Outcome.{Leaves}
use Rattle.plans.specs.declared.plan.Plan.{Plan}
use Rattle.compiler.specs.Outcome.{IsPlanOfText, IsProgram}
use Rattle.compiled_runs.specs.declared.error.TextRunError.{TextRunError}
use Rattle.compiled_runs.specs.declared.error.TextRunError.TheVariants.{NotCompiled, NotRun}

-- the text is a program, and the outcome is what it means on the graph within n turns
pub record IsMeaningOf (text : List ℕ) (graph : Digraph) (turns : ℕ) (o : Outcome) : Type 0 where
  pub program : ProgramTree
  pub is_program : IsProgram text program
  pub shows : o ≡ meaning program (graph_value graph) turns

-- the text has a plan
pub record HasPlan (text : List ℕ) : Type 0 where
  pub plan : Plan
  pub of : IsPlanOfText text plan

-- the reader is as it was where the text was not compiled, else as the refused run leaves it
abbrev pub LeavesText : State → TextRunError → ReaderState → ReaderState → Type 0
LeavesText base (NotCompiled why) old new = new ≡ old
LeavesText base (NotRun why) old new = Leaves base why old new
