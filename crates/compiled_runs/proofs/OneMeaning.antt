-- A text is one program, and so means one outcome.
use Rattle.std.proofs.Common.{◌≡◌, ℕ, List, length, Ok, sym, ap, ◌∙◌}
use Rattle.typed_tree.specs.ProgramTree.{ProgramTree}
use Rattle.algorithm_meaning.specs.declared.outcome.Outcome.{Outcome}
use Rattle.algorithm_meaning.specs.Meaning.{meaning}
use Rattle.flat_snapshot.specs.Digraph.{Digraph}
use Rattle.run_state.specs.State.{graph_value}
use Rattle.parser.specs.SourceTrees.{SourceTree}
use Rattle.parser.specs.Outcome.{IsSource}
use Rattle.parser.proofs.AnswerLaws.{one_answer}
use Rattle.types.specs.Program.{program_of as checked}
use Rattle.plans.specs.declared.plan.Plan.{Plan}
use Rattle.plans.specs.PlanOf.{program_of}
use Rattle.compiler.specs.Outcome.{IsPlanOfText, IsTyped}
use Rattle.compiler.specs.inside.Outcome.{is_compiled}
use Rattle.snapshot_runs.specs.Outcome.{IsOutcomeOn}
use Rattle.compiled_runs.specs.Outcome.{IsMeaningOf}

one_source : (text : List ℕ) (source other : SourceTree) → IsSource text source → IsSource text other → source ≡ other
one_source text source other a b = let same = one_answer text (Ok source) (Ok other) a b in cc

pub one_program : (text : List ℕ) (p q : ProgramTree) → IsTyped text p → IsTyped text q → p ≡ q
one_program text p q a b =
    sym a.typed.1 ∙ ap (λ (s : SourceTree). (checked s (length text)).value) (one_source text a.source b.source a.parsed b.parsed) ∙ b.typed.1

pub one_meaning : (text : List ℕ) (graph : Digraph) (turns : ℕ) (o other : Outcome) → IsMeaningOf text graph turns o → IsMeaningOf text graph turns other → o ≡ other
one_meaning text graph turns o other a b =
    a.shows ∙ ap (λ (p : ProgramTree). meaning p (graph_value graph) turns) (one_program text a.program b.program a.is_program.typed b.is_program.typed) ∙ sym b.shows

-- an outcome of the plan of a text is what the text means
pub shows_meaning : (text : List ℕ) (plan : Plan) (graph : Digraph) (turns : ℕ) (o : Outcome) → IsPlanOfText text plan → IsOutcomeOn plan graph turns o → IsMeaningOf text graph turns o
shows_meaning text plan graph turns o of shows = record {
  program = program_of plan;
  is_program = record { typed = of.typed; schedule = of.schedule; accepted = of.accepted };
  shows = shows (is_compiled of);
}
