-- Proofs of `filter_passes`, src/filter.rt.
use Rattle.std.proofs.Common.{ap, ◌∙◌, false, slice_index_or}
use Rattle.typed_tree.specs.FunctionStatementTree.{function_statements_tree}
use Rattle.algorithm_meaning.specs.declared.contribution.Writing.TheVariants.{Collected}
use Rattle.algorithm_meaning.specs.Function.{WorkValue, after_steps}
use Rattle.plain_run.specs.inside.Seen.{work_of}
use Rattle.plain_run.proofs.Works.{collected_steps}
use Rattle.plain_run.proofs.filter.filter_passes.Goals as goal

pub returns-clause-passes : goal.returns-clause-passes
returns-clause-passes c =
    let begun = c.in_ok-begin_filter.ensures c.args.vectors.now.items in
    c.condition_at.ensures
    ∙ ap (λ (w : WorkValue). slice_index_or w.scope.conditions 0 false) (c.in_ok-run_steps.ensures ∙ ap (after_steps Collected c.args.sets.now (function_statements_tree c.args.steps.now)) begun)

pub returns-clause-vectors : goal.returns-clause-vectors
returns-clause-vectors c =
    ap (λ (w : WorkValue). w.vectors) c.in_ok-run_steps.ensures
    ∙ collected_steps c.args.sets.now (function_statements_tree c.args.steps.now) (work_of c.args.vectors.now.items c.begin_filter.new.frame)
