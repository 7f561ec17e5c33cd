-- Proofs of `run_for_vertex`, src/vertex_apply.rt.
use Rattle.std.proofs.Common.{ap, ◌∙◌}
use Rattle.typed_tree.specs.FunctionStatementTree.{function_statements_tree}
use Rattle.algorithm_meaning.specs.declared.contribution.Writing.TheVariants.{AtOnce}
use Rattle.algorithm_meaning.specs.Function.{WorkValue, after_steps}
use Rattle.plain_run.proofs.vertex_apply.run_for_vertex.Goals as goal

pub returns : goal.returns
returns c =
    let begun = c.begin.ensures c.args.vectors.now.items in
    ap (λ (w : WorkValue). w.vectors) (c.in_ok-run_steps.ensures ∙ ap (after_steps AtOnce c.args.sets.now (function_statements_tree c.args.steps.now)) begun)
