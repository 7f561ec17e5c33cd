use Rattle.std.proofs.Common.{◌≡◌, drop}
use Rattle.typed_tree.specs.FunctionStatementTree.{function_statements_tree}
use Rattle.algorithm_meaning.specs.Function.{after_steps}
use Rattle.plain_run.specs.inside.Seen.{work_of}
use Rattle.plain_run.proofs.function.+steps.Given as goal

-- what is left to do from here comes to what was to be done
abbrev pub invariant-run_steps-steps : goal.invariant-run_steps-steps
invariant-run_steps-steps l =
    after_steps l.writing l.sets (function_statements_tree (drop l.step-index l.steps)) (work_of l.vectors.items l.frame)
    ≡ after_steps l.writing l.sets (function_statements_tree l.steps) (work_of l.fn.vectors.items l.fn.frame)
