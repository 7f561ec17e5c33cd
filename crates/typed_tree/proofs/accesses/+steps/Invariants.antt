use Rattle.std.proofs.Common.{◌≡◌, drop}
use Rattle.typed_tree.specs.FunctionStatementTree.{function_statements_tree}
use Rattle.typed_tree.specs.Fold.{all_pass, steps_fold}
use Rattle.typed_tree.proofs.accesses.+steps.Given as goal

-- all statements so far pass
abbrev pub invariant-steps_pass-steps : goal.invariant-steps_pass-steps
invariant-steps_pass-steps g l =
    let f = all_pass (g.T.AccessTest.passes l.test) in
    steps_fold f (function_statements_tree (drop l.step-index l.steps)) ≡ steps_fold f (function_statements_tree l.steps)
