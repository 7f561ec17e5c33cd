use Rattle.std.proofs.Common.{◌≡◌, ◌++◌, drop}
use Rattle.typed_tree.specs.FunctionStatementTree.{function_statements_tree}
use Rattle.typed_tree.specs.inside.Access.{steps_write}
use Rattle.typed_tree.proofs.accesses.+writes.Given as goal

-- what the statements so far write was put after, and what the others write is to come
abbrev pub invariant-push_written_by_all-steps : goal.invariant-push_written_by_all-steps
invariant-push_written_by_all-steps l =
    l.vectors.items ++ steps_write (function_statements_tree (drop l.step-index l.steps)) ≡ l.initial.vectors.items ++ steps_write (function_statements_tree l.steps)
