-- Proofs of the mutually recursive functions of src/accesses.rt.
use Rattle.std.proofs.Common.{ap, ◌∙◌}
use Rattle.std.proofs.lemmas.List.{append_assoc}
use Rattle.std.proofs.lemmas.Result.{on_ok_weaker}
use Rattle.typed_tree.specs.FunctionStatementTree.{function_statement_tree, function_statements_tree}
use Rattle.typed_tree.specs.inside.Access.{steps_write}
use Rattle.typed_tree.proofs.Steps.{function_statement_tree-If, function_statement_tree-IfElse}
use Rattle.typed_tree.proofs.accesses.+writes.Goals as goal

pub push_written_by-returns-in-If : goal.push_written_by-returns-in-If
push_written_by-returns-in-If t c =
    let tree = ap function_statement_tree c.in-If.is ∙ function_statement_tree-If c.in-If.field-0 c.in-If.body in
    rw (tree, ← c.deref.ensures.value) c.push_written_by_all.ensures

pub push_written_by-returns-in_ok-push_written_by_all-in-IfElse : goal.push_written_by-returns-in_ok-push_written_by_all-in-IfElse
push_written_by-returns-in_ok-push_written_by_all-in-IfElse t c =
    let tree = ap function_statement_tree c.in-IfElse.is ∙ function_statement_tree-IfElse c.in-IfElse.field-0 c.in-IfElse.body c.in-IfElse.other in
    let body = steps_write (function_statements_tree c.in-IfElse.body.items) in
    let other = steps_write (function_statements_tree c.in-IfElse.other.items) in
    on_ok_weaker c.push_written_by_all-in-IfElse-2.result
    (λ e. rw (tree, ← append_assoc c.args.vectors.now.items body other, ← c.deref-in-IfElse.ensures.value, ← c.deref-in-IfElse-2.ensures.value, ← c.in_ok-push_written_by_all-in-IfElse.ensures) e)
    c.push_written_by_all-in-IfElse-2.ensures
