-- Proofs of the mutually recursive functions of src/function.rt.
use Rattle.std.proofs.Common.{◌≡◌, true, false, ap, sym, ◌∙◌}
use Rattle.typed_tree.specs.BoolExpressionTree.{bool_expression_tree}
use Rattle.typed_tree.specs.FunctionStatementTree.{function_statement_tree, function_statements_tree}
use Rattle.typed_tree.proofs.Steps.{function_statement_tree-If, function_statement_tree-IfElse}
use Rattle.algorithm_meaning.specs.Value.{truth}
use Rattle.plain_run.specs.inside.Seen.{scope_of, work_of}
use Rattle.plain_run.proofs.Works.{after_step-If_true, after_step-IfElse}
use Rattle.plain_run.proofs.function.+steps.Goals as goal

pub run_step-returns-then-holds : goal.run_step-returns-then-holds
run_step-returns-then-holds t c =
    let tree = ap function_statement_tree c.in-If.is ∙ function_statement_tree-If c.in-If.c c.in-If.body in
    let w = work_of c.args.vectors.now.items c.args.frame.now in
    let holds : truth c.args.vectors.now.items c.args.sets.now (scope_of c.args.frame.now.scope) (bool_expression_tree c.in-If.c) ≡ true =
    rw (← c.deref-in-If.ensures.value) (sym c.holds.ensures ∙ c.if-holds.true) in
    let step = after_step-If_true c.args.writing c.args.sets.now (bool_expression_tree c.in-If.c) (function_statements_tree c.in-If.body.items) w holds in
    rw (tree, step, ← c.deref-then-holds.ensures.value) c.run_block.ensures

pub run_step-returns-then-holds-2 : goal.run_step-returns-then-holds-2
run_step-returns-then-holds-2 t c =
    let tree = ap function_statement_tree c.in-IfElse.is ∙ function_statement_tree-IfElse c.in-IfElse.c c.in-IfElse.body c.in-IfElse.other in
    let w = work_of c.args.vectors.now.items c.args.frame.now in
    let holds : truth c.args.vectors.now.items c.args.sets.now (scope_of c.args.frame.now.scope) (bool_expression_tree c.in-IfElse.c) ≡ true =
    rw (← c.deref-in-IfElse.ensures.value) (sym c.holds-in-IfElse.ensures ∙ c.if-holds-2.true) in
    let step = after_step-IfElse c.args.writing c.args.sets.now (bool_expression_tree c.in-IfElse.c) (function_statements_tree c.in-IfElse.body.items)
    (function_statements_tree c.in-IfElse.other.items) w true holds in
    rw (tree, step, ← c.deref-then-holds-2.ensures.value) c.run_block-then-holds-2.ensures

pub run_step-returns-else-holds-2 : goal.run_step-returns-else-holds-2
run_step-returns-else-holds-2 t c =
    let tree = ap function_statement_tree c.in-IfElse.is ∙ function_statement_tree-IfElse c.in-IfElse.c c.in-IfElse.body c.in-IfElse.other in
    let w = work_of c.args.vectors.now.items c.args.frame.now in
    let holds : truth c.args.vectors.now.items c.args.sets.now (scope_of c.args.frame.now.scope) (bool_expression_tree c.in-IfElse.c) ≡ false =
    rw (← c.deref-in-IfElse.ensures.value) (sym c.holds-in-IfElse.ensures ∙ c.if-holds-2.false) in
    let step = after_step-IfElse c.args.writing c.args.sets.now (bool_expression_tree c.in-IfElse.c) (function_statements_tree c.in-IfElse.body.items)
    (function_statements_tree c.in-IfElse.other.items) w false holds in
    rw (tree, step, ← c.deref-else-holds-2.ensures.value) c.run_block-else-holds-2.ensures
