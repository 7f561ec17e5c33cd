-- Proofs of the mutually recursive functions of src/evaluate.rt.
use Rattle.std.proofs.Common.{ap, ◌∙◌}
use Rattle.typed_tree.specs.IntExpressionTree.{int_expression_tree}
use Rattle.typed_tree.proofs.Chains.{int_expression_tree-Arithmetic}
use Rattle.plain_run.specs.inside.Seen.{scope_of}
use Rattle.plain_run.proofs.Chains.{value-operands}
use Rattle.plain_run.proofs.evaluate.+totals.Goals as goal

pub total_of-returns-in-Arithmetic : goal.total_of-returns-in-Arithmetic
total_of-returns-in-Arithmetic t c =
    let tree = ap int_expression_tree c.in-Arithmetic.is ∙ int_expression_tree-Arithmetic c.in-Arithmetic.first c.in-Arithmetic.operands in
    let value = value-operands c.args.vectors.now c.args.sets.now (scope_of c.args.scope.now) (int_expression_tree c.in-Arithmetic.first.value) c.in-Arithmetic.operands.items in
    rw (tree, ← value, ← c.deref-in-Arithmetic.ensures, ← c.total_of-left.ensures, ← c.deref-in-Arithmetic-2.ensures.value) c.before_operands.ensures
