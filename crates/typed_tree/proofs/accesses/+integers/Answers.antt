-- Proofs of the mutually recursive functions of src/accesses.rt.
use Rattle.std.proofs.Common.{ap, ◌∙◌, refl}
use Rattle.typed_tree.specs.IntExpressionTree.{int_expression_tree}
use Rattle.typed_tree.proofs.Chains.{int_expression_tree-Arithmetic}
use Rattle.typed_tree.proofs.Rows.{passes_operands}
use Rattle.typed_tree.proofs.accesses.+integers.Goals as goal

pub integer_passes-returns-then-integer_passes : goal.integer_passes-returns-then-integer_passes
integer_passes-returns-then-integer_passes g t c =
    let tree = ap int_expression_tree c.in-Arithmetic.is ∙ int_expression_tree-Arithmetic c.in-Arithmetic.first c.in-Arithmetic.operands in
    let whole = passes_operands (g.T.AccessTest.passes c.args.test.now) (int_expression_tree c.in-Arithmetic.first.value) c.in-Arithmetic.operands.items in
    rw (tree, ← whole, ← c.deref-in-Arithmetic.ensures, ← c.integer_passes-in-Arithmetic.ensures, c.if-integer_passes.true, ← c.deref-then-integer_passes.ensures.value) c.operands_pass.ensures

pub integer_passes-returns-else-integer_passes : goal.integer_passes-returns-else-integer_passes
integer_passes-returns-else-integer_passes g t c =
    let tree = ap int_expression_tree c.in-Arithmetic.is ∙ int_expression_tree-Arithmetic c.in-Arithmetic.first c.in-Arithmetic.operands in
    let whole = passes_operands (g.T.AccessTest.passes c.args.test.now) (int_expression_tree c.in-Arithmetic.first.value) c.in-Arithmetic.operands.items in
    rw (tree, ← whole, ← c.deref-in-Arithmetic.ensures, ← c.integer_passes-in-Arithmetic.ensures, c.if-integer_passes.false) refl
