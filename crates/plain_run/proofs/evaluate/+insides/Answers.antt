-- Proofs of the mutually recursive functions of src/evaluate.rt.
use Rattle.std.proofs.Common.{ap, ◌∙◌, refl}
use Rattle.typed_tree.specs.IntExpressionTree.{int_expression_tree}
use Rattle.typed_tree.proofs.Chains.{int_expression_tree-Arithmetic}
use Rattle.plain_run.specs.inside.Seen.{scope_of}
use Rattle.plain_run.proofs.Chains.{inside-operands}
use Rattle.plain_run.proofs.evaluate.+insides.Goals as goal

pub is_inside-returns-then-is_inside-2 : goal.is_inside-returns-then-is_inside-2
is_inside-returns-then-is_inside-2 t c =
    let tree = ap int_expression_tree c.in-Arithmetic.is ∙ int_expression_tree-Arithmetic c.in-Arithmetic.first c.in-Arithmetic.operands in
    let whole = inside-operands c.args.vertices c.args.vectors.now c.args.sets.now (scope_of c.args.scope.now) (int_expression_tree c.in-Arithmetic.first.value) c.in-Arithmetic.operands.items in
    rw (tree, ← whole, ← c.deref-in-Arithmetic.ensures, ← c.is_inside-in-Arithmetic.ensures, c.if-is_inside-2.true, ← c.deref-then-is_inside-2.ensures.value) c.are_inside.ensures

pub is_inside-returns-else-is_inside-2 : goal.is_inside-returns-else-is_inside-2
is_inside-returns-else-is_inside-2 t c =
    let tree = ap int_expression_tree c.in-Arithmetic.is ∙ int_expression_tree-Arithmetic c.in-Arithmetic.first c.in-Arithmetic.operands in
    let whole = inside-operands c.args.vertices c.args.vectors.now c.args.sets.now (scope_of c.args.scope.now) (int_expression_tree c.in-Arithmetic.first.value) c.in-Arithmetic.operands.items in
    rw (tree, ← whole, ← c.deref-in-Arithmetic.ensures, ← c.is_inside-in-Arithmetic.ensures, c.if-is_inside-2.false) refl
