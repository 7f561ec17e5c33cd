-- Proofs of the mutually recursive functions of src/evaluate.rt.
use Rattle.std.proofs.Common.{ap, ◌∙◌, refl}
use Rattle.typed_tree.specs.BoolExpressionTree.{bool_expression_tree}
use Rattle.typed_tree.proofs.Chains.{bool_expression_tree-Connect}
use Rattle.plain_run.specs.inside.Seen.{scope_of}
use Rattle.plain_run.proofs.Chains.{inside-conditions}
use Rattle.plain_run.proofs.evaluate.+condition_insides.Goals as goal

pub condition_is_inside-returns-then-condition_is_inside : goal.condition_is_inside-returns-then-condition_is_inside
condition_is_inside-returns-then-condition_is_inside t c =
    let tree = ap bool_expression_tree c.in-Connect.is ∙ bool_expression_tree-Connect c.in-Connect.field-0 c.in-Connect.first c.in-Connect.conditions in
    let whole = inside-conditions c.args.vertices c.args.vectors.now c.args.sets.now (scope_of c.args.scope.now) c.in-Connect.field-0
    (bool_expression_tree c.in-Connect.first.value) c.in-Connect.conditions.items in
    rw (
      tree,
      ← whole,
      ← c.deref-in-Connect.ensures,
      ← c.condition_is_inside-in-Connect.ensures,
      c.if-condition_is_inside.true,
      ← c.deref-then-condition_is_inside.ensures.value,
    ) c.conditions_are_inside.ensures

pub condition_is_inside-returns-else-condition_is_inside : goal.condition_is_inside-returns-else-condition_is_inside
condition_is_inside-returns-else-condition_is_inside t c =
    let tree = ap bool_expression_tree c.in-Connect.is ∙ bool_expression_tree-Connect c.in-Connect.field-0 c.in-Connect.first c.in-Connect.conditions in
    let whole = inside-conditions c.args.vertices c.args.vectors.now c.args.sets.now (scope_of c.args.scope.now) c.in-Connect.field-0
    (bool_expression_tree c.in-Connect.first.value) c.in-Connect.conditions.items in
    rw (tree, ← whole, ← c.deref-in-Connect.ensures, ← c.condition_is_inside-in-Connect.ensures, c.if-condition_is_inside.false) refl
