-- Proofs of the mutually recursive functions of src/evaluate.rt.
use Rattle.std.proofs.Common.{ap, ◌∙◌}
use Rattle.typed_tree.specs.BoolExpressionTree.{bool_expression_tree}
use Rattle.typed_tree.proofs.Chains.{bool_expression_tree-Connect}
use Rattle.plain_run.specs.inside.Seen.{scope_of}
use Rattle.plain_run.proofs.Chains.{truth-conditions}
use Rattle.plain_run.proofs.evaluate.+truths.Goals as goal

pub holds-returns-in-Connect : goal.holds-returns-in-Connect
holds-returns-in-Connect t c =
    let tree = ap bool_expression_tree c.in-Connect.is ∙ bool_expression_tree-Connect c.in-Connect.connective c.in-Connect.first c.in-Connect.conditions in
    let value = truth-conditions c.args.vectors.now c.args.sets.now (scope_of c.args.scope.now) c.in-Connect.connective (bool_expression_tree c.in-Connect.first.value) c.in-Connect.conditions.items in
    rw (tree, ← value, ← c.deref-in-Connect.ensures, ← c.holds-left.ensures, ← c.deref-in-Connect-2.ensures.value) c.before_conditions.ensures
