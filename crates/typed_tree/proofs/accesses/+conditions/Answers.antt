-- Proofs of the mutually recursive functions of src/accesses.rt.
use Rattle.std.proofs.Common.{ap, ◌∙◌, refl}
use Rattle.typed_tree.specs.BoolExpressionTree.{bool_expression_tree}
use Rattle.typed_tree.proofs.Chains.{bool_expression_tree-Connect}
use Rattle.typed_tree.proofs.Rows.{passes_conditions}
use Rattle.typed_tree.proofs.accesses.+conditions.Goals as goal

pub condition_passes-returns-then-condition_passes : goal.condition_passes-returns-then-condition_passes
condition_passes-returns-then-condition_passes g t c =
    let tree = ap bool_expression_tree c.in-Connect.is ∙ bool_expression_tree-Connect c.in-Connect.field-0 c.in-Connect.first c.in-Connect.conditions in
    let whole = passes_conditions (g.T.AccessTest.passes c.args.test.now) c.in-Connect.field-0 (bool_expression_tree c.in-Connect.first.value) c.in-Connect.conditions.items in
    rw (tree, ← whole, ← c.deref-in-Connect.ensures, ← c.condition_passes-in-Connect.ensures, c.if-condition_passes.true, ← c.deref-then-condition_passes.ensures.value) c.conditions_pass.ensures

pub condition_passes-returns-else-condition_passes : goal.condition_passes-returns-else-condition_passes
condition_passes-returns-else-condition_passes g t c =
    let tree = ap bool_expression_tree c.in-Connect.is ∙ bool_expression_tree-Connect c.in-Connect.field-0 c.in-Connect.first c.in-Connect.conditions in
    let whole = passes_conditions (g.T.AccessTest.passes c.args.test.now) c.in-Connect.field-0 (bool_expression_tree c.in-Connect.first.value) c.in-Connect.conditions.items in
    rw (tree, ← whole, ← c.deref-in-Connect.ensures, ← c.condition_passes-in-Connect.ensures, c.if-condition_passes.false) refl
