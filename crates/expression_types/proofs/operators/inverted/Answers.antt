-- Proofs of `inverted`, src/operators.rt.
use Rattle.std.proofs.Common.{ap, sym, ◌∙◌, length}
use Rattle.typed_tree.specs.BoolExpressionTree.{bool_expression_tree, inverted}
use Rattle.expression_types.specs.ValueTree.{Condition}
use Rattle.expression_types.proofs.SignLaws.{condition_inverted, condition_misses, named_so}
use Rattle.expression_types.proofs.operators.inverted.Goals as goal

pub returns-then-not-are_all_not : goal.returns-then-not-are_all_not
returns-then-not-are_all_not c =
    named_so (condition_misses c.args.at c.args.first_fault.now c.args.signs.now (bool_expression_tree c.args.c) (sym c.are_all_not.ensures ∙ c.if-not-are_all_not.true))
    c.fault.ensures.value c.fault.ensures.first_fault

pub returns : goal.returns
returns c =
    condition_inverted c.args.at c.args.first_fault.now c.args.signs.now (bool_expression_tree c.args.c) (sym c.are_all_not.ensures ∙ c.if-not-are_all_not.false)
    ∙ ap (λ d. (Condition (inverted (length c.args.signs.now) (bool_expression_tree d)), c.args.first_fault.now)) (sym c.in_ok-c.ensures.ok)
