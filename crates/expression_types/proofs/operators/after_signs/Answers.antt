-- Proofs of `after_signs`, src/operators.rt.
use Rattle.std.proofs.Common.{ap, subst, sym, ◌∙◌, length}
use Rattle.typed_tree.specs.IntExpressionTree.{int_expression_tree, negated}
use Rattle.expression_types.specs.Faults.{ReportsFaults, outcome}
use Rattle.expression_types.specs.inside.Signs.{signs_value}
use Rattle.expression_types.specs.ValueTree.{Integer, is_error, value_tree}
use Rattle.expression_types.proofs.SignLaws.{error_stays, integer_negated, integer_misses, other_misses, named_so, not_empty}
use Rattle.expression_types.proofs.operators.after_signs.Goals as goal

pub returns-then-is_error : goal.returns-then-is_error
returns-then-is_error c =
    error_stays c.args.at c.args.first_fault.now c.args.signs.now (value_tree c.args.value) (sym c.is_error.ensures ∙ c.if-is_error.true)

pub returns-in-Ok : goal.returns-in-Ok
returns-in-Ok c =
    subst (λ v. ReportsFaults value_tree c.args.first_fault.now c.inverted.new.first_fault c.inverted.result (signs_value c.args.at c.args.signs.now v))
    (sym c.in-Ok.ensures.condition) c.inverted.ensures

pub returns-in_default : goal.returns-in_default
returns-in_default c =
    let same = c.in-Err.ensures.other.0 in
    ap (λ v. outcome c.args.first_fault.now (signs_value c.args.at c.args.signs.now v)) (sym same)
    ∙ named_so (other_misses c.args.at c.args.first_fault.now c.args.signs.now (value_tree c.in-Err.value) (not_empty (sym c.is_empty.ensures ∙ c.if-is_empty.false))
    (ap is_error same ∙ sym c.is_error.ensures ∙ c.if-is_error.false) c.in-Err.ensures.other.1 c.in_default.ensures)
    c.fault.ensures.value c.fault.ensures.first_fault

pub returns-then-not-are_all_minus : goal.returns-then-not-are_all_minus
returns-then-not-are_all_minus c =
    ap (λ v. outcome c.args.first_fault.now (signs_value c.args.at c.args.signs.now v)) (sym c.in-Err.ensures.other.0)
    ∙ named_so (integer_misses c.args.at c.args.first_fault.now c.args.signs.now (value_tree c.in-Err.value) (int_expression_tree c.in-Some.e)
    (not_empty (sym c.is_empty.ensures ∙ c.if-is_empty.false)) c.in-Some.ensures (sym c.are_all_minus.ensures ∙ c.if-not-are_all_minus.true))
    c.fault-then-not-are_all_minus.ensures.value c.fault-then-not-are_all_minus.ensures.first_fault

pub returns : goal.returns
returns c =
    ap (λ v. outcome c.args.first_fault.now (signs_value c.args.at c.args.signs.now v)) (sym c.in-Err.ensures.other.0)
    ∙ integer_negated c.args.at c.args.first_fault.now c.args.signs.now (value_tree c.in-Err.value) (int_expression_tree c.in-Some.e)
    (not_empty (sym c.is_empty.ensures ∙ c.if-is_empty.false)) c.in-Some.ensures (sym c.are_all_minus.ensures ∙ c.if-not-are_all_minus.false)
    ∙ ap (λ d. (Integer (negated (length c.args.signs.now) (int_expression_tree d)), c.args.first_fault.now)) (sym c.in_ok-e.ensures.ok)
