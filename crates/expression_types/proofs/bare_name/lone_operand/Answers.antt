-- Proofs of `lone_operand`, src/bare_name.rt.
use Rattle.std.proofs.Common.{◌<◌, length, rules, ap, ◌∙◌}
use Rattle.syntax.specs.inside.ExpressionViews.{conjunction_of}
use Rattle.expression_types.specs.BareNames.{only_operand}
use Rattle.expression_types.proofs.LoneOperands.{several_conjunctions}
use Rattle.expression_types.proofs.bare_name.lone_operand.Goals as goal

pub returns-else-is_empty : goal.returns-else-is_empty
returns-else-is_empty c =
    let some : 0 < length c.expression.inside.more.items = search rules in
    several_conjunctions (conjunction_of c.expression.inside.first) c.expression.inside.more.items some
    ∙ ap only_operand c.expression.view_is
