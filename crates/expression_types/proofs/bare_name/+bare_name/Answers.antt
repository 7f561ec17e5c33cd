-- Proofs of `bare_name` and its mutually recursive functions, src/bare_name.rt.
use Rattle.std.proofs.Common.{◌<◌, length, rules, ap, ◌∙◌}
use Rattle.syntax.specs.ExpressionViews.{primary_of}
use Rattle.expression_types.proofs.LoneOperands.{bare_name-operand, operand_name, signed_name}
use Rattle.expression_types.proofs.bare_name.+bare_name.Goals as goal

pub returns-then-not-is_empty : goal.returns-then-not-is_empty
returns-then-not-is_empty t c =
    let unary = c.in_ok-unary.unary.now in
    let some : 0 < length unary.signs.items = search rules in
    signed_name unary.signs.items (primary_of unary.primary) some ∙ ap operand_name c.in_ok-unary.ensures ∙ bare_name-operand c.args.expression.now
