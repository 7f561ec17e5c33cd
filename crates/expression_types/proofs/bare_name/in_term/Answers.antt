-- Proofs of `in_term`, src/bare_name.rt.
use Rattle.std.proofs.Common.{◌<◌, length, rules}
use Rattle.syntax.specs.ExpressionViews.{unary_of}
use Rattle.expression_types.proofs.LoneOperands.{several_units}
use Rattle.expression_types.proofs.bare_name.in_term.Goals as goal

pub returns-else-is_empty : goal.returns-else-is_empty
returns-else-is_empty c =
    let some : 0 < length c.args.term.now.more.items = search rules in
    several_units (unary_of c.args.term.now.first) c.args.term.now.more.items some
