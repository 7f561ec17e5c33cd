-- Proofs of `in_sum`, src/bare_name.rt.
use Rattle.std.proofs.Common.{◌<◌, length, rules}
use Rattle.syntax.specs.inside.ExpressionViews.{term_of}
use Rattle.expression_types.proofs.LoneOperands.{several_terms}
use Rattle.expression_types.proofs.bare_name.in_sum.Goals as goal

pub returns-else-is_empty : goal.returns-else-is_empty
returns-else-is_empty c =
    let some : 0 < length c.args.sum.now.more.items = search rules in
    several_terms (term_of c.args.sum.now.first) c.args.sum.now.more.items some
