-- Proofs of `in_conjunction`, src/bare_name.rt.
use Rattle.std.proofs.Common.{◌<◌, length, rules}
use Rattle.syntax.specs.inside.ExpressionViews.{comparison_of}
use Rattle.expression_types.proofs.LoneOperands.{several_comparisons}
use Rattle.expression_types.proofs.bare_name.in_conjunction.Goals as goal

pub returns-else-is_empty : goal.returns-else-is_empty
returns-else-is_empty c =
    let some : 0 < length c.args.conjunction.now.more.items = search rules in
    several_comparisons (comparison_of c.args.conjunction.now.first) c.args.conjunction.now.more.items some
