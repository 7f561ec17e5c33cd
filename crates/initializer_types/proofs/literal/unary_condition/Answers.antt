-- Proofs of `unary_condition`, src/literal.rt.
use Rattle.std.proofs.Common.{◌<◌, length, rules}
use Rattle.syntax.specs.ExpressionViews.{primary_of}
use Rattle.initializer_types.proofs.Literals.{signed_truth}
use Rattle.initializer_types.proofs.literal.unary_condition.Goals as goal

pub returns-else-is_empty : goal.returns-else-is_empty
returns-else-is_empty c =
    let some : 0 < length c.args.unary.now.signs.items = search rules in
    signed_truth c.args.unary.now.signs.items (primary_of c.args.unary.now.primary) some
