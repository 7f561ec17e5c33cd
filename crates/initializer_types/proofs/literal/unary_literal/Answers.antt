-- Proofs of `unary_literal`, src/literal.rt.
use Rattle.std.proofs.Common.{◌<◌, length, ap, sym, ◌∙◌}
use Rattle.syntax.specs.ExpressionViews.{primary_of}
use Rattle.initializer_types.proofs.Literals.{several_signs}
use Rattle.initializer_types.proofs.literal.unary_literal.Goals as goal

pub returns-else-len-eq1 : goal.returns-else-len-eq1
returns-else-len-eq1 c =
    let some : 0 < length c.args.unary.now.signs.items = rw (← c.deref.ensures.value) c.in-Some-Minus.ensures.item.3.0 in
    several_signs c.args.unary.now.signs.items (primary_of c.args.unary.now.primary) some (λ e. c.if-len-eq1.false (c.len.ensures ∙ sym c.deref.ensures.len ∙ ap length c.deref.ensures.value ∙ e))
