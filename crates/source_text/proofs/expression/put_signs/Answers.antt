-- Proofs of `put_signs`, src/expression.rt.
use Rattle.std.proofs.Common.{◌∷◌, refl}
use Rattle.syntax.specs.ExpressionSpelling.{prefix_terminal}
use Rattle.source_text.specs.inside.Written.{signs_before}
use Rattle.source_text.proofs.Puts.{up_to_none, up_to_more, up_to_all}
use Rattle.source_text.proofs.expression.put_signs.Goals as goal

pub signs-init : goal.signs-init
signs-init c =
    up_to_none (signs_before c.args.signs.now) (λ sign others. prefix_terminal sign ∷ others) c.args.signs.now c.args.out.now.items (λ rest. refl)

pub signs-preserved : goal.signs-preserved
signs-preserved c =
    up_to_more (signs_before c.args.signs.now) (λ sign others. prefix_terminal sign ∷ others) c.args.signs.now c.signs.sign-index _ _ c.args.out.now.items c.signs.out.items c.put_prefix.new.out.items
    c.signs.invariant c.signs-test.true refl c.in_ok-put_prefix.ensures

pub returns : goal.returns
returns c =
    up_to_all (signs_before c.args.signs.now) (λ sign others. prefix_terminal sign ∷ others) c.args.signs.now c.signs.sign-index c.args.out.now.items c.signs.out.items
    c.signs.invariant c.signs-test.false
