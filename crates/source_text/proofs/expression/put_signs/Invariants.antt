use Rattle.std.proofs.Common.{◌∷◌}
use Rattle.syntax.specs.ExpressionSpelling.{prefix_terminal}
use Rattle.source_text.specs.inside.Written.{PutsUpTo, signs_before}
use Rattle.source_text.proofs.expression.put_signs.Given as goal

abbrev pub invariant-signs : goal.invariant-signs
invariant-signs l = PutsUpTo (signs_before l.signs) (λ sign others. prefix_terminal sign ∷ others) l.signs l.sign-index l.fn.out.items l.out.items
