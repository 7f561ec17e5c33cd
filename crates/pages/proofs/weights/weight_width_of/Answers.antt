-- Proofs of `weight_width_of`, src/weights.rt.
use Rattle.std.proofs.Common.{◌≡◌, refl, sym, ◌∙◌, ap, arith}
use Rattle.pages.specs.declared.weights.WeightWidth.{WeightWidth}
use Rattle.pages.specs.declared.weights.WeightWidth.TheVariants.{Ones, OneByte, TwoBytes, FourBytes, EightBytes}
use Rattle.pages.specs.inside.Weights.{weight_size}
use Rattle.pages.proofs.weights.weight_width_of.Goals as goal

-- no byte is taken for ones alone
ones_alone : (w : WeightWidth) → weight_size w ≡ 0 → w ≡ Ones
ones_alone Ones none = refl
ones_alone OneByte none = absurd (omega (arith, none))
ones_alone TwoBytes none = absurd (omega (arith, none))
ones_alone FourBytes none = absurd (omega (arith, none))
ones_alone EightBytes none = absurd (omega (arith, none))

pub returns-clause-ones : goal.returns-clause-ones
returns-clause-ones c = (λ none. c.of.ensures.ones.0 (ones_alone c.of.result (sym c.size.ensures.size ∙ none)), λ all. c.size.ensures.size ∙ ap weight_size (c.of.ensures.ones.1 all))
