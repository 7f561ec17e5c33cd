use Rattle.std.proofs.Common.{◌≡◌, drop}
use Rattle.expression_types.specs.inside.Signs.{all_minus}
use Rattle.expression_types.proofs.operators.are_all_minus.Given as goal

abbrev pub invariant-signs : goal.invariant-signs
invariant-signs l = all_minus l.signs ≡ all_minus (drop l.sign-index l.signs)
