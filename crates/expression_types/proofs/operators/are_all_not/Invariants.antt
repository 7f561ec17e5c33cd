use Rattle.std.proofs.Common.{◌≡◌, drop}
use Rattle.expression_types.specs.inside.Signs.{all_not}
use Rattle.expression_types.proofs.operators.are_all_not.Given as goal

abbrev pub invariant-signs : goal.invariant-signs
invariant-signs l = all_not l.signs ≡ all_not (drop l.sign-index l.signs)
