-- Signs before a value.
use Rattle.std.specs.Prelude.{ℕ, Bool, true, false, List, [], ◌∷◌}
use Rattle.syntax.specs.declared.operators.Prefix.{Prefix}
use Rattle.syntax.specs.declared.operators.Prefix.TheVariants as prefix
use Rattle.expression_types.specs.declared.fault.TypeRule.TheVariants as rule
use Rattle.expression_types.specs.Faults.{WithFaults, sure, ◌>>=◌}
use Rattle.expression_types.specs.Operators.{given_or_fault, signed_value}
use Rattle.expression_types.specs.ValueTree.{ValueTree}

-- after signs, of which the last is the closest
abbrev pub signs_value : ℕ → List Prefix → ValueTree → WithFaults ValueTree
signs_value at [] value = sure value
signs_value at (sign ∷ signs) value = signs_value at signs value >>= λ v. given_or_fault at rule.WrongType (signed_value sign v)

abbrev pub all_minus : List Prefix → Bool
all_minus [] = true
all_minus (prefix.Minus ∷ signs) = all_minus signs
all_minus (prefix.Not ∷ signs) = false

abbrev pub all_not : List Prefix → Bool
all_not [] = true
all_not (prefix.Minus ∷ signs) = false
all_not (prefix.Not ∷ signs) = all_not signs
