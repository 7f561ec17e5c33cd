-- What operators give. An int is a number of 64 bits with a sign.
use Rattle.std.specs.Prelude.{◌≡◌, zero, suc, ◌<◌, unsigned_abs, ℤ, pos, negsuc, neg_ℤ, ◌+ℤ◌, ◌-ℤ◌, ◌*ℤ◌, Bool, true, false, not, int_lt, ◌&&◌, ◌||◌, int_div}
use Rattle.std.specs.Prelude.{int_rem}
use Rattle.std.specs.Int.{int_wrap, int_min, int_max, w64}
use Rattle.typed_tree.specs.declared.expression.Operator.{Operator}
use Rattle.typed_tree.specs.declared.expression.Operator.TheVariants as operator
use Rattle.apply_options.specs.declared.reduction.Reduction.{Reduction}
use Rattle.apply_options.specs.declared.reduction.Reduction.TheVariants as reduction
use Rattle.typed_tree.specs.declared.expression.ComparisonOperator.{ComparisonOperator}
use Rattle.typed_tree.specs.declared.expression.ComparisonOperator.TheVariants as comparison
use Rattle.typed_tree.specs.declared.expression.Connective.{Connective}
use Rattle.typed_tree.specs.declared.expression.Connective.TheVariants as connective

-- the int that has the low 64 bits of a number
abbrev pub wrapped : ℤ → ℤ
wrapped z = int_wrap w64 z

-- the quotient, its fraction cut off; 0 where the divisor is 0
abbrev pub quotient : ℤ → ℤ → ℤ
quotient a (pos zero) = pos 0
quotient a (pos (suc n)) = wrapped (int_div a (pos (suc n)))
quotient a (negsuc n) = wrapped (int_div a (negsuc n))

-- what the division leaves, with the sign of the dividend; 0 where the divisor is 0
abbrev pub remainder : ℤ → ℤ → ℤ
remainder a (pos zero) = pos 0
remainder a (pos (suc n)) = int_rem a (pos (suc n))
remainder a (negsuc n) = int_rem a (negsuc n)

-- the quotient times the divisor, and the remainder, are the dividend; and the remainder is the smaller of the two, signs aside
pub record DividesWithRemainder (a b : ℤ) : Type 0 where
  pub whole : quotient a b *ℤ b +ℤ remainder a b ≡ a
  pub below : unsigned_abs (remainder a b) < unsigned_abs b

abbrev pub arithmetic : Operator → ℤ → ℤ → ℤ
arithmetic operator.Add a b = wrapped (a +ℤ b)
arithmetic operator.Subtract a b = wrapped (a -ℤ b)
arithmetic operator.Multiply a b = wrapped (a *ℤ b)
arithmetic operator.Divide a b = quotient a b
arithmetic operator.Remainder a b = remainder a b

-- the number with its sign changed
abbrev pub negative : ℤ → ℤ
negative a = wrapped (neg_ℤ a)

-- neither is below the other
abbrev pub int_equal : ℤ → ℤ → Bool
int_equal a b = not (int_lt a b) && not (int_lt b a)

abbrev pub compared : ComparisonOperator → ℤ → ℤ → Bool
compared comparison.Equal a b = int_equal a b
compared comparison.NotEqual a b = not (int_equal a b)
compared comparison.Less a b = int_lt a b
compared comparison.LessOrEqual a b = not (int_lt b a)
compared comparison.Greater a b = int_lt b a
compared comparison.GreaterOrEqual a b = not (int_lt a b)

abbrev pub bool_equal : Bool → Bool → Bool
bool_equal true b = b
bool_equal false b = not b

abbrev pub connected : Connective → Bool → Bool → Bool
connected connective.And a b = a && b
connected connective.Or a b = a || b
connected connective.Equal a b = bool_equal a b
connected connective.NotEqual a b = not (bool_equal a b)

-- an entry or a variable reduced with a number
abbrev pub reduced : Reduction → ℤ → ℤ → ℤ
reduced reduction.Min a b = int_min a b
reduced reduction.Max a b = int_max a b
reduced reduction.Plus a b = wrapped (a +ℤ b)
