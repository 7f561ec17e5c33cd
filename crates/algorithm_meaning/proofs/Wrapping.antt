-- Quotients that are cut to 64 bits.
use Rattle.std.proofs.Common.{◌≡◌, ℕ, zero, suc, ◌/◌, ◌%◌, ◌^◌, ◌<◌, ◌≤◌, ℤ, pos, negsuc, neg_ℤ, FitsSigned, w64, ap, sym, refl, arith, unsigned_abs, int_div}
use Rattle.std.proofs.Math.Nat.{div-le_self, mod-eq_of_lt}
use Rattle.std.specs.Int.{int_wrap, cast_signed, cast_unsigned, int_wrapping_div}
use Rattle.algorithm_meaning.specs.Arithmetic.{wrapped}

-- a number of at most 64 bits, cast to a signed one, is wrapped
pub wraps_by_cast : (z : ℤ) → unsigned_abs z < 2 ^ 64 → cast_signed w64 (cast_unsigned w64 z) ≡ wrapped z
unfolding int_wrap
wraps_by_cast (pos n) h = ap (cast_signed w64) (sym (mod-eq_of_lt h))
wraps_by_cast (negsuc n) h = let small : n < 2 ^ 64 = omega arith in let e : n % 2 ^ 64 ≡ n = mod-eq_of_lt small in ap (cast_signed w64) (omega arith)

unsigned_abs-neg : (n : ℕ) → unsigned_abs (neg_ℤ (pos n)) ≡ n
unsigned_abs-neg zero = refl
unsigned_abs-neg (suc n) = refl

-- no quotient is greater than its dividend, signs aside
pub quotient_below : (a b : ℤ) → unsigned_abs (int_div a b) ≤ unsigned_abs a
quotient_below (pos a) (pos b) = div-le_self a b
quotient_below (pos a) (negsuc b) = rw (unsigned_abs-neg (a / suc b)) (div-le_self a (suc b))
quotient_below (negsuc a) (pos b) = rw (unsigned_abs-neg (suc a / b)) (div-le_self (suc a) b)
quotient_below (negsuc a) (negsuc b) = div-le_self (suc a) (suc b)

-- a signed number of 64 bits is below 2 ^ 64, its sign aside
pub below_two_to_64 : (z : ℤ) → FitsSigned w64 z → unsigned_abs z < 2 ^ 64
below_two_to_64 (pos n) h = omega (arith, h)
below_two_to_64 (negsuc n) h = omega (arith, h)

pub wrapping_div-wrapped : (a b : ℤ) → FitsSigned w64 a → int_wrapping_div w64 a b ≡ wrapped (int_div a b)
wrapping_div-wrapped a b h = wraps_by_cast (int_div a b) (let small : unsigned_abs a < 2 ^ 64 = below_two_to_64 a h in omega (arith, quotient_below a b))
