-- The law of division.
use Rattle.std.proofs.Common.{◌≡◌, zero, suc, ◌<◌, ℤ, pos, negsuc, FitsSigned, w64, refl, arith, unsigned_abs, int_div, int_rem}
use Rattle.std.proofs.lemmas.Int.{int_wrap_fits, quot-rem, rem_below}
use Rattle.algorithm_meaning.specs.Arithmetic.{quotient, remainder, DividesWithRemainder}

-- a quotient that fits is the quotient of whole numbers
quotient-fits : (a b : ℤ) → 0 < unsigned_abs b → FitsSigned w64 (int_div a b) → quotient a b ≡ int_div a b
quotient-fits a (pos zero) h fits = absurd (omega (arith, h))
quotient-fits a (pos (suc n)) h fits = int_wrap_fits w64 (int_div a (pos (suc n))) fits
quotient-fits a (negsuc n) h fits = int_wrap_fits w64 (int_div a (negsuc n)) fits

remainder-divisor : (a b : ℤ) → 0 < unsigned_abs b → remainder a b ≡ int_rem a b
remainder-divisor a (pos zero) h = absurd (omega (arith, h))
remainder-divisor a (pos (suc n)) h = refl
remainder-divisor a (negsuc n) h = refl

pub divides_with_remainder : (a b : ℤ) → 0 < unsigned_abs b → FitsSigned w64 (int_div a b) → DividesWithRemainder a b
divides_with_remainder a b h fits = record {
  whole = rw (quotient-fits a b h fits, remainder-divisor a b h) (quot-rem a b);
  below = rw (remainder-divisor a b h) (rem_below a b h);
}
