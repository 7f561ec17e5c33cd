-- Proofs of `leading_digits`, src/numbers.rt.
use Rattle.std.proofs.Common.{◌≡◌, None, sym, subst, arith, rules}
use Rattle.decimal.specs.Digits.{AreLeadingDigits}
use Rattle.decimal.proofs.NumberLaws.{too_large}
use Rattle.decimal.proofs.numbers.leading_digits.Goals as goal

pub returns-in_err-checked_mul : goal.returns-in_err-checked_mul
returns-in_err-checked_mul c =
    let gone : c.from_residual.result ≡ None = search rules in
    subst (AreLeadingDigits c.args.bytes.now) (sym gone)
    (too_large c.args.bytes.now c.loop-i.i c.loop-i.number (omega arith) c.loop-i.invariant (search rules) (omega (arith, c.in_err-checked_mul.ensures)))

pub returns-in_err-number : goal.returns-in_err-number
returns-in_err-number c =
    let gone : c.from_residual-in_err-number.result ≡ None = search rules in
    subst (AreLeadingDigits c.args.bytes.now) (sym gone)
    (too_large c.args.bytes.now c.loop-i.i c.loop-i.number (omega arith) c.loop-i.invariant (search rules) (omega (arith, c.in_err-number.ensures, c.in_ok-checked_mul.ensures, c.from.ensures)))
