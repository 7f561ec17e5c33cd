use Rattle.std.proofs.Common.{◌≡◌, take}
use Rattle.decimal.specs.Numbers.{digits_number}
use Rattle.decimal.specs.Digits.{BeginsWithDigits}
use Rattle.decimal.proofs.numbers.leading_digits.Given as goal

abbrev pub invariant-loop-i : goal.invariant-loop-i
invariant-loop-i l = BeginsWithDigits l.bytes l.i × (digits_number (take l.i l.bytes) ≡ l.number)
