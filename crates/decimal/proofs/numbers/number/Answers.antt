-- Proofs of `number`, src/numbers.rt.
use Rattle.std.proofs.Common.{◌^◌, inl, inr, sym, arith}
use Rattle.decimal.proofs.NumberLaws.{number_of-overflow, number_of-ended, number_of-begun}
use Rattle.decimal.proofs.numbers.number.Goals as goal

pub returns-in_err-number : goal.returns-in_err-number
returns-in_err-number c =
    let gone = number_of-overflow c.args.word.now c.in_err-number.ensures in
    grind (arith, gone)

pub returns-then-len-eq0 : goal.returns-then-len-eq0
returns-then-len-eq0 c = elim c.then-len-eq0.either [
  | inl none ↦ sym (number_of-begun (2 ^ 64) c.args.word.now c.in_ok-number.len none c.in_ok-number.ensures.2)
  | inr more ↦ sym (number_of-ended (2 ^ 64) c.args.word.now c.in_ok-number.len more.1 (c.in_ok-number.ensures.2 more.1))
]
