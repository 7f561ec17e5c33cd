-- Proofs of `integer_read_back`, src/numbers.rt.
use Rattle.decimal.proofs.NumberLaws.{integer-read_back}
use Rattle.decimal.proofs.numbers.integer_read_back.Goals as goal

pub returns : goal.returns
returns c = integer-read_back
