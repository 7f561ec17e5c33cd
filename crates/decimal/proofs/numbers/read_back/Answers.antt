-- Proofs of `read_back`, src/numbers.rt.
use Rattle.decimal.proofs.NumberLaws.{decimal-IsReadBack}
use Rattle.decimal.proofs.numbers.read_back.Goals as goal

pub returns : goal.returns
returns c = decimal-IsReadBack
