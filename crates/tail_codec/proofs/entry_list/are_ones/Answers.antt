-- Proofs of `are_ones`, src/entry_list.rt.
use Rattle.std.proofs.Common.{arith}
use Rattle.tail_codec.proofs.Columns.{all_one}
use Rattle.tail_codec.proofs.entry_list.are_ones.Goals as goal

pub returns : goal.returns
returns c = λ _. λ keys same. all_one c.args.weights.now keys (λ i lt. c.loop-weight.invariant i (omega (arith, lt, c.loop-weight-test.false, c.loop-weight.auto.weight-index-end))) same
