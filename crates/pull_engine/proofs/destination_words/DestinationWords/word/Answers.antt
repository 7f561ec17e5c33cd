-- Proofs of `word`, src/destination_words.rt.
use Rattle.std.proofs.Common.{◌-◌, ◌*◌, sym, ap, ◌∙◌, arith}
use Rattle.std.proofs.lemmas.Nat.Bits.{bit_at_ones}
use Rattle.pull_engine.specs.inside.Lets.{lets}
use Rattle.pull_engine.proofs.WordBits.{set_test}
use Rattle.pull_engine.proofs.destination_words.DestinationWords.word.Goals as goal

pub returns-in-All : goal.returns-in-All
returns-in-All c v at =
    set_test 18446744073709551615 (v - 64 * c.args.block) (bit_at_ones 64 (v - 64 * c.args.block) (omega (arith, at)))
    ∙ sym (ap (λ d. lets d v) c.in-All.is)
