-- Proofs of `word_at`, src/sources.rt.
use Rattle.std.proofs.Common.{◌+◌, ◌*◌, ℕ, List, Option, sym, ap, ◌∙◌}
use Rattle.std.proofs.lemmas.Bool.{eq-eqb}
use Rattle.std.proofs.lemmas.Nat.Bits.{bit_at_ones}
use Rattle.std.specs.Borrow.{Bor}
use Rattle.std.specs.Int.{bit_at}
use Rattle.edge_apply.specs.Words.{passes_words}
use Rattle.push_engine.proofs.sources.word_at.Goals as goal

pub returns-in-None : goal.returns-in-None
returns-in-None c i l =
    eq-eqb (bit_at 18446744073709551615 i) 1 (bit_at_ones 64 i l) ∙ sym (ap (λ (o : Option (Bor (List ℕ))). passes_words o (64 * c.args.number + i)) c.in-None.is)
