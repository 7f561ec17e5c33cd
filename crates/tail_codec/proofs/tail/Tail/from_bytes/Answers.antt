-- Proofs of `from_bytes`, src/tail.rt.
use Rattle.std.proofs.Common.{ℕ, List, Option, refl, ◌≡◌}
use Rattle.std.proofs.lemmas.Result.{err_from_is_err_and}
use Rattle.ascending_lists.specs.Ascending.{least}
use Rattle.tail_codec.specs.Spelling.{Spells, SpellsFrom}
use Rattle.tail_codec.specs.inside.Decoding.{decoded, entries_over}
use Rattle.tail_codec.proofs.Lists.{spells_decoded}
use Rattle.tail_codec.proofs.tail.Tail.from_bytes.Goals as goal

-- what was read over the base
read : (base : Option ℕ) (bytes : List ℕ) (low : ℕ) → low ≡ least base → SpellsFrom low (decoded low bytes) bytes → Spells base (entries_over base bytes) bytes
read base bytes low is spelled = rw is at spelled

pub returns-in_default : goal.returns-in_default
returns-in_default c = λ es spells. c.in_default.ensures (rw c.least_over.ensures.low (spells_decoded (least c.args.base) es c.args.bytes.now spells))

pub from_spelling-requires-clause-spelled : goal.from_spelling-requires-clause-spelled
from_spelling-requires-clause-spelled c = read c.args.base c.args.bytes.now c.least_over.result c.least_over.ensures.low c.in-Some.ensures.0

pub returns-in_err-from_spelling : goal.returns-in_err-from_spelling
returns-in_err-from_spelling c =
    let p = err_from_is_err_and c.from_residual.result c.from_residual.ensures.1 in
    rw (p.1, p.2) (entries_over c.args.base c.args.bytes.now, read c.args.base c.args.bytes.now c.least_over.result c.least_over.ensures.low c.in-Some.ensures.0)

pub returns : goal.returns
returns c = rw c.in_ok-from_spelling.ensures (refl, read c.args.base c.args.bytes.now c.least_over.result c.least_over.ensures.low c.in-Some.ensures.0)
