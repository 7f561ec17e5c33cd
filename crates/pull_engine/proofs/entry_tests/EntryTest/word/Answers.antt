-- Proofs of `word`, src/entry_tests.rt.
use Rattle.std.proofs.Common.{rules, ◌≡◌, ◌+◌, ◌*◌, ℤ, FitsSigned, to_z, of_z, w64, ap, ◌∙◌, arith}
use Rattle.std.proofs.lemmas.Int.{to_z-of_z}
use Rattle.algorithm_meaning.specs.Arithmetic.{compared}
use Rattle.vectors.specs.Lanes.{lane_entry}
use Rattle.pull_engine.proofs.EntryWords.{word_of_entries}
use Rattle.pull_engine.proofs.entry_tests.EntryTest.word.Goals as goal

pub returns : goal.returns
returns c v at =
    let t = c.args.self.now in
    let k = c.args.block in
    let fits : FitsSigned w64 t.number = search rules in
    word_of_entries (λ (e : ℤ). compared t.comparison e (to_z w64 (of_z w64 t.number))) (lane_entry t.lane) c.entries_from-entries.result k c.compared_word-2.result v (search rules)
    (λ i l. let place : k * 64 + i ≡ 64 * k + i = omega arith in c.entries_from-entries.ensures i l ∙ ap (lane_entry t.lane) place) c.compared_word-2.ensures at
    ∙ ap (λ (n : ℤ). compared t.comparison (lane_entry t.lane v) n) (to_z-of_z w64 t.number fits)
