-- Proofs of `insert`, src/marking.rt.
use Rattle.std.proofs.Common.{◌≡◌, ◌*◌, ◌/◌, ◌%◌, ◌^◌, ◌<◌, bit_or, length, length-set, get_or, ◌∙◌, arith}
use Rattle.std.proofs.lemmas.List.{get_or_default}
use Rattle.vertex_marks.proofs.Setting.{marked_more, summary_more}
use Rattle.vertex_marks.proofs.vertex_marks.VertexMarks.insert.Goals as goal

pub invariant_of-self : goal.invariant_of-self
invariant_of-self c =
    let v = c.args.vertex in
    let words = c.args.self.now.words.items in
    let summary = c.args.self.now.summary.items in
    let within : v / 64 / 64 < length summary = omega (arith, c.requires, c.args.self.now.covered) in
    let is : c.index-2.result.now ≡ get_or summary (v / 64 / 64) 0 =
    c.index-2.ensures ∙ get_or_default summary (v / 64 / 64) c.index-2.result.now 0 within in
    let word = bit_or c.index.result.now (1 * 2 ^ (v % 64) % 2 ^ 64) in
    let sum = bit_or c.index-2.result.now (1 * 2 ^ (v / 64 % 64) % 2 ^ 64) in
    let words_len = length-set words (v / 64) word in
    let summary_len = length-set summary (v / 64 / 64) sum in
    record {
      few = omega (arith, words_len, c.args.self.now.few);
      short = omega (arith, summary_len, c.args.self.now.short);
      covered = omega (arith, words_len, summary_len, c.args.self.now.covered);
      summed = rw is (summary_more words summary v _ within c.args.self.now.summed);
    }

pub returns-clause-marks : goal.returns-clause-marks
returns-clause-marks c = λ u.
    let v = c.args.vertex in
    let words = c.args.self.now.words.items in
    let within : v / 64 < length words = omega (arith, c.requires) in
    let is : c.index.result.now ≡ get_or words (v / 64) 0 =
    c.index.ensures ∙ get_or_default words (v / 64) c.index.result.now 0 within in
    rw is (marked_more words v u within)
