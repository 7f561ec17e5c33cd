-- Proofs of `clear_named`, src/members.rt.
use Rattle.std.proofs.Common.{◌≡◌, ◌≢◌, ◌+◌, ◌^◌, ◌<◌, ℕ, length, length-set, get_or, get_or-set_same, get_or-set_other, ap, ◌∙◌, rules}
use Rattle.std.proofs.lemmas.List.{get_or_past}
use Rattle.vertex_marks.proofs.Naming.{fewer_left}
use Rattle.vertex_marks.proofs.Setting.{stay_more, cleared_more, all_cleared}
use Rattle.vertex_marks.proofs.members.clear_named.Goals as goal
use Rattle.vertex_marks.proofs.members.clear_named.Goals.{then-index-words, else-index-words}
use lib.Count.{count_trailing_zeros}

pub words-smaller : goal.words-smaller
words-smaller c =
    let fits : c.words.left < 2 ^ 64 = search rules in
    fewer_left c.args.first c.words.left c.words-test.true fits

pub words-preserved : goal.words-preserved
words-preserved c =
    let left = c.words.left in
    let words = c.words.words in
    let new = c.if-index-words.words in
    let index = c.args.first + count_trailing_zeros 64 left in
    let fits : left < 2 ^ 64 = search rules in
    let written : (length new ≡ length words) × (get_or new index 0 ≡ 0) × ((p : ℕ) → p ≢ index → get_or new p 0 ≡ get_or words p 0) =
    elim c.if-index-words.branch [
      | then-index-words w ↦ (
        ap length w.words-is ∙ length-set words index 0,
        ap (λ ws. get_or ws index 0) w.words-is ∙ get_or-set_same words index 0 0 w.if-index-words.true,
        λ p apart. ap (λ ws. get_or ws p 0) w.words-is ∙ get_or-set_other words index p 0 0 apart,
      )
      | else-index-words w ↦ (
        ap length w.words-is,
        ap (λ ws. get_or ws index 0) w.words-is ∙ get_or_past words index 0 w.if-index-words.false,
        λ p apart. ap (λ ws. get_or ws p 0) w.words-is,
      )
    ] in
    record {
      len = written.0 ∙ c.words.invariant.len;
      stay = λ p some. c.words.invariant.stay p (stay_more words new index written.1 written.2 p some);
      clear = λ p is. cleared_more words new c.args.first left c.words-test.true fits written.1 written.2 p (c.words.invariant.clear p is);
    }

pub returns-clause-clear : goal.returns-clause-clear
returns-clause-clear c = λ p is. all_cleared c.words.words c.args.first c.words.left c.words-test.false p (c.words.invariant.clear p is)
