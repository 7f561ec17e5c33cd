-- Proofs of `push_named`, src/members.rt.
use Rattle.std.proofs.Common.{◌≡◌, ◌+◌, ◌*◌, ◌^◌, ◌<◌, ◌++◌, get_or, ap, sym, ◌∙◌, rules}
use Rattle.std.proofs.lemmas.List.{append-nil}
use Rattle.vertex_sets.specs.inside.Words.{bit_members}
use Rattle.vertex_sets.proofs.BitMembers.{bits_none}
use Rattle.vertex_marks.proofs.Naming.{named_listed, fewer_left, words_listed}
use Rattle.vertex_marks.proofs.members.push_named.Goals as goal
use Rattle.vertex_marks.proofs.members.push_named.Goals.{in-Some+in_ok-push_bits, in_default}
use lib.Count.{count_trailing_zeros}

pub words-smaller : goal.words-smaller
words-smaller c =
    let fits : c.words.left < 2 ^ 64 = search rules in
    fewer_left c.args.first c.words.left c.words-test.true fits

pub words-preserved : goal.words-preserved
words-preserved c =
    let left = c.words.left in
    let words = c.args.words.now in
    let found = c.words.found.items in
    let index = c.args.first + count_trailing_zeros 64 left in
    let fits : left < 2 ^ 64 = search rules in
    let listed : c.match-get.found.items ≡ found ++ bit_members 64 (64 * index) (get_or words index 0) =
    elim c.match-get.branch [
      | in-Some+in_ok-push_bits w ↦
          let word : w.in-Some.word.now ≡ get_or words index 0 = search rules in
          ap (λ v. v.items) w.found-is ∙ w.in_ok-push_bits.ensures ∙ ap (λ n. found ++ bit_members 64 (64 * index) n) word
      | in_default w ↦
          let none : get_or words index 0 ≡ 0 = search rules in
          ap (λ v. v.items) w.found-is ∙ sym (append-nil found)
          ∙ ap (λ xs. found ++ xs) (sym (ap (bit_members 64 (64 * index)) none ∙ bits_none 64 (64 * index)))
    ] in
    named_listed words found c.match-get.found.items c.args.first left c.words-test.true fits listed ∙ c.words.invariant

pub returns : goal.returns
returns c = words_listed c.args.words.now c.words.found.items _ c.args.first c.words.left c.words-test.false c.words.invariant
