-- Proofs of `from_test`, src/words.rt.
use Rattle.std.proofs.Common.{◌≡◌, ◌+◌, ◌*◌, ◌-◌, ◌^◌, ◌<◌, ◌++◌, ◌∷◌, [], length, length-append, min, ap, ◌∙◌, arith, rules}
use Rattle.std.proofs.lemmas.List.Elements.{All-from_get_or, Contains-get_or}
use Rattle.vertex_sets.specs.inside.Words.{bit_members, word_members}
use Rattle.vertex_sets.proofs.BitMembers.{length_bits, bits_room}
use Rattle.vertex_sets.proofs.WordMembers.{next_word, next_below, word_members_has, word_answer, words_push, words_room}
use Rattle.vertex_sets.proofs.words.WordSet.from_test.Goals as goal

pub overflow_add-count : goal.overflow_add-count
overflow_add-count g c =
    let l = c.loop-index in
    let word = c.word_from_test-word.result in
    let fits : word < 2 ^ 64 = search rules in
    omega (arith, l.invariant.count, l.invariant.words, words_room 0 l.words.items, length_bits 64 0 word fits, bits_room 64 0 word)

pub loop-index-preserved : goal.loop-index-preserved
loop-index-preserved g c =
    let l = c.loop-index in
    let word = c.word_from_test-word.result in
    let pushed : c.push.new.self.items ≡ l.words.items ++ word ∷ [] = search rules in
    let start : l.index * 64 < c.args.vertices = omega arith in
    let fits : word < 2 ^ 64 = search rules in
    let many : c.min.result ≡ min (c.args.vertices - l.index * 64) 64 = search rules in
    record {
      words = ap length pushed ∙ omega (arith, l.invariant.words, length-append l.words.items (word ∷ []));
      count = omega (
        arith,
        l.invariant.count,
        ap (λ ws. length (word_members 0 ws)) pushed,
        ap length (words_push 0 l.words.items word),
        length-append (word_members 0 l.words.items) (bit_members 64 (0 + 64 * length l.words.items) word),
        length_bits 64 (0 + 64 * length l.words.items) word fits,
      );
      below = rw pushed
          (next_below (λ v b. g.F.Fn.post c.args.test.now
          (v, tt) b) c.args.vertices l.words.items word l.index c.min.result l.invariant.words start many c.word_from_test-word.ensures.others l.invariant.below);
      tested = rw pushed
          (next_word (λ v b. g.F.Fn.post c.args.test.now
          (v, tt) b) c.args.vertices l.words.items word l.index c.min.result l.invariant.words start many c.word_from_test-word.ensures.tested l.invariant.tested);
    }

pub returns-clause-below : goal.returns-clause-below
returns-clause-below g c =
    let words = c.loop-index.words.items in
    All-from_get_or (λ v. v < c.args.vertices) (word_members 0 words) 0
    (λ k lt. c.loop-index.invariant.below _ ((word_members_has words _).0 (Contains-get_or (word_members 0 words) k 0 lt)))

pub returns-clause-tested : goal.returns-clause-tested
returns-clause-tested g c = λ v lt.
    word_answer (λ u b. g.F.Fn.post c.args.test.now (u, tt) b) c.loop-index.words.items v (c.loop-index.invariant.tested v (omega arith) lt)
