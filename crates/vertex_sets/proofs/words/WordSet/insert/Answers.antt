-- Proofs of `insert`, src/words.rt.
use Rattle.std.proofs.Common.{◌≡◌, ◌/◌, ◌*◌, ◌%◌, ◌^◌, ◌<◌, length, get_or, bit_and, ◌∙◌, ap, subst, arith}
use Rattle.std.proofs.lemmas.List.{get_or_default}
use Rattle.vertex_sets.specs.inside.Words.{word_members}
use Rattle.vertex_sets.proofs.Ascending.{one_again}
use Rattle.vertex_sets.proofs.WordMembers.{word_members_has, words_set, words_set_more, words_room, mask_off, mask_on}
use Rattle.vertex_sets.proofs.words.WordSet.insert.Goals as goal

pub overflow_add-self : goal.overflow_add-self
overflow_add-self c =
    let words = c.args.self.now.words.items in
    omega (arith, c.args.self.now.counted, words_room 0 words, c.requires.room)

pub invariant_of-self : goal.invariant_of-self
invariant_of-self c =
    let words = c.args.self.now.words.items in
    let v = c.args.vertex in
    let within : v / 64 < length words = omega (arith, c.requires.within) in
    let is : c.index-word.result.now ≡ get_or words (v / 64) 0 =
    c.index-word.ensures ∙ get_or_default words (v / 64) c.index-word.result.now 0 within in
    let off = mask_off words v within (subst (λ w. bit_and w (1 * 2 ^ (v % 64) % 2 ^ 64) ≡ 0) is c.if-word-bit-eq0.true) in
    record { counted = rw is (omega (arith, c.args.self.now.counted, words_set_more words v within off)) }

pub returns-then-word-bit-eq0-clause-added : goal.returns-then-word-bit-eq0-clause-added
returns-then-word-bit-eq0-clause-added c =
    let words = c.args.self.now.words.items in
    let v = c.args.vertex in
    let within : v / 64 < length words = omega (arith, c.requires.within) in
    let is : c.index-word.result.now ≡ get_or words (v / 64) 0 =
    c.index-word.ensures ∙ get_or_default words (v / 64) c.index-word.result.now 0 within in
    rw is (words_set words v within)

pub returns-else-word-bit-eq0-clause-added : goal.returns-else-word-bit-eq0-clause-added
returns-else-word-bit-eq0-clause-added c =
    let words = c.args.self.now.words.items in
    let v = c.args.vertex in
    let within : v / 64 < length words = omega (arith, c.requires.within) in
    let is : c.index-word.result.now ≡ get_or words (v / 64) 0 =
    c.index-word.ensures ∙ get_or_default words (v / 64) c.index-word.result.now 0 within in
    one_again v (word_members 0 words) ((word_members_has words v).1 (mask_on words v within (λ e. c.if-word-bit-eq0.false (ap (λ w. bit_and w (1 * 2 ^ (v % 64) % 2 ^ 64)) is ∙ e))))
