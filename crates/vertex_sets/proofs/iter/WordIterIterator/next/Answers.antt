-- Proofs of `next`, src/iter.rt.
use Rattle.std.proofs.Common.{◌≡◌, ◌^◌, ◌<◌, ◌∷◌, [], ◌∙◌, arith, rules}
use Rattle.vertex_sets.proofs.WordMembers.{word_over, words_over, bit_taken, no_words}
use Rattle.vertex_sets.proofs.iter.WordIterIterator.next.Goals as goal

pub loop-self-preserved : goal.loop-self-preserved
loop-self-preserved c =
    let at = c.loop-self.self-inside in
    let first : at.words.now ≡ c.in-Some.word.now ∷ c.in-Some.words.now = search rules in
    record {
      room = search rules;
      left = word_over at.from at.word c.in-Some.word.now at.words.now c.in-Some.words.now c.args.self.now c.loop-self-test.true first c.loop-self.invariant.left;
    }

pub returns-clause-steps : goal.returns-clause-steps
returns-clause-steps c =
    let at = c.loop-self.self-inside in
    let fits : at.word < 2 ^ 64 = search rules in
    bit_taken at.from at.word at.words.now c.args.self.now (omega arith) fits c.loop-self.invariant.left

pub returns-clause-goes : goal.returns-clause-goes
returns-clause-goes c = record {
  on = λ _. (tt, tt, rw (returns-clause-steps c) (omega arith));
  keeps = tt;
  rests = λ _. tt;
}

pub returns-in-None-clause-steps : goal.returns-in-None-clause-steps
returns-in-None-clause-steps c =
    let at = c.loop-self.self-inside in
    let none : c.args.self.now ≡ [] =
    words_over at.from at.word at.words.now c.args.self.now c.loop-self-test.true (no_words at.words.now c.in-None.ensures.cases) c.loop-self.invariant.left in
    (none, c.loop-self.invariant.left ∙ none)
