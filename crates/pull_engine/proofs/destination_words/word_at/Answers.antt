-- Proofs of `word_at`, src/destination_words.rt.
use Rattle.std.proofs.Common.{rules, ◌≡◌, ◌-◌, ◌*◌, ◌%◌, ◌==◌, slice_index, sym, ap, ap₂, ◌∙◌, arith}
use Rattle.std.specs.Int.{bit_at}
use Rattle.std.proofs.lemmas.Nat.Bits.{bit_at-zero}
use Rattle.pull_engine.proofs.destination_words.word_at.Goals as goal

pub returns-in-Some : goal.returns-in-Some
returns-in-Some c v at =
    let words = c.args.words.now in
    let k = c.args.block in
    let is : slice_index words k ≡ c.in-Some.word.now = search rules in
    let rest : v - 64 * k ≡ v % 64 = omega (arith, at) in
    ap₂ (λ w i. bit_at w i == 1) (sym is ∙ ap (λ j. slice_index words j) (sym at)) rest

pub returns-in-None : goal.returns-in-None
returns-in-None c v at =
    let words = c.args.words.now in
    let k = c.args.block in
    let is : slice_index words k ≡ 0 = search rules in
    ap (λ b. b == 1) (bit_at-zero (v - 64 * k) ∙ sym (bit_at-zero (v % 64)) ∙ ap (λ w. bit_at w (v % 64)) (sym is ∙ ap (λ j. slice_index words j) (sym at)))
