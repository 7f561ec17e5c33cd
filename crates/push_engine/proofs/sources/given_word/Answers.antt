-- Proofs of `given_word`, src/sources.rt.
use Rattle.std.proofs.Common.{rules, ◌≡◌, ◌+◌, ◌*◌, ◌/◌, ◌%◌, ◌==◌, slice_index, sym, ap, ap₂, ◌∙◌, arith}
use Rattle.std.specs.Int.{bit_at}
use Rattle.push_engine.proofs.sources.given_word.Goals as goal

pub returns-in-Some : goal.returns-in-Some
returns-in-Some c i l =
    let words = c.args.words.now in
    let k = c.args.number in
    let is : slice_index words k ≡ c.in-Some.word.now = search rules in
    let place : k ≡ (64 * k + i) / 64 = omega (arith, l) in
    let rest : i ≡ (64 * k + i) % 64 = omega (arith, l) in
    ap₂ (λ w j. bit_at w j == 1) (sym is ∙ ap (λ j. slice_index words j) place) rest

pub returns-in-None : goal.returns-in-None
returns-in-None c i l =
    let words = c.args.words.now in
    let k = c.args.number in
    let is : slice_index words k ≡ 0 = search rules in
    let place : k ≡ (64 * k + i) / 64 = omega (arith, l) in
    let rest : i ≡ (64 * k + i) % 64 = omega (arith, l) in
    ap₂ (λ w j. bit_at w j == 1) (sym is ∙ ap (λ j. slice_index words j) place) rest
