-- Proofs of `is_set`, src/members.rt.
use Rattle.std.proofs.Common.{◌≡◌, ◌/◌, ◌%◌, ◌==◌, slice_index, sym, ◌∙◌, ap, rules}
use Rattle.std.specs.Int.{bit_at}
use Rattle.std.proofs.lemmas.Nat.Bits.{shr_and_one, bit_at-zero}
use Rattle.edge_apply.proofs.members.is_set.Goals as goal

pub returns-in-Some : goal.returns-in-Some
returns-in-Some c =
    let v = c.args.vertex in
    let words = c.args.words.now in
    let word = c.in-Some.word.now in
    let is : slice_index words (v / 64) ≡ word = search rules in
    ap (λ b. b == 1) (shr_and_one word (v % 64) ∙ ap (λ w. bit_at w (v % 64)) (sym is))

pub returns-in-None : goal.returns-in-None
returns-in-None c =
    let v = c.args.vertex in
    let words = c.args.words.now in
    let is : slice_index words (v / 64) ≡ 0 = search rules in
    sym (ap (λ b. b == 1) (ap (λ w. bit_at w (v % 64)) is ∙ bit_at-zero (v % 64)))
