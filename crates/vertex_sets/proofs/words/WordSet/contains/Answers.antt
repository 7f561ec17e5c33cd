-- Proofs of `contains`, src/words.rt.
use Rattle.std.proofs.Common.{◌≡◌, ◌/◌, ◌%◌, ◌^◌, get_or, bit_and, sym, ◌∙◌, ap, arith, rules}
use Rattle.std.specs.Int.{bit_at}
use Rattle.std.proofs.lemmas.Bool.{eqb-true, eq-eqb}
use Rattle.std.proofs.lemmas.Nat.Bits.{shr_and_one, bit_at-zero}
use Rattle.vertex_sets.proofs.WordMembers.{word_members_has}
use Rattle.vertex_sets.proofs.words.WordSet.contains.Goals as goal

pub returns-in-Some : goal.returns-in-Some
returns-in-Some c =
    let v = c.args.vertex in
    let words = c.args.self.now.words.items in
    let word = c.in-Some.word.now in
    let is : get_or words (v / 64) 0 ≡ word = search rules in
    let bit : bit_and (word / 2 ^ (v % 64)) 1 ≡ bit_at (get_or words (v / 64) 0) (v % 64) =
    shr_and_one word (v % 64) ∙ ap (λ w. bit_at w (v % 64)) (sym is) in
    let has = word_members_has words v in
    (λ on. has.1 (sym bit ∙ eqb-true (bit_and (word / 2 ^ (v % 64)) 1) 1 on), λ member. eq-eqb (bit_and (word / 2 ^ (v % 64)) 1) 1 (bit ∙ has.0 member))

pub returns-in-None : goal.returns-in-None
returns-in-None c =
    let v = c.args.vertex in
    let words = c.args.self.now.words.items in
    let is : get_or words (v / 64) 0 ≡ 0 = search rules in
    let off : bit_at (get_or words (v / 64) 0) (v % 64) ≡ 0 = ap (λ w. bit_at w (v % 64)) is ∙ bit_at-zero (v % 64) in
    (λ on. absurd (cc), λ member. absurd (omega (arith, (word_members_has words v).0 member)))
