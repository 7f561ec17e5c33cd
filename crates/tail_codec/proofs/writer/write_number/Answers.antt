-- Proofs of `write_number`, src/writer.rt.
use Rattle.std.proofs.Common.{◌≡◌, ℕ, zero, suc, ◌+◌, ◌*◌, ◌/◌, ◌%◌, ◌^◌, ◌<◌, ◌≤◌, List, [], ◌∷◌, ◌++◌, length, take, set, inl, inr, refl, ap, ◌∙◌, arith, append_assoc}
use Rattle.std.proofs.lemmas.List.{take_more_set}
use Rattle.std.proofs.lemmas.Nat.{pow-add}
use Rattle.tail_codec.specs.inside.Writing.{Fits}
use Rattle.tail_codec.proofs.writer.write_number.Goals as goal

-- one byte more is written
more : (buffer front : List ℕ) (position byte : ℕ) (last bytes : List ℕ) → position < length buffer → take position buffer ++ byte ∷ last ≡ front ++ bytes
    → take (position + 1) (set buffer position byte) ++ last ≡ front ++ bytes
more buffer front position byte last bytes within is =
    ap (λ v. v ++ last) (take_more_set buffer position byte within) ∙ append_assoc (take position buffer) (byte ∷ []) last ∙ is

-- what is left after seven bits fits into a byte less
seven_bits : (m : ℕ) → 2 ^ (7 * suc m) ≡ 128 * 2 ^ (7 * m)
seven_bits m =
    let parts : 7 * suc m ≡ 7 + 7 * m = omega arith in
    ap (λ (n : ℕ). 2 ^ n) parts ∙ pow-add 2 7 (7 * m)

fits_less : (k m at room : ℕ) → 128 ≤ k → Fits k m → at + m ≤ room → (j : ℕ) × Fits (k / 128) j × (at + 1 + j ≤ room)
fits_less k zero at room ge fits le = absurd (omega (arith, fits.some))
fits_less k (suc zero) at room ge fits le = absurd (omega (arith, ge, fits.small))
fits_less k (suc (suc m)) at room ge fits le =
    let less : k < 128 * 2 ^ (7 * suc m) = rw (seven_bits (suc m)) at fits.small in
    (suc m, record { some = omega arith; small = omega (arith, less) }, omega (arith, le))

pub loop-rest-preserved : goal.loop-rest-preserved
loop-rest-preserved c =
    let l = c.loop-rest in
    record {
      room = λ n fits.
          let m = l.invariant.room n fits in
          fits_less l.rest m.0 l.position (c.args.position + n) c.loop-rest-test.true m.1 m.2;
      writes = λ last spells.
          let all = l.invariant.writes ((128 + l.rest % 128) ∷ last) (inr (c.loop-rest-test.true, refl, spells)) in
          let here = l.invariant.room c.requires.0 c.requires.1 in
          (all.0, all.1, more l.buffer _ l.position (128 + l.rest % 128) last all.0 (omega (arith, here.2, here.1.some, c.requires.2)) all.2);
    }

pub returns : goal.returns
returns c =
    let l = c.loop-rest in
    let all = l.invariant.writes (l.rest ∷ []) (inl (c.loop-rest-test.false, refl, refl)) in
    let here = l.invariant.room c.requires.0 c.requires.1 in
    record {
      bytes = all.0;
      spells = all.1;
      front = take_more_set l.buffer l.position l.rest (omega (arith, here.2, here.1.some, c.requires.2)) ∙ all.2;
      after = λ n fits.
          let m = l.invariant.room n fits in
          omega (arith, m.2, m.1.some);
    }
