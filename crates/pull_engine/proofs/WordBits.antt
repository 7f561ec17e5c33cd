-- Words with a bit for each vertex of a block.
use Rattle.std.proofs.Common.{◌≡◌, ◌⊎◌, inl, inr, ℕ, zero, suc, ◌+◌, ◌-◌, ◌*◌, ◌^◌, ◌<◌, ◌≤◌, ◌==◌, ◌&&◌, min, bit_and, true, false, refl, sym, ap, ◌∙◌, arith}
use Rattle.std.specs.Int.{bit_at}
use Rattle.std.proofs.lemmas.Bool.{cases_lt, eq-eqb, ne_eqb}
use Rattle.std.proofs.lemmas.Bool.Decides.{nat_tests}
use Rattle.std.proofs.lemmas.Nat.Bits.{bit_at_and, bit_at-lt, bit_at_mask_inside, bit_at_mask_below, bit_at_mask_above}
use Rattle.edge_fold.specs.Gathered.{is_in_range}
use Rattle.pull_engine.specs.inside.Words.{in_word}

-- the bit of a vertex by its number in the block
pub bit_of_block : (k word i : ℕ) → in_word (64 * k) word (64 * k + i) ≡ (bit_at word i == 1)
bit_of_block k word i = let e : 64 * k + i - 64 * k ≡ i = omega arith in ap (λ j. bit_at word j == 1) e

both_bits : (x y : ℕ) → x < 2 → y < 2 → (min x y == 1) ≡ ((x == 1) && (y == 1))
both_bits zero zero a b = refl
both_bits zero (suc zero) a b = refl
both_bits (suc zero) zero a b = refl
both_bits (suc zero) (suc zero) a b = refl
both_bits (suc (suc x)) y a b = absurd (omega arith)
both_bits zero (suc (suc y)) a b = absurd (omega arith)
both_bits (suc zero) (suc (suc y)) a b = absurd (omega arith)

-- a vertex is in two words
pub in_both : (first a b v : ℕ) → in_word first (bit_and a b) v ≡ (in_word first a v && in_word first b v)
in_both first a b v =
    let i = v - first in
    ap (λ m. m == 1) (bit_at_and a b i) ∙ both_bits (bit_at a i) (bit_at b i) (bit_at-lt a i) (bit_at-lt b i)

-- a bit that is set, or not, in what two words have in common
pub set_in_first : (a b i : ℕ) → bit_at (bit_and a b) i ≡ 1 → bit_at a i ≡ 1
set_in_first a b i is = omega (arith, bit_at_and a b i, is, bit_at-lt a i)

pub clear_in_one : (a b i : ℕ) → bit_at (bit_and a b) i ≡ 0 → (bit_at a i ≡ 0) ⊎ (bit_at b i ≡ 0)
clear_in_one a b i is = elim (cases_lt (bit_at a i) 1) [
  | inl low ↦ inl (omega arith)
  | inr high ↦ inr (omega (arith, bit_at_and a b i, is, bit_at-lt b i))
]

-- the tests of a bit
pub set_test : (word i : ℕ) → bit_at word i ≡ 1 → (bit_at word i == 1) ≡ true
set_test word i is = eq-eqb (bit_at word i) 1 is

pub clear_test : (word i : ℕ) → bit_at word i ≡ 0 → (bit_at word i == 1) ≡ false
clear_test word i is = ne_eqb (bit_at word i) 1 (λ e. omega (arith, e, is))

-- the bits from one up to another, of which each is at most 64
pub between_is : (low high v : ℕ) → low ≤ v → v < high → is_in_range low high v ≡ true
between_is low high v a b = grind (arith, nat_tests)

pub before_is : (low high v : ℕ) → v < low → is_in_range low high v ≡ false
before_is low high v a = grind (arith, nat_tests)

pub behind_is : (low high v : ℕ) → high ≤ v → is_in_range low high v ≡ false
behind_is low high v a = grind (arith, nat_tests)

pub range_bits : (first low high start end word v : ℕ) → start ≡ min (low - first) 64 → end ≡ min (high - first) 64 → word ≡ 2 ^ end - 2 ^ start
    → first ≤ v → v < first + 64 → in_word first word v ≡ is_in_range low high v
range_bits first low high start end word v starts ends is from to = elim (cases_lt v low) [
  | inl below ↦
      ap (λ w. bit_at w (v - first) == 1) is
      ∙ clear_test (2 ^ end - 2 ^ start) (v - first) (bit_at_mask_below start end (v - first) (omega (arith, starts, below, from, to)))
      ∙ sym (before_is low high v below)
  | inr after ↦ elim (cases_lt v high) [
    | inl within ↦
        ap (λ w. bit_at w (v - first) == 1) is
        ∙ set_test (2 ^ end - 2 ^ start) (v - first) (bit_at_mask_inside start end (v - first) (omega (arith, starts, after, from, to)) (omega (arith, ends, within, from, to)))
        ∙ sym (between_is low high v after within)
    | inr past ↦
        ap (λ w. bit_at w (v - first) == 1) is
        ∙ clear_test (2 ^ end - 2 ^ start) (v - first) (bit_at_mask_above start end (v - first) (omega (arith, ends, past, from, to)))
        ∙ sym (behind_is low high v past)
  ]
]
