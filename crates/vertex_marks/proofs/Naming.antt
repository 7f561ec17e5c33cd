-- Words that a summary names, and the vertices of their bits.
use Rattle.std.proofs.Common.{◌≡◌, ◌≢◌, ℕ, suc, ◌+◌, ◌-◌, ◌*◌, ◌/◌, ◌%◌, ◌^◌, ◌<◌, ◌≤◌, inl, inr, ◌↔◌, List, [], ◌∷◌, ◌++◌, length, take, get_or, length-take-le, take-suc, refl, sym, ◌∙◌, ap, ap₂}
use Rattle.std.proofs.Common.{subst, arith, bit_and, append_assoc, Contains}
use Rattle.std.specs.Int.{bit_at}
use Rattle.std.specs.List.Sorted.{IsStrictlyIncreasing}
use Rattle.std.proofs.lemmas.List.{append-nil}
use Rattle.std.proofs.lemmas.List.Elements.{Contains-append_left, Contains-append_right, Contains-append_cases}
use Rattle.std.proofs.lemmas.Nat.Bits.{bit_at-zero}
use Rattle.vertex_sets.specs.inside.Words.{bit_members, word_members}
use Rattle.vertex_sets.proofs.Ascending.{Rises, rises_from_lower, contains_nothing, contains_first, contains_later, first_or_later, increasing_from_rises}
use Rattle.vertex_sets.proofs.BitMembers.{rises_bits, bit_of, bit_in, bits_none, bits_lowest}
use Rattle.vertex_sets.proofs.WordMembers.{rises_words, word_members_has, words_push}
use Rattle.vertex_marks.specs.inside.Bits.{HasBit}
use Rattle.vertex_marks.specs.inside.Named.{named_members}
use lib.Count.{count_trailing_zeros}

-- the lowest bit of a word, listed before the others
pub lowest_listed : (found : List ℕ) (low left : ℕ) → left ≢ 0 → left < 2 ^ 64
    → (found ++ (low + count_trailing_zeros 64 left) ∷ []) ++ bit_members 64 low (bit_and left (left - 1)) ≡ found ++ bit_members 64 low left
lowest_listed found low left some fits =
    append_assoc found ((low + count_trailing_zeros 64 left) ∷ []) (bit_members 64 low (bit_and left (left - 1)))
    ∙ ap (λ xs. found ++ xs) (sym (bits_lowest 64 low left (omega (arith, some)) fits))

-- a bit fewer is left
pub fewer_left : (low left : ℕ) → left ≢ 0 → left < 2 ^ 64 → length (bit_members 64 low (bit_and left (left - 1))) < length (bit_members 64 low left)
fewer_left low left some fits = omega (arith, ap length (bits_lowest 64 low left (omega (arith, some)) fits))

-- the vertices of the word that the lowest bit names, listed before those of the others
pub named_listed : (words found more : List ℕ) (first left : ℕ) → left ≢ 0 → left < 2 ^ 64
    → more ≡ found ++ bit_members 64 (64 * (first + count_trailing_zeros 64 left)) (get_or words (first + count_trailing_zeros 64 left) 0)
    → more ++ named_members words (bit_members 64 first (bit_and left (left - 1))) ≡ found ++ named_members words (bit_members 64 first left)
named_listed words found more first left some fits is =
    let index = first + count_trailing_zeros 64 left in
    let others = bit_members 64 first (bit_and left (left - 1)) in
    ap (λ xs. xs ++ named_members words others) is
    ∙ append_assoc found (bit_members 64 (64 * index) (get_or words index 0)) (named_members words others)
    ∙ ap (λ ps. found ++ named_members words ps) (sym (bits_lowest 64 first left (omega (arith, some)) fits))

-- nothing is left where no bit is
pub bits_listed : (found all : List ℕ) (low left : ℕ) → left ≡ 0 → found ++ bit_members 64 low left ≡ all → found ≡ all
bits_listed found all low left none is = sym (append-nil found) ∙ ap (λ xs. found ++ xs) (sym (ap (bit_members 64 low) none ∙ bits_none 64 low)) ∙ is

pub words_listed : (words found all : List ℕ) (first left : ℕ) → left ≡ 0 → found ++ named_members words (bit_members 64 first left) ≡ all → found ≡ all
words_listed words found all first left none is =
    sym (append-nil found) ∙ ap (λ ps. found ++ named_members words ps) (sym (ap (bit_members 64 first) none ∙ bits_none 64 first)) ∙ is

named_append : (words ps qs : List ℕ) → named_members words (ps ++ qs) ≡ named_members words ps ++ named_members words qs
named_append words [] qs = refl
named_append words (p ∷ ps) qs =
    ap (λ xs. bit_members 64 (64 * p) (get_or words p 0) ++ xs) (named_append words ps qs)
    ∙ sym (append_assoc (bit_members 64 (64 * p) (get_or words p 0)) (named_members words ps) (named_members words qs))

-- the words that one word more of the summary names
pub summary_listed : (words found more summary : List ℕ) (i : ℕ) → i < length summary → found ≡ named_members words (word_members 0 (take i summary))
    → more ≡ found ++ named_members words (bit_members 64 (64 * i) (get_or summary i 0)) → more ≡ named_members words (word_members 0 (take (i + 1) summary))
summary_listed words found more summary i within was is =
    let next : i + 1 ≡ suc i = omega arith in
    let taken = length-take-le i summary (omega (arith, within)) in
    let before : 0 + 64 * length (take i summary) ≡ 64 * i = omega (arith, taken) in
    let whole = ap (λ n. word_members 0 (take n summary)) next ∙ ap (word_members 0) (take-suc summary i 0 within)
    ∙ words_push 0 (take i summary) (get_or summary i 0)
    ∙ ap (λ n. word_members 0 (take i summary) ++ bit_members 64 n (get_or summary i 0)) before in
    is ∙ ap (λ xs. xs ++ named_members words (bit_members 64 (64 * i) (get_or summary i 0))) was
    ∙ sym (named_append words (word_members 0 (take i summary)) (bit_members 64 (64 * i) (get_or summary i 0)))
    ∙ ap (named_members words) (sym whole)

-- ---- they ascend

ascending_after : (low middle : ℕ) (xs ys : List ℕ) → Rises low xs → ((v : ℕ) → Contains xs v → v < middle) → low ≤ middle → Rises middle ys → Rises low (xs ++ ys)
ascending_after low middle [] ys up within le then_up = rises_from_lower low middle ys le then_up
ascending_after low middle (x ∷ xs) ys up within le then_up =
    let below : x < middle = within x (contains_first x xs) in
    (up.0, ascending_after (x + 1) middle xs ys up.1 (λ v is. within v (contains_later x v xs is)) (omega arith) then_up)

below_next : (p word v : ℕ) → Contains (bit_members 64 (64 * p) word) v → v < 64 * (p + 1)
below_next p word v is = let h = bit_of 64 (64 * p) word v is in omega (arith, h.1, h.2)

named_rise : (words : List ℕ) (low : ℕ) (ps : List ℕ) → Rises low ps → Rises (64 * low) (named_members words ps)
named_rise words low [] up = tt
named_rise words low (p ∷ ps) up =
    rises_from_lower (64 * low) (64 * p) (named_members words (p ∷ ps)) (omega (arith, up.0))
    (ascending_after (64 * p) (64 * (p + 1)) (bit_members 64 (64 * p) (get_or words p 0)) (named_members words ps)
    (rises_bits 64 (64 * p) (get_or words p 0)) (below_next p (get_or words p 0)) (omega arith) (named_rise words (p + 1) ps up.1))

pub members_increase : (words summary : List ℕ) → IsStrictlyIncreasing (named_members words (word_members 0 summary))
members_increase words summary k within =
    increasing_from_rises 0 (named_members words (word_members 0 summary)) (named_rise words 0 (word_members 0 summary) (rises_words 0 summary)) k within

-- ---- they are all whose bits are set

named_of : (words ps : List ℕ) (v : ℕ) → Contains (named_members words ps) v → HasBit words v
named_of words [] v is = absurd (contains_nothing v is)
named_of words (p ∷ ps) v is =
    elim (Contains-append_cases (bit_members 64 (64 * p) (get_or words p 0)) (named_members words ps) v is) [
      | inl here ↦
          let h = bit_of 64 (64 * p) (get_or words p 0) v here in
          let index : p ≡ v / 64 = omega (arith, h.1, h.2) in
          let bit : h.0 ≡ v % 64 = omega (arith, h.1, h.2) in
          sym (ap₂ (λ q i. bit_at (get_or words q 0) i) index bit) ∙ h.3
      | inr later ↦ named_of words ps v later
    ]

named_in : (words ps : List ℕ) (v : ℕ) → Contains ps (v / 64) → HasBit words v → Contains (named_members words ps) v
named_in words [] v named is = absurd (contains_nothing (v / 64) named)
named_in words (p ∷ ps) v named is =
    elim (first_or_later p (v / 64) ps named) [
      | inl here ↦
          let at : 64 * p + v % 64 ≡ v = omega (arith, here) in
          let bit : bit_at (get_or words p 0) (v % 64) ≡ 1 = ap (λ q. bit_at (get_or words q 0) (v % 64)) (sym here) ∙ is in
          Contains-append_left (bit_members 64 (64 * p) (get_or words p 0)) (named_members words ps) v
          (subst (λ u. Contains (bit_members 64 (64 * p) (get_or words p 0)) u) at (bit_in 64 (64 * p) (get_or words p 0) (v % 64) (omega arith) bit))
      | inr there ↦ Contains-append_right (bit_members 64 (64 * p) (get_or words p 0)) (named_members words ps) v (named_in words ps v there is)
    ]

-- the summary names each word that has a bit
abbrev pub IsSummary : (words summary : List ℕ) → Type 0
IsSummary words summary = (index : ℕ) → get_or words index 0 ≢ 0 → HasBit summary index

pub no_bit : (words : List ℕ) (v : ℕ) → get_or words (v / 64) 0 ≡ 0 → bit_at (get_or words (v / 64) 0) (v % 64) ≡ 0
no_bit words v none = ap (λ w. bit_at w (v % 64)) none ∙ bit_at-zero (v % 64)

pub members_have : (words summary : List ℕ) (v : ℕ) → IsSummary words summary → Contains (named_members words (word_members 0 summary)) v ↔ HasBit words v
members_have words summary v summed = (
  named_of words (word_members 0 summary) v,
  λ is. named_in words (word_members 0 summary) v
      ((word_members_has summary (v / 64)).1 (summed (v / 64) (λ none. absurd (omega (arith, sym is ∙ no_bit words v none))))) is,
)
