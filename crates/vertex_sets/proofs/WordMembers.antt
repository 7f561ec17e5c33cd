-- The vertices of the set bits of words.
use Rattle.std.proofs.Common.{◌≡◌, ◌≢◌, ℕ, zero, suc, ◌+◌, ◌-◌, ◌*◌, ◌/◌, ◌%◌, ◌^◌, ◌<◌, ◌≤◌, inl, inr, ◌↔◌, Bool, true, false, ◌==◌, bit_and, bit_or, w64, get_or-set_same, get_or-set_other, List, []}
use Rattle.std.proofs.Common.{◌∷◌, ◌++◌, length, get_or, set, replicate, refl, sym, ◌∙◌, ap, ap₂, subst, arith, cond, min, append_assoc, length-append, Contains}
use Rattle.std.specs.Int.{bit_at}
use Rattle.std.proofs.lemmas.Bool.{cases_lt, cases_eq, eqb-true, eq-eqb}
use Rattle.std.proofs.lemmas.List.{append-nil, get_or_push, get_or_append_left, get_or_past, get_or-replicate, length-replicate}
use Rattle.std.proofs.lemmas.List.Elements.{Contains-append_left, Contains-append_right, Contains-append_cases}
use Rattle.std.proofs.lemmas.Nat.Bits.{bit_at-zero, bit_at-lt, bit_at_set_same, bit_at_set_other, and_pow, bit_at_ones, bit_at_ones_above}
use Rattle.std.proofs.lemmas.Nat.{one_shl, pow_pos}
use Rattle.std.specs.List.{range_with_len}
use Rattle.vertex_sets.specs.VertexSet.{IsAnswer, word_count}
use Rattle.vertex_sets.specs.inside.Words.{bit_members, word_members}
use Rattle.vertex_sets.proofs.Ascending.{Rises, rises_from_lower, contains_nothing, contains_first, contains_later, HasOneMore, same_list, rises_range, range_has, range_bound}
use Rattle.vertex_sets.proofs.BitMembers.{rises_bits, bit_of, bit_in, bits_none, bits_lowest, bits_room, one_more_bit}
use lib.Count.{count_trailing_zeros}

-- bit v % 64 of word v / 64 is set
abbrev pub HasBit : List ℕ → ℕ → Type 0
HasBit words v = bit_at (get_or words (v / 64) 0) (v % 64) ≡ 1

rises_append : (low middle : ℕ) (xs ys : List ℕ) → Rises low xs → ((v : ℕ) → Contains xs v → v < middle) → low ≤ middle → Rises middle ys → Rises low (xs ++ ys)
rises_append low middle [] ys up within le vp = rises_from_lower low middle ys le vp
rises_append low middle (x ∷ xs) ys up within le vp =
    let lt : x < middle = within x (contains_first x xs) in
    (up.0, rises_append (x + 1) middle xs ys up.1 (λ v is. within v (contains_later x v xs is)) (omega arith) vp)

bit_bound : (a word v : ℕ) → Contains (bit_members 64 a word) v → v < a + 64
bit_bound a word v is = let h = bit_of 64 a word v is in omega (arith, h.1, h.2)

pub rises_words : (a : ℕ) (words : List ℕ) → Rises a (word_members a words)
rises_words a [] = tt
rises_words a (word ∷ words) =
    rises_append a (a + 64) (bit_members 64 a word) (word_members (a + 64) words) (rises_bits 64 a word) (bit_bound a word) (omega arith) (rises_words (a + 64) words)

first_word : (word : ℕ) (words : List ℕ) (i : ℕ) → i < 64 → get_or (word ∷ words) (i / 64) 0 ≡ word
first_word word words i lt = let e : i / 64 ≡ 0 = omega arith in ap (λ k. get_or (word ∷ words) k 0) e

later_word : (word : ℕ) (words : List ℕ) (i : ℕ) → get_or (word ∷ words) ((64 + i) / 64) 0 ≡ get_or words (i / 64) 0
later_word word words i = let e : (64 + i) / 64 ≡ suc (i / 64) = omega arith in ap (λ k. get_or (word ∷ words) k 0) e

word_of : (a : ℕ) (words : List ℕ) (v : ℕ) → Contains (word_members a words) v → (i : ℕ) × (v ≡ a + i) × HasBit words i
word_of a [] v is = absurd (contains_nothing v is)
word_of a (word ∷ words) v is =
    elim (Contains-append_cases (bit_members 64 a word) (word_members (a + 64) words) v is) [
      | inl here ↦
          let h = bit_of 64 a word v here in
          let lt : h.0 < 64 = h.1 in
          let e : h.0 % 64 ≡ h.0 = omega arith in
          (h.0, h.2, ap₂ bit_at (first_word word words h.0 lt) e ∙ h.3)
      | inr later ↦
          let h = word_of (a + 64) words v later in
          let e : (64 + h.0) % 64 ≡ h.0 % 64 = omega arith in
          (64 + h.0, omega (arith, h.1), ap₂ bit_at (later_word word words h.0) e ∙ h.2)
    ]

word_in : (a : ℕ) (words : List ℕ) (i : ℕ) → HasBit words i → Contains (word_members a words) (a + i)
word_in a [] i is = absurd (omega (arith, sym is ∙ bit_at-zero (i % 64)))
word_in a (word ∷ words) i is =
    elim (cases_lt i 64) [
      | inl lt ↦
          let e : i % 64 ≡ i = omega arith in
          Contains-append_left (bit_members 64 a word) (word_members (a + 64) words) (a + i)
          (bit_in 64 a word i lt (sym (ap₂ bit_at (first_word word words i lt) e) ∙ is))
      | inr le ↦
          let j = i - 64 in
          let at : i ≡ 64 + j = omega arith in
          let e : (64 + j) % 64 ≡ j % 64 = omega arith in
          let there : a + 64 + j ≡ a + i = omega arith in
          let bit : HasBit words j = sym (ap₂ bit_at (later_word word words j) e) ∙ subst (λ k. HasBit (word ∷ words) k) at is in
          Contains-append_right (bit_members 64 a word) (word_members (a + 64) words) (a + i)
          (subst (λ v. Contains (word_members (a + 64) words) v) there (word_in (a + 64) words j bit))
    ]

-- a vertex is among them exactly where its bit is set
pub word_members_has : (words : List ℕ) (v : ℕ) → Contains (word_members 0 words) v ↔ HasBit words v
word_members_has words v = (
  λ is. let h = word_of 0 words v is in let e : h.0 ≡ v = omega (arith, h.1) in subst (λ i. HasBit words i) e h.2,
  λ is. let e : 0 + v ≡ v = omega arith in subst (λ u. Contains (word_members 0 words) u) e (word_in 0 words v is),
)

pub words_none : (a n : ℕ) → word_members a (replicate n 0) ≡ []
words_none a zero = refl
words_none a (suc n) = ap₂ (λ xs ys. xs ++ ys) (bits_none 64 a) (words_none (a + 64) n)

-- one word more at the end
pub words_push : (a : ℕ) (words : List ℕ) (word : ℕ) → word_members a (words ++ word ∷ []) ≡ word_members a words ++ bit_members 64 (a + 64 * length words) word
words_push a [] word = let e : a ≡ a + 64 * 0 = omega arith in append-nil (bit_members 64 a word) ∙ ap (λ n. bit_members 64 n word) e
words_push a (first ∷ words) word =
    let e : a + 64 + 64 * length words ≡ a + 64 * suc (length words) = omega arith in
    ap (λ xs. bit_members 64 a first ++ xs) (words_push (a + 64) words word ∙ ap (λ n. word_members (a + 64) words ++ bit_members 64 n word) e)
    ∙ sym (append_assoc (bit_members 64 a first) (word_members (a + 64) words) (bit_members 64 (a + 64 * suc (length words)) word))

-- a bit that becomes set adds one
pub one_more : (a : ℕ) (words : List ℕ) (index other i : ℕ) → index < length words → i < 64 → bit_at (get_or words index 0) i ≡ 0 → bit_at other i ≡ 1
    → ((j : ℕ) → j < 64 → j ≢ i → bit_at other j ≡ bit_at (get_or words index 0) j)
    → length (word_members a (set words index other)) ≡ suc (length (word_members a words))
one_more a [] index other i within lt off on same = absurd (omega arith)
one_more a (word ∷ words) zero other i within lt off on same =
    omega (
      arith,
      length-append (bit_members 64 a other) (word_members (a + 64) words),
      length-append (bit_members 64 a word) (word_members (a + 64) words),
      one_more_bit 64 a word other i lt off on same,
    )
one_more a (word ∷ words) (suc index) other i within lt off on same =
    omega (
      arith,
      length-append (bit_members 64 a word) (word_members (a + 64) (set words index other)),
      length-append (bit_members 64 a word) (word_members (a + 64) words),
      one_more (a + 64) words index other i (omega arith) lt off on same,
    )

pub words_room : (a : ℕ) (words : List ℕ) → length (word_members a words) ≤ 64 * length words
words_room a [] = omega arith
words_room a (word ∷ words) =
    omega (arith, length-append (bit_members 64 a word) (word_members (a + 64) words), bits_room 64 a word, words_room (a + 64) words)

-- the words with the bit of vertex v set
abbrev pub with_bit : List ℕ → ℕ → List ℕ
with_bit words v = set words (v / 64) (bit_or (get_or words (v / 64) 0) (1 * 2 ^ (v % 64) % 2 ^ 64))

module _ (words : List ℕ) (v : ℕ) (within : v / 64 < length words) where
  abbrev old_word : ℕ
  old_word = get_or words (v / 64) 0

  low : v % 64 < 64
  low = omega arith

  set_here : HasBit (with_bit words v) v
  set_here = ap (λ w. bit_at w (v % 64)) (get_or-set_same words (v / 64) _ 0 within) ∙ bit_at_set_same w64 old_word (v % 64) low

  -- the other bits are as they were
  kept : (u : ℕ) → u ≢ v → bit_at (get_or (with_bit words v) (u / 64) 0) (u % 64) ≡ bit_at (get_or words (u / 64) 0) (u % 64)
  kept u apart =
      elim (cases_eq (u / 64) (v / 64)) [
        | inl same ↦
            let other : u % 64 ≢ v % 64 = λ e. apart (omega arith) in
            ap (λ k. bit_at (get_or (with_bit words v) k 0) (u % 64)) same
            ∙ ap (λ w. bit_at w (u % 64)) (get_or-set_same words (v / 64) _ 0 within)
            ∙ bit_at_set_other w64 old_word (v % 64) low (u % 64) other
            ∙ ap (λ k. bit_at (get_or words k 0) (u % 64)) (sym same)
        | inr elsewhere ↦ ap (λ w. bit_at w (u % 64)) (get_or-set_other words (v / 64) (u / 64) _ 0 elsewhere)
      ]

  -- a bit that becomes set makes its vertex a member
  pub words_set : HasOneMore v (word_members 0 words) (word_members 0 (with_bit words v))
  words_set u =
      elim (cases_eq u v) [
        | inl here ↦
            (λ is. inl here, λ or. (word_members_has (with_bit words v) u).1 (subst (λ w. HasBit (with_bit words v) w) (sym here) set_here))
        | inr apart ↦ (
          λ is. inr ((word_members_has words u).1 (sym (kept u apart) ∙ (word_members_has (with_bit words v) u).0 is)),
          λ or. elim or [
            | inl here ↦ absurd (apart here)
            | inr is ↦ (word_members_has (with_bit words v) u).1 (kept u apart ∙ (word_members_has words u).0 is)
          ],
        )
      ]

  pub mask_off : bit_and old_word (1 * 2 ^ (v % 64) % 2 ^ 64) ≡ 0 → bit_at old_word (v % 64) ≡ 0
  mask_off none = zero_by_one (bit_at old_word (v % 64)) (2 ^ (v % 64)) (pow_pos (v % 64)) (sym (and_pow old_word (v % 64)) ∙ ap (bit_and old_word) (sym (one_shl (v % 64) 64 low)) ∙ none)
    where
      zero_by_one : (b p : ℕ) → 0 < p → b * p ≡ 0 → b ≡ 0
      zero_by_one zero p some none = refl
      zero_by_one (suc b) p some none = absurd (omega arith)

  pub mask_on : bit_and old_word (1 * 2 ^ (v % 64) % 2 ^ 64) ≢ 0 → HasBit words v
  mask_on some = one_by_two (bit_at old_word (v % 64)) (bit_at-lt old_word (v % 64))
      (λ e. some (ap (bit_and old_word) (one_shl (v % 64) 64 low) ∙ and_pow old_word (v % 64) ∙ ap (λ b. b * 2 ^ (v % 64)) e ∙ omega arith))
    where
      one_by_two : (b : ℕ) → b < 2 → (b ≡ 0 → ⊥) → b ≡ 1
      one_by_two b lt apart = omega arith

  -- and adds one
  pub words_set_more : bit_at old_word (v % 64) ≡ 0 → length (word_members 0 (with_bit words v)) ≡ suc (length (word_members 0 words))
  words_set_more off =
      one_more 0 words (v / 64) _ (v % 64) within low off (bit_at_set_same w64 old_word (v % 64) low) (λ j lt apart. bit_at_set_other w64 old_word (v % 64) low j apart)

-- what a test answered stands in the bit
pub word_answer : (gives : ℕ → Bool → Type 0) (words : List ℕ) (v : ℕ) → gives v (bit_at (get_or words (v / 64) 0) (v % 64) == 1) → IsAnswer gives (word_members 0 words) v
word_answer gives words v is = by_bit (bit_at (get_or words (v / 64) 0) (v % 64) == 1) refl is
  where
    by_bit : (b : Bool) → (bit_at (get_or words (v / 64) 0) (v % 64) == 1) ≡ b → gives v b → IsAnswer gives (word_members 0 words) v
    by_bit true on is = inl ((word_members_has words v).1 (eqb-true _ 1 on), is)
    by_bit false off is = inr (λ member. absurd (cc (off, eq-eqb (bit_at (get_or words (v / 64) 0) (v % 64)) 1 ((word_members_has words v).0 member))), is)

-- what a test answers for the vertex of the next bit, after those of the bits below it
pub next_bit : (gives : ℕ → Bool → Type 0) (from bit word next : ℕ) (b : Bool) → bit < 64 → next ≡ cond b (bit_or word (1 * 2 ^ bit % 2 ^ 64)) word
    → gives (from + bit) b → ((i : ℕ) → i < bit → gives (from + i) (bit_at word i == 1)) → ((i : ℕ) → bit ≤ i → bit_at word i ≡ 0)
    → ((i : ℕ) → i < bit + 1 → gives (from + i) (bit_at next i == 1)) × ((i : ℕ) → bit + 1 ≤ i → bit_at next i ≡ 0)
next_bit gives from bit word next true lt e now before others =
    rw e (
      λ i l. elim (cases_eq i bit) [
        | inl here ↦
            let is : bit_at (bit_or word (1 * 2 ^ bit % 2 ^ 64)) i ≡ 1 = ap (bit_at (bit_or word (1 * 2 ^ bit % 2 ^ 64))) here ∙ bit_at_set_same w64 word bit lt in
            subst (λ n. gives (from + i) (n == 1)) (sym is) (subst (λ n. gives (from + n) true) (sym here) now)
        | inr apart ↦ subst (λ n. gives (from + i) (n == 1)) (sym (bit_at_set_other w64 word bit lt i apart)) (before i (omega arith))
      ],
      λ i l. let apart : i ≢ bit = omega arith in bit_at_set_other w64 word bit lt i apart ∙ others i (omega arith),
    )
next_bit gives from bit word next false lt e now before others =
    rw e (
      λ i l. elim (cases_eq i bit) [
        | inl here ↦ subst (λ n. gives (from + i) (n == 1)) (sym (others i (omega arith))) (subst (λ n. gives (from + n) false) (sym here) now)
        | inr apart ↦ before i (omega arith)
      ],
      λ i l. others i (omega arith),
    )

-- what a test answers for the vertices of the next word, after those of the words below it
module _ (gives : ℕ → Bool → Type 0) (n : ℕ) (words : List ℕ) (word index count : ℕ) (long : length words ≡ index) (start : index * 64 < n) (many : count ≡ min (n - index * 64) 64) where
  earlier : (v : ℕ) → v / 64 < index → bit_at (get_or (words ++ word ∷ []) (v / 64) 0) (v % 64) ≡ bit_at (get_or words (v / 64) 0) (v % 64)
  earlier v lt = ap (λ w. bit_at w (v % 64)) (get_or_append_left words (word ∷ []) 0 (v / 64) (omega arith))

  latest : (v : ℕ) → v / 64 ≡ index → bit_at (get_or (words ++ word ∷ []) (v / 64) 0) (v % 64) ≡ bit_at word (v % 64)
  latest v here = ap (λ w. bit_at w (v % 64)) (get_or_push words word 0 (v / 64) (long ∙ sym here))

  pub next_word : ((i : ℕ) → i < count → gives (index * 64 + i) (bit_at word i == 1))
      → ((v : ℕ) → v < 64 * index → v < n → gives v (bit_at (get_or words (v / 64) 0) (v % 64) == 1))
      → (v : ℕ) → v < 64 * (index + 1) → v < n → gives v (bit_at (get_or (words ++ word ∷ []) (v / 64) 0) (v % 64) == 1)
  next_word now before v lt within =
      elim (cases_lt (v / 64) index) [
        | inl sooner ↦ subst (λ b. gives v (b == 1)) (sym (earlier v sooner)) (before v (omega arith) within)
        | inr later ↦
            let here : v / 64 ≡ index = omega arith in
            let is : index * 64 + v % 64 ≡ v = omega arith in
            subst (λ b. gives v (b == 1)) (sym (latest v here)) (subst (λ u. gives u (bit_at word (v % 64) == 1)) is (now (v % 64) (omega arith)))
      ]

  pub next_below : ((i : ℕ) → count ≤ i → bit_at word i ≡ 0) → ((v : ℕ) → HasBit words v → v < n) → (v : ℕ) → HasBit (words ++ word ∷ []) v → v < n
  next_below others before v is =
      elim (cases_lt (v / 64) index) [
        | inl sooner ↦ before v (sym (earlier v sooner) ∙ is)
        | inr later ↦
            elim (cases_eq (v / 64) index) [
              | inl here ↦
                  elim (cases_lt (v % 64) count) [
                    | inl lt ↦ omega arith
                    | inr le ↦ absurd (omega (arith, sym is ∙ latest v here ∙ others (v % 64) le))
                  ]
              | inr apart ↦
                  let past : length (words ++ word ∷ []) ≤ v / 64 = omega (arith, length-append words (word ∷ [])) in
                  absurd (omega (arith, sym is ∙ ap (λ w. bit_at w (v % 64)) (get_or_past (words ++ word ∷ []) (v / 64) 0 past) ∙ bit_at-zero (v % 64)))
            ]
      ]

-- ---- all vertices

-- words whose bits are set below n and nowhere else
filled : (n : ℕ) (words : List ℕ) → ((v : ℕ) → v < n → HasBit words v) → ((v : ℕ) → HasBit words v → v < n) → word_members 0 words ≡ range_with_len 0 n
filled n words on off =
    same_list 0 (word_members 0 words) (range_with_len 0 n) (rises_words 0 words) (rises_range 0 n)
    (λ v is. range_has 0 n v (omega arith) (omega (arith, off v ((word_members_has words v).0 is))))
    (λ v is. (word_members_has words v).1 (on v (omega (arith, range_bound 0 n v is))))

abbrev pub ones_only : ℕ → List ℕ
ones_only m = replicate m 18446744073709551615

all_set : (m v : ℕ) → v / 64 < m → HasBit (ones_only m) v
all_set m v lt = ap (λ w. bit_at w (v % 64)) (get_or-replicate m (v / 64) 18446744073709551615 0 lt) ∙ bit_at_ones 64 (v % 64) (omega arith)

none_past : (words : List ℕ) (v : ℕ) → length words ≤ v / 64 → HasBit words v → ⊥
none_past words v past is = omega (arith, sym is ∙ ap (λ w. bit_at w (v % 64)) (get_or_past words (v / 64) 0 past) ∙ bit_at-zero (v % 64))

pub filled_words : (n : ℕ) → n % 64 ≡ 0 → word_members 0 (ones_only (word_count n)) ≡ range_with_len 0 n
filled_words n whole =
    filled n (ones_only (word_count n)) (λ v lt. all_set (word_count n) v (omega arith))
    (λ v is. elim (cases_lt v n) [
      | inl lt ↦ lt
      | inr le ↦ absurd (none_past (ones_only (word_count n)) v (omega (arith, length-replicate {A = ℕ} (word_count n) 18446744073709551615)) is)
    ])

module _ (n : ℕ) (part : n % 64 ≢ 0) where
  abbrev pub last_word : ℕ
  last_word = 1 * 2 ^ (n % 64) % 2 ^ 64 - 1

  abbrev pub cut_words : List ℕ
  cut_words = set (ones_only (word_count n)) (n / 64) last_word

  long : length (ones_only (word_count n)) ≡ n / 64 + 1
  long = omega (arith, length-replicate {A = ℕ} (word_count n) 18446744073709551615)

  last_is : last_word ≡ 2 ^ (n % 64) - 1
  last_is = ap (λ x. x - 1) (one_shl (n % 64) 64 (omega arith))

  at_last : (v : ℕ) → v / 64 ≡ n / 64 → bit_at (get_or cut_words (v / 64) 0) (v % 64) ≡ bit_at (2 ^ (n % 64) - 1) (v % 64)
  at_last v here =
      ap (λ k. bit_at (get_or cut_words k 0) (v % 64)) here
      ∙ ap (λ w. bit_at w (v % 64)) (get_or-set_same (ones_only (word_count n)) (n / 64) last_word 0 (omega (arith, long)) ∙ last_is)

  elsewhere : (v : ℕ) → v / 64 ≢ n / 64 → bit_at (get_or cut_words (v / 64) 0) (v % 64) ≡ bit_at (get_or (ones_only (word_count n)) (v / 64) 0) (v % 64)
  elsewhere v apart = ap (λ w. bit_at w (v % 64)) (get_or-set_other (ones_only (word_count n)) (n / 64) (v / 64) last_word 0 apart)

  on : (v : ℕ) → v < n → HasBit cut_words v
  on v lt =
      elim (cases_eq (v / 64) (n / 64)) [
        | inl here ↦ at_last v here ∙ bit_at_ones (n % 64) (v % 64) (omega arith)
        | inr apart ↦ elsewhere v apart ∙ all_set (word_count n) v (omega arith)
      ]

  off : (v : ℕ) → HasBit cut_words v → v < n
  off v is =
      elim (cases_lt v n) [
        | inl lt ↦ lt
        | inr le ↦
            elim (cases_eq (v / 64) (n / 64)) [
              | inl here ↦ absurd (omega (arith, sym is ∙ at_last v here ∙ bit_at_ones_above (n % 64) (v % 64) (omega arith)))
              | inr apart ↦ absurd (none_past (ones_only (word_count n)) v (omega (arith, long)) (sym (elsewhere v apart) ∙ is))
            ]
      ]

  pub filled_but_last : word_members 0 cut_words ≡ range_with_len 0 n
  filled_but_last = filled n cut_words on off

-- ---- the words that are still to come

-- no bit is left in a word, so the next one is begun
pub word_over : (from word next : ℕ) (words rest left : List ℕ) → word ≡ 0 → words ≡ next ∷ rest
    → bit_members 64 from word ++ word_members (from + 64) words ≡ left → bit_members 64 (from + 64) next ++ word_members (from + 64 + 64) rest ≡ left
word_over from word next words rest left none first is =
    sym (ap₂ (λ w ws. bit_members 64 from w ++ word_members (from + 64) ws) none first ∙ ap (λ xs. xs ++ word_members (from + 64) (next ∷ rest)) (bits_none 64 from)) ∙ is

pub words_over : (from word : ℕ) (words left : List ℕ) → word ≡ 0 → words ≡ [] → bit_members 64 from word ++ word_members (from + 64) words ≡ left → left ≡ []
words_over from word words left none over is =
    sym is ∙ ap₂ (λ w ws. bit_members 64 from w ++ word_members (from + 64) ws) none over ∙ ap (λ xs. xs ++ []) (bits_none 64 from)

-- the lowest bit of a word is taken
pub bit_taken : (from word : ℕ) (words left : List ℕ) → 0 < word → word < 2 ^ 64 → bit_members 64 from word ++ word_members (from + 64) words ≡ left
    → left ≡ (from + count_trailing_zeros 64 word) ∷ (bit_members 64 from (bit_and word (word - 1)) ++ word_members (from + 64) words)
bit_taken from word words left some fits is = sym is ∙ ap (λ xs. xs ++ word_members (from + 64) words) (bits_lowest 64 from word some fits)

pub no_words : (words : List ℕ) → length words ≡ 0 → words ≡ []
no_words [] none = refl
no_words (word ∷ words) none = absurd (omega arith)
