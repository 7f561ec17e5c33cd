-- Words in which one bit was set, and words that were set to zero.
use Rattle.std.proofs.Common.{◌≡◌, ◌≢◌, ℕ, ◌*◌, ◌+◌, ◌/◌, ◌%◌, ◌<◌, ◌≤◌, ◌⊎◌, inl, inr, ◌↔◌, ◌==◌, ◌||◌, false, List, length, set, subst, take, drop, take_all, ap₂, ◌++◌, ◌-◌, ◌^◌, bit_and, get_or}
use Rattle.std.proofs.Common.{get_or-set_other, nat_lt, sym, ◌∙◌, ap, arith, Contains}
use Rattle.std.specs.Int.{bit_at}
use Rattle.std.proofs.lemmas.Bool.{cases_eq, cases_lt, eq-eqb, le-ltb, lt-ltb, ne_eqb}
use Rattle.std.proofs.lemmas.Nat.Bits.{bit_at_ones}
use Rattle.std.proofs.lemmas.List.{append-nil, get_or_past, drop_all}
use Rattle.vertex_sets.specs.inside.Words.{bit_members}
use Rattle.vertex_sets.proofs.Ascending.{contains_nothing, first_or_later}
use Rattle.vertex_sets.proofs.BitMembers.{bit_in, bits_none, bits_lowest}
use Rattle.vertex_sets.proofs.WordMembers.{with_bit, words_set, word_members_has}
use Rattle.vertex_marks.specs.inside.Bits.{HasBit}
use Rattle.vertex_marks.proofs.Naming.{IsSummary, no_bit}
use lib.Count.{count_trailing_zeros}

bit_set : (words : List ℕ) (v u : ℕ) → v / 64 < length words → HasBit (with_bit words v) u ↔ ((u ≡ v) ⊎ HasBit words u)
bit_set words v u within = (
  λ is. elim ((words_set words v within u).0 ((word_members_has (with_bit words v) u).1 is)) [
    | inl here ↦ inl here
    | inr there ↦ inr ((word_members_has words u).0 there)
  ],
  λ or. (word_members_has (with_bit words v) u).0 ((words_set words v within u).1 (elim or [
    | inl here ↦ inl here
    | inr there ↦ inr ((word_members_has words u).1 there)
  ])),
)

-- one vertex more is marked
pub marked_more : (words : List ℕ) (v u : ℕ) → v / 64 < length words
    → (bit_at (get_or (with_bit words v) (u / 64) 0) (u % 64) == 1) ≡ (v == u) || (bit_at (get_or words (u / 64) 0) (u % 64) == 1)
marked_more words v u within =
    let new = bit_at (get_or (with_bit words v) (u / 64) 0) (u % 64) in
    let old = bit_at (get_or words (u / 64) 0) (u % 64) in
    elim (cases_eq u v) [
      | inl here ↦ eq-eqb new 1 ((bit_set words v u within).1 (inl here)) ∙ sym (ap (λ b. b || (old == 1)) (eq-eqb v u (sym here)))
      | inr apart ↦
          let other : (v == u) || (old == 1) ≡ (old == 1) = ap (λ b. b || (old == 1)) (ne_eqb v u (λ e. apart (sym e))) in
          elim (cases_eq old 1) [
            | inl on ↦ eq-eqb new 1 ((bit_set words v u within).1 (inr on)) ∙ sym (other ∙ eq-eqb old 1 on)
            | inr off ↦
                ne_eqb new 1 (λ e. elim ((bit_set words v u within).0 e) [ inl here ↦ apart here | inr there ↦ off there ])
                ∙ sym (other ∙ ne_eqb old 1 off)
          ]
    ]

-- the summary names the word of the bit too
pub summary_more : (words summary : List ℕ) (v word : ℕ) → v / 64 / 64 < length summary → IsSummary words summary
    → IsSummary (set words (v / 64) word) (with_bit summary (v / 64))
summary_more words summary v word within summed index some =
    elim (cases_eq index (v / 64)) [
      | inl here ↦ (bit_set summary (v / 64) index within).1 (inl here)
      | inr apart ↦
          (bit_set summary (v / 64) index within).1
          (inr (summed index (λ none. some (get_or-set_other words (v / 64) index word 0 apart ∙ none))))
    ]

-- all bits of the first words are set
pub all_marked : (words new : List ℕ) (blocks v : ℕ) → ((k : ℕ) → k < blocks → get_or new k 0 ≡ 18446744073709551615) → ((k : ℕ) → blocks ≤ k → get_or new k 0 ≡ get_or words k 0)
    → (bit_at (get_or new (v / 64) 0) (v % 64) == 1) ≡ nat_lt v (64 * blocks) || (bit_at (get_or words (v / 64) 0) (v % 64) == 1)
all_marked words new blocks v first others =
    let old = bit_at (get_or words (v / 64) 0) (v % 64) == 1 in
    elim (cases_lt v (64 * blocks)) [
      | inl low ↦
          eq-eqb (bit_at (get_or new (v / 64) 0) (v % 64)) 1
          (ap (λ w. bit_at w (v % 64)) (first (v / 64) (omega (arith, low))) ∙ bit_at_ones 64 (v % 64) (omega arith))
          ∙ sym (ap (λ b. b || old) (lt-ltb v (64 * blocks) low))
      | inr high ↦
          ap (λ w. bit_at w (v % 64) == 1) (others (v / 64) (omega (arith, high)))
          ∙ sym (ap (λ b. b || old) (le-ltb v (64 * blocks) high))
    ]

-- a summary whose bits are all set names all words
pub all_summed : (words summary : List ℕ) (sums : ℕ) → length words ≤ 64 * sums → ((k : ℕ) → k < sums → get_or summary k 0 ≡ 18446744073709551615) → IsSummary words summary
all_summed words summary sums within first index some =
    elim (cases_lt index (64 * sums)) [
      | inl low ↦ ap (λ w. bit_at w (index % 64)) (first (index / 64) (omega (arith, low))) ∙ bit_at_ones 64 (index % 64) (omega arith)
      | inr high ↦ absurd (some (get_or_past words index 0 (omega (arith, within, high))))
    ]

-- no bit is set where all words are zero
pub none_marked : (words : List ℕ) (v : ℕ) → get_or words (v / 64) 0 ≡ 0 → (bit_at (get_or words (v / 64) 0) (v % 64) == 1) ≡ false
none_marked words v none = ap (λ b. b == 1) (no_bit words v none)

-- the words below an index are zero, and so are those that a word of the summary names
pub zero_below : (words cleared summary : List ℕ) (index : ℕ) → IsSummary words summary
    → ((p : ℕ) → get_or cleared p 0 ≢ 0 → get_or words p 0 ≢ 0)
    → ((p : ℕ) → Contains (bit_members 64 (64 * index) (get_or summary index 0)) p → get_or cleared p 0 ≡ 0)
    → ((p : ℕ) → p < 64 * index → get_or words p 0 ≡ 0)
    → (p : ℕ) → p < 64 * (index + 1) → get_or cleared p 0 ≡ 0
zero_below words cleared summary index summed stay clear before p below =
    elim (cases_eq (get_or words p 0) 0) [
      | inl none ↦ elim (cases_eq (get_or cleared p 0) 0) [ inl is ↦ is | inr some ↦ absurd (stay p some none) ]
      | inr some ↦
          elim (cases_lt p (64 * index)) [
            | inl low ↦ absurd (some (before p low))
            | inr high ↦
                let at : 64 * index + p % 64 ≡ p = omega (arith, high, below) in
                let here : p / 64 ≡ index = omega (arith, high, below) in
                let bit : bit_at (get_or summary index 0) (p % 64) ≡ 1 = ap (λ q. bit_at (get_or summary q 0) (p % 64)) (sym here) ∙ summed p some in
                clear p (subst (λ q. Contains (bit_members 64 (64 * index) (get_or summary index 0)) q) at (bit_in 64 (64 * index) (get_or summary index 0) (p % 64) (omega arith) bit))
          ]
    ]

-- one word more was set to zero, that of the lowest bit
pub stay_more : (words new : List ℕ) (at : ℕ) → get_or new at 0 ≡ 0 → ((p : ℕ) → p ≢ at → get_or new p 0 ≡ get_or words p 0)
    → (p : ℕ) → get_or new p 0 ≢ 0 → get_or words p 0 ≢ 0
stay_more words new at zero others p some none =
    elim (cases_eq p at) [
      | inl here ↦ some (ap (λ q. get_or new q 0) here ∙ zero)
      | inr apart ↦ some (others p apart ∙ none)
    ]

pub cleared_more : (words new : List ℕ) (first left : ℕ) → left ≢ 0 → left < 2 ^ 64 → get_or new (first + count_trailing_zeros 64 left) 0 ≡ 0
    → ((p : ℕ) → p ≢ first + count_trailing_zeros 64 left → get_or new p 0 ≡ get_or words p 0)
    → (p : ℕ) → Contains (bit_members 64 first left) p ⊎ (get_or words p 0 ≡ 0) → Contains (bit_members 64 first (bit_and left (left - 1))) p ⊎ (get_or new p 0 ≡ 0)
cleared_more words new first left some fits zero others p or =
    let at = first + count_trailing_zeros 64 left in
    elim (cases_eq p at) [
      | inl here ↦ inr (ap (λ q. get_or new q 0) here ∙ zero)
      | inr apart ↦
          elim or [
            | inl is ↦
                elim (first_or_later at p (bit_members 64 first (bit_and left (left - 1)))
                (subst (λ ps. Contains ps p) (bits_lowest 64 first left (omega (arith, some)) fits) is)) [
                  | inl here ↦ absurd (apart here)
                  | inr later ↦ inl later
                ]
            | inr none ↦ inr (others p apart ∙ none)
          ]
    ]

-- each word that was named is zero in the end
pub all_cleared : (words : List ℕ) (first left : ℕ) → left ≡ 0 → (p : ℕ) → Contains (bit_members 64 first left) p ⊎ (get_or words p 0 ≡ 0) → get_or words p 0 ≡ 0
all_cleared words first left none p or =
    elim or [
      | inl is ↦ absurd (contains_nothing p (subst (λ ps. Contains ps p) (ap (bit_members 64 first) none ∙ bits_none 64 first) is))
      | inr zero ↦ zero
    ]

-- all words are zero where those are that the summary can name
pub all_zero : (words : List ℕ) (named index : ℕ) → named ≤ index → length words ≤ 64 * named → ((p : ℕ) → p < 64 * index → get_or words p 0 ≡ 0) → (p : ℕ) → get_or words p 0 ≡ 0
all_zero words named index up within zero p =
    elim (cases_lt p (64 * index)) [ inl below ↦ zero p below | inr above ↦ get_or_past words p 0 (omega (arith, up, within, above)) ]

-- a slice that was written as long as it is
pub written_back : (n : ℕ) (olds news : List ℕ) → n ≡ length olds → length news ≡ length olds → take n (news ++ drop (length news) olds) ≡ news
written_back n olds news len same =
    ap₂ (λ k xs. take k (news ++ xs)) (len ∙ sym same) (drop_all (length news) olds (omega (arith, same)))
    ∙ ap (take (length news)) (append-nil news) ∙ take_all (length news) news (omega arith)
