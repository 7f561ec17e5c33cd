-- The vertices of the set bits of one word.
use Rattle.std.proofs.Common.{◌≡◌, ◌≢◌, ℕ, zero, suc, ◌+◌, ◌-◌, ◌*◌, ◌/◌, ◌%◌, ◌^◌, ◌<◌, ◌≤◌, inl, inr, min, Bool, true, false, cond, ◌==◌, List, [], ◌∷◌, length, bit_and, count_ones, refl, sym, ◌∙◌}
use Rattle.std.proofs.Common.{ap, ap₂, subst, arith, Contains, mod-lt, zero-lt-suc, pow-suc, add-zero}
use Rattle.std.specs.Int.{bit_at}
use Rattle.std.proofs.lemmas.Bool.{eq-eqb, eqb-true}
use Rattle.std.proofs.lemmas.Nat.Bits.{bit_at_lowest, bit_at-suc}
use lib.Bits.{and_step, and_self}
use lib.Count.{count_trailing_zeros, under, ones, ones_step}
use Rattle.vertex_sets.specs.inside.Words.{bit_members}
use Rattle.vertex_sets.proofs.Ascending.{Rises, contains_nothing, rises_choice, choice_cases, choice_later, choice_first}

pub rises_bits : (k a word : ℕ) → Rises a (bit_members k a word)
unfolding bit_members
rises_bits zero a word = tt
rises_bits (suc k) a word = rises_choice (word % 2 == 1) a (bit_members k (a + 1) (word / 2)) (rises_bits k (a + 1) (word / 2))

pub bit_of : (k a word v : ℕ) → Contains (bit_members k a word) v → (i : ℕ) × (i < k) × (v ≡ a + i) × (bit_at word i ≡ 1)
unfolding bit_members
bit_of zero a word v is = absurd (contains_nothing v is)
bit_of (suc k) a word v is =
    elim (choice_cases (word % 2 == 1) a v (bit_members k (a + 1) (word / 2)) is) [
      | inl here ↦ (0, omega arith, omega (arith, here.1), bit_at_lowest word ∙ eqb-true (word % 2) 1 here.0)
      | inr later ↦
          let h = bit_of k (a + 1) (word / 2) v later in
          (suc h.0, omega (arith, h.1), omega (arith, h.2), bit_at-suc word h.0 ∙ h.3)
    ]

pub bit_in : (k a word i : ℕ) → i < k → bit_at word i ≡ 1 → Contains (bit_members k a word) (a + i)
unfolding bit_members
bit_in zero a word i within is = absurd (omega arith)
bit_in (suc k) a word zero within is =
    let e : a ≡ a + 0 = omega arith in
    subst (λ v. Contains (bit_members (suc k) a word) v) e
    (choice_first (word % 2 == 1) a (bit_members k (a + 1) (word / 2)) (eq-eqb (word % 2) 1 (sym (bit_at_lowest word) ∙ is)))
bit_in (suc k) a word (suc i) within is =
    let e : a + 1 + i ≡ a + suc i = omega arith in
    choice_later (word % 2 == 1) a (a + suc i) (bit_members k (a + 1) (word / 2))
    (subst (λ v. Contains (bit_members k (a + 1) (word / 2)) v) e (bit_in k (a + 1) (word / 2) i (omega arith) (sym (bit_at-suc word i) ∙ is)))

-- ---- the lowest set bit comes first

pub bits_none : (k a : ℕ) → bit_members k a 0 ≡ []
unfolding bit_members
bits_none zero a = refl
bits_none (suc k) a = bits_none k (a + 1)

abbrev turn : ℕ → ℕ → ℕ → ℕ → List ℕ
turn k a low high = cond (low == 1) (a ∷ bit_members k (a + 1) high) (bit_members k (a + 1) high)

abbrev TakesLowest : ℕ → ℕ → ℕ → Type 0
TakesLowest k a word =
    turn k a (word % 2) (word / 2)
    ≡ (a + under (word % 2) (count_trailing_zeros k (word / 2))) ∷ turn k a (bit_and word (word - 1) % 2) (bit_and word (word - 1) / 2)

either_bit : (P : ℕ → Type 0) → P 0 → P 1 → (b : ℕ) → b < 2 → P b
either_bit P off on zero lt = off
either_bit P off on (suc zero) lt = on
either_bit P off on (suc (suc b)) lt = absurd (omega arith)

pub bits_lowest : (k a word : ℕ) → 0 < word → word < 2 ^ k
    → bit_members k a word ≡ (a + count_trailing_zeros k word) ∷ bit_members k a (bit_and word (word - 1))
unfolding bit_members count_trailing_zeros
bits_lowest zero a word some fits = absurd (omega arith)
bits_lowest (suc k) a word some fits =
    either_bit (λ b. word % 2 ≡ b → TakesLowest k a word)
    (even (λ more. bits_lowest k (a + 1) (word / 2) more (omega (arith, pow-suc 2 k)))) odd (word % 2) (mod-lt word (zero-lt-suc 1)) refl
  where
    odd : word % 2 ≡ 1 → TakesLowest k a word
    odd e =
        let rest = bit_and word (word - 1) in
        let half : (word - 1) / 2 ≡ word / 2 = omega arith in
        let low : min (word % 2) ((word - 1) % 2) ≡ 0 = omega arith in
        let is : rest ≡ word / 2 * 2 + 0 = and_step word (word - 1) ∙ ap₂ (λ u v. u * 2 + v) (ap (bit_and (word / 2)) half ∙ and_self (word / 2)) low in
        let p : rest % 2 ≡ 0 = omega arith in
        let q : rest / 2 ≡ word / 2 = omega arith in
        ap (λ b. turn k a b (word / 2)) e
        ∙ ap₂ (λ u v. u ∷ v) (sym (ap (λ b. a + under b (count_trailing_zeros k (word / 2))) e ∙ add-zero a)) (sym (ap₂ (turn k a) p q))

    even : (0 < word / 2 → bit_members k (a + 1) (word / 2) ≡ (a + 1 + count_trailing_zeros k (word / 2)) ∷ bit_members k (a + 1) (bit_and (word / 2) (word / 2 - 1)))
        → word % 2 ≡ 0 → TakesLowest k a word
    even later e =
        let rest = bit_and word (word - 1) in
        let half : (word - 1) / 2 ≡ word / 2 - 1 = omega arith in
        let low : min (word % 2) ((word - 1) % 2) ≡ 0 = omega arith in
        let high = bit_and (word / 2) (word / 2 - 1) in
        let is : rest ≡ high * 2 + 0 = and_step word (word - 1) ∙ ap₂ (λ u v. u * 2 + v) (ap (bit_and (word / 2)) half) low in
        let p : rest % 2 ≡ 0 = omega arith in
        let q : rest / 2 ≡ high = omega arith in
        let t = count_trailing_zeros k (word / 2) in
        let index : a + 1 + t ≡ a + suc t = omega arith in
        ap (λ b. turn k a b (word / 2)) e ∙ later (omega arith)
        ∙ ap₂ (λ u v. u ∷ v) (index ∙ sym (ap (λ b. a + under b t) e)) (sym (ap₂ (turn k a) p q))

-- ---- how many there are

length_turn : (b k a word : ℕ) → b < 2 → length (bit_members k (a + 1) word) ≡ ones word → length (turn k a b word) ≡ b + ones word
length_turn zero k a word lt e = e ∙ omega arith
length_turn (suc zero) k a word lt e = omega (arith, e)
length_turn (suc (suc b)) k a word lt e = absurd (omega arith)

-- as many as the word has ones
pub length_bits : (k a word : ℕ) → word < 2 ^ k → length (bit_members k a word) ≡ count_ones word
unfolding bit_members count_ones
length_bits zero a word fits = let none : word ≡ 0 = omega arith in sym (ap ones none)
length_bits (suc k) a word fits =
    length_turn (word % 2) k a (word / 2) (mod-lt word (zero-lt-suc 1)) (length_bits k (a + 1) (word / 2) (omega (arith, pow-suc 2 k)))
    ∙ sym (ones_step word)

pub same_bits : (k a word other : ℕ) → ((i : ℕ) → i < k → bit_at other i ≡ bit_at word i) → bit_members k a other ≡ bit_members k a word
unfolding bit_members
same_bits zero a word other same = refl
same_bits (suc k) a word other same =
    let low : other % 2 ≡ word % 2 = sym (bit_at_lowest other) ∙ same 0 (omega arith) ∙ bit_at_lowest word in
    let high = same_bits k (a + 1) (word / 2) (other / 2) (λ i lt. sym (bit_at-suc other i) ∙ same (suc i) (omega arith) ∙ bit_at-suc word i) in
    ap₂ (λ b xs. cond (b == 1) (a ∷ xs) xs) low high

one_longer : (b : Bool) (a : ℕ) (xs ys : List ℕ) → length ys ≡ suc (length xs) → length (cond b (a ∷ ys) ys) ≡ suc (length (cond b (a ∷ xs) xs))
one_longer true a xs ys e = ap suc e
one_longer false a xs ys e = e

-- a bit that becomes set adds one
pub one_more_bit : (k a word other i : ℕ) → i < k → bit_at word i ≡ 0 → bit_at other i ≡ 1
    → ((j : ℕ) → j < k → j ≢ i → bit_at other j ≡ bit_at word j) → length (bit_members k a other) ≡ suc (length (bit_members k a word))
unfolding bit_members
one_more_bit zero a word other i within off on same = absurd (omega arith)
one_more_bit (suc k) a word other zero within off on same =
    let was : word % 2 ≡ 0 = sym (bit_at_lowest word) ∙ off in
    let is : other % 2 ≡ 1 = sym (bit_at_lowest other) ∙ on in
    let high = same_bits k (a + 1) (word / 2) (other / 2)
    (λ i lt. sym (bit_at-suc other i) ∙ same (suc i) (omega arith) (λ e. absurd (omega arith)) ∙ bit_at-suc word i) in
    ap₂ (λ b xs. length (cond (b == 1) (a ∷ xs) xs)) is high ∙ ap (λ b. suc (length (cond (b == 1) (a ∷ bit_members k (a + 1) (word / 2)) (bit_members k (a + 1) (word / 2))))) (sym was)
one_more_bit (suc k) a word other (suc i) within off on same =
    let low : other % 2 ≡ word % 2 = sym (bit_at_lowest other) ∙ same 0 (omega arith) (λ e. absurd (omega arith)) ∙ bit_at_lowest word in
    let high = one_more_bit k (a + 1) (word / 2) (other / 2) i (omega arith) (sym (bit_at-suc word i) ∙ off) (sym (bit_at-suc other i) ∙ on)
    (λ j lt apart. sym (bit_at-suc other j) ∙ same (suc j) (omega arith) (λ e. apart (omega arith)) ∙ bit_at-suc word j) in
    ap (λ b. length (cond (b == 1) (a ∷ bit_members k (a + 1) (other / 2)) (bit_members k (a + 1) (other / 2)))) low
    ∙ one_longer (word % 2 == 1) a (bit_members k (a + 1) (word / 2)) (bit_members k (a + 1) (other / 2)) high

longer_choice : (b : Bool) (a : ℕ) (xs : List ℕ) (n : ℕ) → length xs ≤ n → length (cond b (a ∷ xs) xs) ≤ suc n
longer_choice true a xs n le = omega arith
longer_choice false a xs n le = omega arith

pub bits_room : (k a word : ℕ) → length (bit_members k a word) ≤ k
unfolding bit_members
bits_room zero a word = omega arith
bits_room (suc k) a word = longer_choice (word % 2 == 1) a (bit_members k (a + 1) (word / 2)) k (bits_room k (a + 1) (word / 2))
