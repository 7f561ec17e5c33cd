-- Vectors agree where none of them differs.
use Rattle.std.proofs.Common.{◌≡◌, ℕ, zero, suc, ◌<◌, ◌≤◌, inl, inr, Bool, true, false, not, cond, ℤ, pos, List, [], ◌∷◌, length, slice_index_or, refl, ap, ap₂, sym, ◌∙◌, subst, arith, ◌+◌, ◌||◌}
use Rattle.std.specs.List.{filter}
use Rattle.std.proofs.lemmas.Bool.Decides.{nat_tests}
use Rattle.std.proofs.lemmas.Bool.{cases_lt, or_parts}
use Rattle.std.proofs.lemmas.Int.{ints}
use Rattle.std.proofs.lemmas.List.{get_or_past}
use Rattle.algorithm_meaning.specs.Arithmetic.{int_equal}
use Rattle.algorithm_meaning.specs.Value.{entry}
use Rattle.follow_engine.specs.Differing.{differ_at}
use Rattle.follow_engine.specs.Local.{AgreeAt}

equal_ints : (a b : ℤ) → int_equal a b ≡ true → a ≡ b
equal_ints a b e = grind (arith, ints, nat_tests)

not_different : (a b : ℤ) (e : Bool) → int_equal a b ≡ e → not e ≡ false → a ≡ b
not_different a b true is none = equal_ints a b is
not_different a b false is none = cc none

below : (a b : List (List ℤ)) (n v x : ℕ) → x < n → differ_at a b n v ≡ false → entry a x v ≡ entry b x v
below a b zero v x less none = absurd (omega (arith, less))
below a b (suc n) v x less none =
    let parts = or_parts (differ_at a b n v) (not (int_equal (entry a n v) (entry b n v))) none in
    elim (cases_lt x n) [
      | inl lt ↦ below a b n v x lt parts.0
      | inr le ↦
          let last : n ≡ x = omega (arith, less, le) in
          subst (λ (k : ℕ). entry a k v ≡ entry b k v) last (not_different (entry a n v) (entry b n v) (int_equal (entry a n v) (entry b n v)) refl parts.1)
    ]

-- a vector that is not there has no entry
past : (a : List (List ℤ)) (x v : ℕ) → length a ≤ x → entry a x v ≡ pos 0
past a x v le = ap (λ (xs : List ℤ). slice_index_or xs v (pos 0)) (get_or_past a x [] le)

pub agree : (a b : List (List ℤ)) (n v : ℕ) → length a ≤ n → length b ≤ n → differ_at a b n v ≡ false → AgreeAt a b v
agree a b n v few few' none x = elim (cases_lt x n) [
  | inl lt ↦ below a b n v x lt none
  | inr le ↦ past a x v (omega (arith, few, le)) ∙ sym (past b x v (omega (arith, few', le)))
]

or_true : (b : Bool) → b || true ≡ true
or_true true = refl
or_true false = refl

next_number : (n : ℕ) → suc n ≡ n + 1
next_number n = omega arith

-- where one of the vectors differs, it is seen
differs_here : (a b : List (List ℤ)) (n v x : ℕ) → x < n → not (int_equal (entry a x v) (entry b x v)) ≡ true → differ_at a b n v ≡ true
differs_here a b zero v x less is = absurd (omega (arith, less))
differs_here a b (suc n) v x less is = elim (cases_lt x n) [
  | inl lt ↦ ap (λ (t : Bool). t || not (int_equal (entry a n v) (entry b n v))) (differs_here a b n v x lt is)
  | inr le ↦
      let last : x ≡ n = omega (arith, less, le) in
      ap (λ (t : Bool). differ_at a b n v || t) (subst (λ (k : ℕ). not (int_equal (entry a k v) (entry b k v)) ≡ true) last is) ∙ or_true (differ_at a b n v)
]

pub differs : (a b : List (List ℤ)) (n v x : ℕ) → x < n → not (int_equal (entry a x v) (entry b x v)) ≡ true → true ≡ differ_at a b n v
differs a b n v x less is = sym (differs_here a b n v x less is)

-- no vector so far, and not the next
pub none_more : (a b : List (List ℤ)) (n v : ℕ) → differ_at a b n v ≡ false → not (int_equal (entry a n v) (entry b n v)) ≡ false
    → differ_at a b (n + 1) v ≡ false
none_more a b n v none next = subst (λ (k : ℕ). differ_at a b k v ≡ false) (next_number n) (ap₂ (λ (s t : Bool). s || t) none next)

-- none of a list is kept by a test that none passes
pub none_kept : (test : ℕ → Bool) (vs : List ℕ) → ((v : ℕ) → test v ≡ false) → filter test vs ≡ []
none_kept test [] off = refl
none_kept test (v ∷ vs) off = ap (λ (b : Bool). cond b (v ∷ filter test vs) (filter test vs)) (off v) ∙ none_kept test vs off
