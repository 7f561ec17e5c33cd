-- Edges that rise, the weights that they give ends, and that these determine them.
use Rattle.std.proofs.Common.{◌≡◌, ℕ, ◌+◌, ◌^◌, ◌<◌, ◌≤◌, ◌==◌, ℤ, true, false, Some, None, inl, inr, List, [], ◌∷◌, ◌++◌, refl, sym, ap, ◌∙◌, subst, arith}
use Rattle.std.proofs.lemmas.Bool.{cases_Bool, cases_lt, and_parts, and_from, eqb-true, eq-eqb, false_from_ne_true}
use Rattle.std.specs.Option.{option_or}
use Rattle.weighted_edges.specs.Edge.{Edge}
use Rattle.tree_batch.specs.Edge.{Ends, ends_of, index, ends_eq, weight_in, EdgesRise}

pub ends_eq-refl : (p : Ends) → ends_eq p p ≡ true
ends_eq-refl p = and_from _ _ (eq-eqb p.0 p.0 refl) (eq-eqb p.1 p.1 refl)

-- the test tells ends apart
pub ends_eq-true : (a b : Ends) → ends_eq a b ≡ true → a ≡ b
ends_eq-true a b h =
    let parts = and_parts (a.0 == b.0) (a.1 == b.1) h in
    let first : a.0 ≡ b.0 = eqb-true a.0 b.0 parts.0 in
    let second : a.1 ≡ b.1 = eqb-true a.1 b.1 parts.1 in
    λ i. (first i, second i)

-- ends at different indices differ
pub ends_eq-apart : (a b : Ends) → (index a ≡ index b → ⊥) → ends_eq a b ≡ false
ends_eq-apart a b apart = false_from_ne_true (ends_eq a b) (λ same. apart (ap index (ends_eq-true a b same)))

-- an index tells ends apart, whose destinations are below 2 ^ 32
pub same_index : (a b : Ends) → a.1 < 2 ^ 32 → b.1 < 2 ^ 32 → index a ≡ index b → a ≡ b
same_index a b small_a small_b same =
    let first : a.0 ≡ b.0 = omega arith in
    let second : a.1 ≡ b.1 = omega arith in
    λ i. (first i, second i)

-- edges between the same ends, with the same weight, are the same
same_edge : (x y : Edge) → ends_of x ≡ ends_of y → x.2 ≡ y.2 → x ≡ y
same_edge x y ends weight =
    let first : x.0 ≡ y.0 = ap (λ (p : Ends). p.0) ends in
    let second : x.1 ≡ y.1 = ap (λ (p : Ends). p.1) ends in
    λ i. (first i, second i, weight i)

pub weight_in-append : (xs ys : List Edge) (p : Ends) → weight_in p (xs ++ ys) ≡ option_or (weight_in p xs) (weight_in p ys)
weight_in-append [] ys p = refl
weight_in-append (x ∷ xs) ys p = elim (cases_Bool (ends_eq (ends_of x) p)) [
  | inl here ↦ rw (here) refl
  | inr not_here ↦ rw (not_here) (weight_in-append xs ys p)
]

pub rises_within : (low high : ℕ) (es : List Edge) → EdgesRise low high es → low ≤ high
rises_within low high [] h = h
rises_within low high (e ∷ es) h = omega (arith, h.0, rises_within (index (ends_of e) + 1) high es h.2)

pub rises_from : (low lower high : ℕ) (es : List Edge) → lower ≤ low → EdgesRise low high es → EdgesRise lower high es
rises_from low lower high [] le h = omega arith
rises_from low lower high (e ∷ es) le h = (omega (arith, h.0), h.1, h.2)

pub rises_wider : (low high higher : ℕ) (es : List Edge) → high ≤ higher → EdgesRise low high es → EdgesRise low higher es
rises_wider low high higher [] le h = omega arith
rises_wider low high higher (e ∷ es) le h = (h.0, h.1, rises_wider (index (ends_of e) + 1) high higher es le h.2)

pub rises_joined : (low mid high : ℕ) (xs ys : List Edge) → EdgesRise low mid xs → EdgesRise mid high ys → EdgesRise low high (xs ++ ys)
rises_joined low mid high [] ys h k = rises_from mid low high ys h k
rises_joined low mid high (x ∷ xs) ys h k = (h.0, h.1, rises_joined (index (ends_of x) + 1) mid high xs ys h.2 k)

-- edges below low are not there
pub weight_in-below : (low high : ℕ) (es : List Edge) (p : Ends) → EdgesRise low high es → index p < low → weight_in p es ≡ None
weight_in-below low high [] p h lt = refl
weight_in-below low high (x ∷ xs) p h lt =
    rw (ends_eq-apart (ends_of x) p (λ same. omega (arith, h.0))) (weight_in-below (index (ends_of x) + 1) high xs p h.2 (omega (arith, h.0)))

-- the first edge is there
weight_in-head : (x : Edge) (xs : List Edge) → weight_in (ends_of x) (x ∷ xs) ≡ Some x.2
weight_in-head x xs = rw (ends_eq-refl (ends_of x)) refl

some_none : (w : ℤ) → Some w ≡ None → ⊥
some_none w e = cc

some_same : (v w : ℤ) → Some v ≡ Some w → v ≡ w
some_same v w e = cc

-- the first of the one stands no earlier than the first of the other
no_earlier : (x y : Edge) (xs ys : List Edge) (high : ℕ) → EdgesRise (index (ends_of y)) high (y ∷ ys) → ((p : Ends) → weight_in p (x ∷ xs) ≡ weight_in p (y ∷ ys))
    → index (ends_of y) ≤ index (ends_of x)
no_earlier x y xs ys high rises same = elim (cases_lt (index (ends_of x)) (index (ends_of y))) [
  | inl lt ↦ absurd (some_none x.2 (sym (weight_in-head x xs) ∙ same (ends_of x) ∙ weight_in-below (index (ends_of y)) high (y ∷ ys) (ends_of x) rises lt))
  | inr le ↦ le
]

-- without their first edge too, the two give the same weights
same_rest : (x : Edge) (xs ys : List Edge) (low high : ℕ) → EdgesRise (index (ends_of x) + 1) low xs → EdgesRise (index (ends_of x) + 1) high ys
    → ((p : Ends) → weight_in p (x ∷ xs) ≡ weight_in p (x ∷ ys))
    → (p : Ends) → weight_in p xs ≡ weight_in p ys
same_rest x xs ys low high h k same p = elim (cases_Bool (ends_eq (ends_of x) p)) [
  | inl here ↦
      let is : ends_of x ≡ p = ends_eq-true (ends_of x) p here in
      let at_index : index p < index (ends_of x) + 1 = omega (arith, ap index is) in
      weight_in-below (index (ends_of x) + 1) low xs p h at_index ∙ sym (weight_in-below (index (ends_of x) + 1) high ys p k at_index)
  | inr not_here ↦ rw (not_here) at (same p)
]

-- edges that rise are determined by the weights that they give
pub same_edges : (low lower high higher : ℕ) (xs ys : List Edge) → EdgesRise low high xs → EdgesRise lower higher ys → ((p : Ends) → weight_in p xs ≡ weight_in p ys) → xs ≡ ys
same_edges low lower high higher [] [] h k same = refl
same_edges low lower high higher [] (y ∷ ys) h k same = absurd (some_none y.2 (sym (weight_in-head y ys) ∙ sym (same (ends_of y))))
same_edges low lower high higher (x ∷ xs) [] h k same = absurd (some_none x.2 (sym (weight_in-head x xs) ∙ same (ends_of x)))
same_edges low lower high higher (x ∷ xs) (y ∷ ys) h k same =
    let one = no_earlier x y xs ys higher (omega arith, k.1, k.2) same in
    let other = no_earlier y x ys xs high (omega arith, h.1, h.2) (λ p. sym (same p)) in
    let ends : ends_of x ≡ ends_of y = same_index (ends_of x) (ends_of y) h.1 k.1 (omega (arith, one, other)) in
    let weight : x.2 ≡ y.2 = some_same x.2 y.2 (sym (weight_in-head x xs) ∙ ap (λ p. weight_in p (x ∷ xs)) ends ∙ same (ends_of y) ∙ weight_in-head y ys) in
    let is : x ≡ y = same_edge x y ends weight in
    let Same : Edge → Type 0 = λ z. (p : Ends) → weight_in p (x ∷ xs) ≡ weight_in p (z ∷ ys) in
    let same_x : Same x = subst Same (sym is) same in
    let rises_y : EdgesRise (index (ends_of x) + 1) higher ys = subst (λ (z : Edge). EdgesRise (index (ends_of z) + 1) higher ys) (sym is) k.2 in
    λ i. is i ∷ same_edges (index (ends_of x) + 1) (index (ends_of x) + 1) high higher xs ys h.2 rises_y (same_rest x xs ys high higher h.2 rises_y same_x) i
