-- Maps with the same values.
use Rattle.std.proofs.Common.{◌≡◌, ◌≢◌, ℕ, ◌+◌, inl, inr, Option, Some, None, List, [], ◌∷◌, refl, sym, ◌∙◌, arith}
use Rattle.std.proofs.lemmas.Bool.{ne_eqb, eq-eqb, cases_order, cases_eq}
use Rattle.ascending_lists.specs.Maps.{Rises, lookup}
use Rattle.ascending_lists.proofs.MapOrder.{lookup_below}

module _ {V : Type 0} where
  -- after a first key that they share, two lists have the same values
  values_after : (h : ℕ) (x y : ℕ × V) (xs ys : List (ℕ × V)) → x.0 ≡ y.0 → Rises (x.0 + 1) h xs → Rises (y.0 + 1) h ys → ((k : ℕ) → lookup k (x ∷ xs) ≡ lookup k (y ∷ ys)) → (j : ℕ)
      → lookup j xs ≡ lookup j ys
  values_after h x y xs ys e s t same j =
      elim (cases_eq x.0 j) [
        | inl here ↦ lookup_below (x.0 + 1) h xs j s (omega arith) ∙ sym (lookup_below (y.0 + 1) h ys j t (omega arith))
        | inr other ↦
            let other' : y.0 ≢ j = λ f. other (e ∙ f) in
            let both = same j in
            rw (ne_eqb x.0 j other, ne_eqb y.0 j other') at both
      ]

  first_value : (x : ℕ × V) (xs : List (ℕ × V)) (k : ℕ) → x.0 ≡ k → lookup k (x ∷ xs) ≡ Some x.1
  first_value x xs k e = rw (eq-eqb x.0 k e)

  same_pairs : (x y : ℕ × V) (xs ys : List (ℕ × V)) → x.0 ≡ y.0 → Some x.1 ≡ Some y.1 → xs ≡ ys → x ∷ xs ≡ y ∷ ys
  same_pairs (k, v) (j, w) xs ys e f g = cc

  some_none : (v : V) (o : Option V) → o ≡ Some v → o ≡ None → ⊥
  some_none v o e f = cc

  -- entries in order with the same values at all keys are the same
  pub same_entries : (a h : ℕ) (xs ys : List (ℕ × V)) → Rises a h xs → Rises a h ys → ((k : ℕ) → lookup k xs ≡ lookup k ys) → xs ≡ ys
  same_entries a h [] [] s t same = refl
  same_entries a h [] (y ∷ ys) s t same = absurd (some_none y.1 None (same y.0 ∙ first_value y ys y.0 refl) refl)
  same_entries a h (x ∷ xs) [] s t same = absurd (some_none x.1 (lookup x.0 (x ∷ xs)) (first_value x xs x.0 refl) (same x.0))
  same_entries a h (x ∷ xs) (y ∷ ys) s t same =
      elim (cases_order x.0 y.0) [
        | inl e ↦
            same_pairs x y xs ys e (sym (first_value x xs x.0 refl) ∙ same x.0 ∙ first_value y ys x.0 (sym e))
            (same_entries (x.0 + 1) h xs ys s.1 (rw e t.1) (values_after h x y xs ys e s.1 t.1 same))
        | inr o ↦ elim o [
          | inl lt ↦ absurd (some_none x.1 (lookup x.0 (x ∷ xs)) (first_value x xs x.0 refl) (same x.0 ∙ lookup_below y.0 h (y ∷ ys) x.0 (omega arith, t.1) lt))
          | inr gt ↦ absurd (some_none y.1 (lookup y.0 (y ∷ ys)) (first_value y ys y.0 refl) (sym (same y.0) ∙ lookup_below x.0 h (x ∷ xs) y.0 (omega arith, s.1) gt))
        ]
      ]
