-- Lists of entries cut at a key: their keys, and what they give.
use Rattle.std.proofs.Common.{◌≡◌, ◌≢◌, ℕ, ◌<◌, ◌≤◌, nat_lt, if◌then◌else◌, inl, inr, Some, None, List, [], ◌∷◌, ◌++◌, refl, ap, arith}
use Rattle.std.specs.Map.{keys_of}
use Rattle.std.specs.Option.{option_or}
use Rattle.std.proofs.lemmas.Bool.{cases_lt, cases_eq, lt-ltb, le-ltb, eq-eqb, ne_eqb}
use Rattle.ascending_lists.specs.Sets.{below, above}
use Rattle.ascending_lists.specs.Maps.{lookup}
use Rattle.ascending_lists.specs.MapOperations.{entries_below, entries_above}

module _ {V : Type 0} where
  pub keys_below : (k : ℕ) (es : List (ℕ × V)) → keys_of (entries_below k es) ≡ below k (keys_of es)
  keys_below k [] = refl
  keys_below k (e ∷ es) =
      elim (cases_lt e.0 k) [
        | inl lt ↦ rw (lt-ltb e.0 k lt) (ap (λ v. e.0 ∷ v) (keys_below k es))
        | inr ge ↦ rw (le-ltb e.0 k ge) (keys_below k es)
      ]

  pub keys_above : (k : ℕ) (es : List (ℕ × V)) → keys_of (entries_above k es) ≡ above k (keys_of es)
  keys_above k [] = refl
  keys_above k (e ∷ es) =
      elim (cases_lt k e.0) [
        | inl lt ↦ rw (lt-ltb k e.0 lt) (ap (λ v. e.0 ∷ v) (keys_above k es))
        | inr ge ↦ rw (le-ltb k e.0 ge) (keys_above k es)
      ]

  -- a first entry with another key gives nothing
  pub lookup_later : (e : ℕ × V) (es : List (ℕ × V)) (k : ℕ) → e.0 ≢ k → lookup k (e ∷ es) ≡ lookup k es
  lookup_later e es k other = rw (ne_eqb e.0 k other) refl

  pub lookup_first : (e : ℕ × V) (es : List (ℕ × V)) (k : ℕ) → e.0 ≡ k → lookup k (e ∷ es) ≡ Some e.1
  lookup_first e es k is = rw (eq-eqb e.0 k is) refl

  pub lookup_append : (k : ℕ) (xs ys : List (ℕ × V)) → lookup k (xs ++ ys) ≡ option_or (lookup k xs) (lookup k ys)
  lookup_append k [] ys = refl
  lookup_append k (x ∷ xs) ys =
      elim (cases_eq x.0 k) [
        | inl is ↦ rw (eq-eqb x.0 k is) refl
        | inr other ↦ rw (ne_eqb x.0 k other) (lookup_append k xs ys)
      ]

  -- what is below k gives what the list gives at keys below k, and nothing at others
  pub value_under : (j k : ℕ) (es : List (ℕ × V)) → j < k → lookup j (entries_below k es) ≡ lookup j es
  value_under j k [] lt = refl
  value_under j k (e ∷ es) lt =
      elim (cases_eq e.0 j) [
        | inl is ↦ rw (lt-ltb e.0 k (omega (arith, is, lt))) (rw (eq-eqb e.0 j is) refl)
        | inr other ↦ elim (cases_lt e.0 k) [
          | inl a ↦ rw (lt-ltb e.0 k a) (rw (ne_eqb e.0 j other) (value_under j k es lt))
          | inr a ↦ rw (le-ltb e.0 k a, ne_eqb e.0 j other) (value_under j k es lt)
        ]
      ]

  pub nothing_below : (j k : ℕ) (es : List (ℕ × V)) → k ≤ j → lookup j (entries_below k es) ≡ None
  nothing_below j k [] le = refl
  nothing_below j k (e ∷ es) le =
      elim (cases_lt e.0 k) [
        | inl a ↦
            let other : e.0 ≢ j = omega arith in
            rw (lt-ltb e.0 k a) (rw (ne_eqb e.0 j other) (nothing_below j k es le))
        | inr a ↦ rw (le-ltb e.0 k a) (nothing_below j k es le)
      ]

  -- what is above k gives what the list gives at keys above k, and nothing at others
  pub value_over : (j k : ℕ) (es : List (ℕ × V)) → k < j → lookup j (entries_above k es) ≡ lookup j es
  value_over j k [] lt = refl
  value_over j k (e ∷ es) lt =
      elim (cases_eq e.0 j) [
        | inl is ↦ rw (lt-ltb k e.0 (omega (arith, is, lt))) (rw (eq-eqb e.0 j is) refl)
        | inr other ↦ elim (cases_lt k e.0) [
          | inl a ↦ rw (lt-ltb k e.0 a) (rw (ne_eqb e.0 j other) (value_over j k es lt))
          | inr a ↦ rw (le-ltb k e.0 a, ne_eqb e.0 j other) (value_over j k es lt)
        ]
      ]

  pub nothing_above : (j k : ℕ) (es : List (ℕ × V)) → j ≤ k → lookup j (entries_above k es) ≡ None
  nothing_above j k [] le = refl
  nothing_above j k (e ∷ es) le =
      elim (cases_lt k e.0) [
        | inl a ↦
            let other : e.0 ≢ j = omega arith in
            rw (lt-ltb k e.0 a) (rw (ne_eqb e.0 j other) (nothing_above j k es le))
        | inr a ↦ rw (le-ltb k e.0 a) (nothing_above j k es le)
      ]

  pub values_below : (j k : ℕ) (es : List (ℕ × V)) → lookup j (entries_below k es) ≡ (if nat_lt j k then lookup j es else None)
  values_below j k es =
      elim (cases_lt j k) [
        | inl lt ↦ rw (lt-ltb j k lt) (value_under j k es lt)
        | inr ge ↦ rw (le-ltb j k ge) (nothing_below j k es ge)
      ]

  pub values_above : (j k : ℕ) (es : List (ℕ × V)) → lookup j (entries_above k es) ≡ (if nat_lt k j then lookup j es else None)
  values_above j k es =
      elim (cases_lt k j) [
        | inl lt ↦ rw (lt-ltb k j lt) (value_over j k es lt)
        | inr ge ↦ rw (le-ltb k j ge) (nothing_above j k es ge)
      ]
