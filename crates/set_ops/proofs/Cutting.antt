-- Operations on entries, cut at an entry of the first list.
use Rattle.std.proofs.Common.{◌≡◌, ℕ, ◌+◌, ◌<◌, ◌≤◌, Bool, if◌then◌else◌, inl, inr, List, [], ◌∷◌, ◌++◌, refl, sym, ◌∙◌, ap, append_assoc, arith}
use Rattle.std.specs.Map.{keys_of}
use Rattle.std.specs.Option.{is_some, unwrap_or}
use Rattle.std.proofs.lemmas.Bool.{cases_lt, cases_eq, cases_Bool, lt-ltb, le-ltb, eq-eqb, ne_eqb}
use Rattle.ascending_lists.specs.Ascending.{AscendsFrom}
use Rattle.ascending_lists.specs.Sets.{has, below, above}
use Rattle.ascending_lists.specs.Maps.{lookup}
use Rattle.ascending_lists.specs.MapOperations.{entries_below, entries_above, renewed, union_keeping_second, union_keeping_first, without_keys}
use Rattle.ascending_lists.proofs.MapCuts.{value_under, value_over}

-- the keys on the side of a number on which it stands
has_below : (j k : ℕ) (ys : List ℕ) → j < k → has j (below k ys) ≡ has j ys
has_below j k [] lt = refl
has_below j k (y ∷ ys) lt =
    elim (cases_lt y k) [
      | inl a ↦ rw (lt-ltb y k a) (elim (cases_eq y j) [ inl e ↦ rw (eq-eqb y j e) refl | inr ne ↦ rw (ne_eqb y j ne) (has_below j k ys lt) ])
      | inr a ↦ rw (le-ltb y k a, ne_eqb y j (omega arith)) (has_below j k ys lt)
    ]

has_above : (j k : ℕ) (ys : List ℕ) → k < j → has j (above k ys) ≡ has j ys
has_above j k [] lt = refl
has_above j k (y ∷ ys) lt =
    elim (cases_lt k y) [
      | inl a ↦ rw (lt-ltb k y a) (elim (cases_eq y j) [ inl e ↦ rw (eq-eqb y j e) refl | inr ne ↦ rw (ne_eqb y j ne) (has_above j k ys lt) ])
      | inr a ↦ rw (le-ltb k y a, ne_eqb y j (omega arith)) (has_above j k ys lt)
    ]

module _ {V : Type 0} where
  -- the entries below the lesser of two numbers
  below_below : (j k : ℕ) (es : List (ℕ × V)) → j ≤ k → entries_below j (entries_below k es) ≡ entries_below j es
  below_below j k [] le = refl
  below_below j k (e ∷ es) le =
      elim (cases_lt e.0 j) [
        | inl lt ↦ rw (lt-ltb e.0 k (omega arith), lt-ltb e.0 j lt) (ap (λ v. e ∷ v) (below_below j k es le))
        | inr ge ↦ elim (cases_lt e.0 k) [
          | inl lt ↦ rw (lt-ltb e.0 k lt, le-ltb e.0 j ge) (below_below j k es le)
          | inr past ↦ rw (le-ltb e.0 k past, le-ltb e.0 j ge) (below_below j k es le)
        ]
      ]

  -- the entries above the greater of two numbers
  above_above : (j k : ℕ) (es : List (ℕ × V)) → k ≤ j → entries_above j (entries_above k es) ≡ entries_above j es
  above_above j k [] le = refl
  above_above j k (e ∷ es) le =
      elim (cases_lt j e.0) [
        | inl lt ↦ rw (lt-ltb k e.0 (omega arith), lt-ltb j e.0 lt) (ap (λ v. e ∷ v) (above_above j k es le))
        | inr ge ↦ elim (cases_lt k e.0) [
          | inl lt ↦ rw (lt-ltb k e.0 lt, le-ltb j e.0 ge) (above_above j k es le)
          | inr past ↦ rw (le-ltb k e.0 past, le-ltb j e.0 ge) (above_above j k es le)
        ]
      ]

  -- the entries between two numbers
  below_above : (j k : ℕ) (es : List (ℕ × V)) → entries_below k (entries_above j es) ≡ entries_above j (entries_below k es)
  below_above j k [] = refl
  below_above j k (e ∷ es) =
      elim (cases_lt j e.0) [
        | inl a ↦ elim (cases_lt e.0 k) [
          | inl b ↦ rw (lt-ltb j e.0 a, lt-ltb e.0 k b) (rw (lt-ltb j e.0 a) (ap (λ v. e ∷ v) (below_above j k es)))
          | inr b ↦ rw (lt-ltb j e.0 a, le-ltb e.0 k b) (below_above j k es)
        ]
        | inr a ↦ elim (cases_lt e.0 k) [
          | inl b ↦ rw (le-ltb j e.0 a, lt-ltb e.0 k b) (rw (le-ltb j e.0 a) (below_above j k es))
          | inr b ↦ rw (le-ltb j e.0 a, le-ltb e.0 k b) (below_above j k es)
        ]
      ]

  -- an entry is renewed by what stands on its side of a number
  renewed_below : (k : ℕ) (e : ℕ × V) (ys : List (ℕ × V)) → e.0 < k → renewed e (entries_below k ys) ≡ renewed e ys
  renewed_below k e ys lt = ap (λ o. (e.0, unwrap_or o e.1)) (value_under e.0 k ys lt)

  renewed_above : (k : ℕ) (e : ℕ × V) (ys : List (ℕ × V)) → k < e.0 → renewed e (entries_above k ys) ≡ renewed e ys
  renewed_above k e ys lt = ap (λ o. (e.0, unwrap_or o e.1)) (value_over e.0 k ys lt)

  pub has_lookup : (k : ℕ) (es : List (ℕ × V)) → has k (keys_of es) ≡ is_some (lookup k es)
  has_lookup k [] = refl
  has_lookup k (e ∷ es) =
      elim (cases_eq e.0 k) [
        | inl is ↦ rw (eq-eqb e.0 k is) refl
        | inr other ↦ rw (ne_eqb e.0 k other) (has_lookup k es)
      ]

  without_append : (xs zs : List (ℕ × V)) (ks : List ℕ) → without_keys (xs ++ zs) ks ≡ without_keys xs ks ++ without_keys zs ks
  without_append [] zs ks = refl
  without_append (x ∷ xs) zs ks =
      elim (cases_Bool (has x.0 ks)) [
        | inl h ↦ rw h (without_append xs zs ks)
        | inr h ↦ rw h (ap (λ v. x ∷ v) (without_append xs zs ks))
      ]

  -- one entry of a difference
  abbrev pub one_of : Bool → ℕ × V → List (ℕ × V) → List (ℕ × V)
  one_of h e zs = if h then zs else e ∷ zs

  without_above : (k low : ℕ) (r : List (ℕ × V)) (ks : List ℕ) → k < low → AscendsFrom low (keys_of r) → without_keys r ks ≡ without_keys r (above k ks)
  without_above k low [] ks le s = refl
  without_above k low (e ∷ r) ks le s =
      let lt : k < e.0 = omega (arith, s.0) in
      ap (λ v. one_of (has e.0 ks) e v) (without_above k (e.0 + 1) r ks (omega arith) s.2) ∙ ap (λ h. one_of h e (without_keys r (above k ks))) (sym (has_above e.0 k ks lt))

-- entries around one with the key k
module _ {V : Type 0} (e : ℕ × V) (r : List (ℕ × V)) where
  pub before_it : (low : ℕ) (l : List (ℕ × V)) → AscendsFrom low (keys_of (l ++ e ∷ r)) → low ≤ e.0
  before_it low [] s = s.0
  before_it low (x ∷ l) s = omega (arith, s.0, before_it (x.0 + 1) l s.2)

  pub front_ascends : (low : ℕ) (l : List (ℕ × V)) → AscendsFrom low (keys_of (l ++ e ∷ r)) → AscendsFrom low (keys_of l)
  front_ascends low [] s = tt
  front_ascends low (x ∷ l) s = (s.0, s.1, front_ascends (x.0 + 1) l s.2)

  pub back_ascends : (low : ℕ) (l : List (ℕ × V)) → AscendsFrom low (keys_of (l ++ e ∷ r)) → AscendsFrom (e.0 + 1) (keys_of r)
  back_ascends low [] s = s.2
  back_ascends low (x ∷ l) s = back_ascends (x.0 + 1) l s.2

  pub second_at : (low : ℕ) (l ys : List (ℕ × V)) → AscendsFrom low (keys_of (l ++ e ∷ r))
      → union_keeping_second (l ++ e ∷ r) ys ≡ union_keeping_second l (entries_below e.0 ys) ++ renewed e ys ∷ union_keeping_second r (entries_above e.0 ys)
  second_at low [] ys s = refl
  second_at low (x ∷ l) ys s =
      let lt : x.0 + 1 ≤ e.0 = before_it (x.0 + 1) l s.2 in
      let rest = union_keeping_second r (entries_above e.0 ys) in
      let back : union_keeping_second (l ++ e ∷ r) (entries_above x.0 ys) ≡ union_keeping_second l (entries_above x.0 (entries_below e.0 ys)) ++ renewed e ys ∷ rest =
      second_at (x.0 + 1) l (entries_above x.0 ys) s.2
      ∙ ap (λ v. union_keeping_second l v ++ renewed e (entries_above x.0 ys) ∷ union_keeping_second r (entries_above e.0 (entries_above x.0 ys))) (below_above x.0 e.0 ys)
      ∙ ap (λ v. union_keeping_second l (entries_above x.0 (entries_below e.0 ys)) ++ v ∷ union_keeping_second r (entries_above e.0 (entries_above x.0 ys))) (renewed_above x.0 e ys (omega arith))
      ∙ ap (λ v. union_keeping_second l (entries_above x.0 (entries_below e.0 ys)) ++ renewed e ys ∷ union_keeping_second r v) (above_above e.0 x.0 ys (omega arith)) in
      ap (λ v. v ++ renewed x ys ∷ union_keeping_second (l ++ e ∷ r) (entries_above x.0 ys)) (sym (below_below x.0 e.0 ys (omega arith)))
      ∙ ap (λ v. entries_below x.0 (entries_below e.0 ys) ++ v ∷ union_keeping_second (l ++ e ∷ r) (entries_above x.0 ys)) (sym (renewed_below e.0 x ys (omega arith)))
      ∙ ap (λ v. entries_below x.0 (entries_below e.0 ys) ++ renewed x (entries_below e.0 ys) ∷ v) back
      ∙ sym (append_assoc (entries_below x.0 (entries_below e.0 ys)) (renewed x (entries_below e.0 ys) ∷ union_keeping_second l (entries_above x.0 (entries_below e.0 ys))) (renewed e ys ∷ rest))

  pub first_at : (low : ℕ) (l ys : List (ℕ × V)) → AscendsFrom low (keys_of (l ++ e ∷ r))
      → union_keeping_first (l ++ e ∷ r) ys ≡ union_keeping_first l (entries_below e.0 ys) ++ e ∷ union_keeping_first r (entries_above e.0 ys)
  first_at low [] ys s = refl
  first_at low (x ∷ l) ys s =
      let lt : x.0 + 1 ≤ e.0 = before_it (x.0 + 1) l s.2 in
      let rest = union_keeping_first r (entries_above e.0 ys) in
      let back : union_keeping_first (l ++ e ∷ r) (entries_above x.0 ys) ≡ union_keeping_first l (entries_above x.0 (entries_below e.0 ys)) ++ e ∷ rest =
      first_at (x.0 + 1) l (entries_above x.0 ys) s.2
      ∙ ap (λ v. union_keeping_first l v ++ e ∷ union_keeping_first r (entries_above e.0 (entries_above x.0 ys))) (below_above x.0 e.0 ys)
      ∙ ap (λ v. union_keeping_first l (entries_above x.0 (entries_below e.0 ys)) ++ e ∷ union_keeping_first r v) (above_above e.0 x.0 ys (omega arith)) in
      ap (λ v. v ++ x ∷ union_keeping_first (l ++ e ∷ r) (entries_above x.0 ys)) (sym (below_below x.0 e.0 ys (omega arith)))
      ∙ ap (λ v. entries_below x.0 (entries_below e.0 ys) ++ x ∷ v) back
      ∙ sym (append_assoc (entries_below x.0 (entries_below e.0 ys)) (x ∷ union_keeping_first l (entries_above x.0 (entries_below e.0 ys))) (e ∷ rest))

  without_below : (low : ℕ) (l : List (ℕ × V)) (ks : List ℕ) → AscendsFrom low (keys_of (l ++ e ∷ r)) → without_keys l ks ≡ without_keys l (below e.0 ks)
  without_below low [] ks s = refl
  without_below low (x ∷ l) ks s =
      let lt : x.0 + 1 ≤ e.0 = before_it (x.0 + 1) l s.2 in
      ap (λ v. one_of (has x.0 ks) x v) (without_below (x.0 + 1) l ks s.2) ∙ ap (λ h. one_of h x (without_keys l (below e.0 ks))) (sym (has_below x.0 e.0 ks (omega arith)))

  pub without_at : (low : ℕ) (l : List (ℕ × V)) (ks : List ℕ) → AscendsFrom low (keys_of (l ++ e ∷ r))
      → without_keys (l ++ e ∷ r) ks ≡ without_keys l (below e.0 ks) ++ one_of (has e.0 ks) e (without_keys r (above e.0 ks))
  without_at low l ks s =
      without_append l (e ∷ r) ks
      ∙ ap (λ v. v ++ without_keys (e ∷ r) ks) (without_below low l ks s)
      ∙ ap (λ v. without_keys l (below e.0 ks) ++ one_of (has e.0 ks) e v) (without_above e.0 (e.0 + 1) r ks (omega arith) (back_ascends low l s))
