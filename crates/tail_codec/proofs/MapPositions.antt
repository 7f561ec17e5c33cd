-- Entries with ascending keys, cut at the position of a key.
use Rattle.std.proofs.Common.{◌≡◌, ℕ, suc, ◌+◌, ◌<◌, ◌≤◌, true, false, inl, inr, Some, None, List, [], ◌∷◌, length, take, drop, get_or, refl, sym, ◌∙◌, ap, arith}
use Rattle.std.specs.Map.{keys_of}
use Rattle.std.proofs.lemmas.Bool.{true≢false, false≢true, cases_lt, cases_order, lt-ltb, le-ltb, eq-eqb, ne_eqb}
use Rattle.ascending_lists.specs.Ascending.{AscendsFrom}
use Rattle.ascending_lists.specs.Sets.{has, below}
use Rattle.ascending_lists.specs.Maps.{lookup}
use Rattle.ascending_lists.specs.MapOperations.{entries_below, entries_above}
use Rattle.ascending_lists.proofs.Cutting.{below_none, has_none}

one_more : (n : ℕ) → suc n + 1 ≡ suc (n + 1)
one_more n = omega arith

module _ {V : Type 0} where
  pub entries_below_none : (k low : ℕ) (es : List (ℕ × V)) → k ≤ low → AscendsFrom low (keys_of es) → entries_below k es ≡ []
  entries_below_none k low [] le s = refl
  entries_below_none k low (e ∷ es) le s = rw (le-ltb e.0 k (omega (arith, s.0))) (entries_below_none k (e.0 + 1) es (omega (arith, s.0)) s.2)

  pub entries_above_all : (k low : ℕ) (es : List (ℕ × V)) → k < low → AscendsFrom low (keys_of es) → entries_above k es ≡ es
  entries_above_all k low [] lt s = refl
  entries_above_all k low (e ∷ es) lt s = rw (lt-ltb k e.0 (omega (arith, s.0))) (ap (λ v. e ∷ v) (entries_above_all k (e.0 + 1) es (omega (arith, s.0)) s.2))

  pub no_value : (k low : ℕ) (es : List (ℕ × V)) → k < low → AscendsFrom low (keys_of es) → lookup k es ≡ None
  no_value k low [] lt s = refl
  no_value k low (e ∷ es) lt s = rw (ne_eqb e.0 k (omega (arith, s.0))) (no_value k (e.0 + 1) es (omega (arith, s.0)) s.2)

  -- the key k stands at a position
  pub record IsAt (k position : ℕ) (es : List (ℕ × V)) (none : V) : Type 0 where
    pub within : position < length es
    pub front : take position es ≡ entries_below k es
    pub there : Some (get_or es position (0, none)).1 ≡ lookup k es
    pub back : drop (position + 1) es ≡ entries_above k es

  -- the key k would stand at a position
  pub record IsMissing (k position : ℕ) (es : List (ℕ × V)) : Type 0 where
    pub within : position ≤ length es
    pub front : take position es ≡ entries_below k es
    pub there : None ≡ lookup k es
    pub back : drop position es ≡ entries_above k es

  pub position_there : (k low : ℕ) (es : List (ℕ × V)) (none : V) → AscendsFrom low (keys_of es) → has k (keys_of es) ≡ true → IsAt k (length (below k (keys_of es))) es none
  position_there k low [] none s h = absurd (false≢true h)
  position_there k low (e ∷ es) none s h =
      elim (cases_order e.0 k) [
        | inl is ↦
            let nothing : below k (keys_of es) ≡ [] = below_none k (e.0 + 1) (keys_of es) (omega (arith, is)) s.2 in
            let others : entries_below k es ≡ [] = entries_below_none k (e.0 + 1) es (omega (arith, is)) s.2 in
            let later : entries_above k es ≡ es = entries_above_all k (e.0 + 1) es (omega (arith, is)) s.2 in
            rw (le-ltb e.0 k (omega (arith, is)), nothing) (record {
              within = omega arith;
              front = rw (le-ltb e.0 k (omega (arith, is))) (sym others);
              there = rw (eq-eqb e.0 k is) refl;
              back = rw (le-ltb k e.0 (omega (arith, is))) (sym later);
            })
        | inr other ↦ elim other [
          | inl lt ↦
              let rest : IsAt k (length (below k (keys_of es))) es none = position_there k (e.0 + 1) es none s.2 (rw (ne_eqb e.0 k (omega arith)) at h) in
              rw (lt-ltb e.0 k lt) (record {
                within = omega (arith, rest.within);
                front = rw (lt-ltb e.0 k lt) (ap (λ v. e ∷ v) rest.front);
                there = rw (ne_eqb e.0 k (omega arith)) rest.there;
                back = rw (le-ltb k e.0 (omega arith)) (ap (λ (n : ℕ). drop n (e ∷ es)) (one_more (length (below k (keys_of es)))) ∙ rest.back);
              })
          | inr gt ↦
              let none_here : has k (keys_of (e ∷ es)) ≡ false = has_none k e.0 (keys_of (e ∷ es)) gt (omega arith, s.1, s.2) in
              absurd (true≢false (sym h ∙ none_here))
        ]
      ]

  pub position_missing : (k low : ℕ) (es : List (ℕ × V)) → AscendsFrom low (keys_of es) → has k (keys_of es) ≡ false → IsMissing k (length (below k (keys_of es))) es
  position_missing k low [] s h = record { within = omega arith; front = refl; there = refl; back = refl }
  position_missing k low (e ∷ es) s h =
      elim (cases_order e.0 k) [
        | inl is ↦ absurd (true≢false (rw (eq-eqb e.0 k is) at h))
        | inr other ↦ elim other [
          | inl lt ↦
              let rest : IsMissing k (length (below k (keys_of es))) es = position_missing k (e.0 + 1) es s.2 (rw (ne_eqb e.0 k (omega arith)) at h) in
              rw (lt-ltb e.0 k lt) (record {
                within = omega (arith, rest.within);
                front = rw (lt-ltb e.0 k lt) (ap (λ v. e ∷ v) rest.front);
                there = rw (ne_eqb e.0 k (omega arith)) rest.there;
                back = rw (le-ltb k e.0 (omega arith)) rest.back;
              })
          | inr gt ↦
              let nothing : below k (keys_of es) ≡ [] = below_none k (e.0 + 1) (keys_of es) (omega arith) s.2 in
              let others : entries_below k es ≡ [] = entries_below_none k (e.0 + 1) es (omega arith) s.2 in
              let later : entries_above k es ≡ es = entries_above_all k (e.0 + 1) es (omega arith) s.2 in
              let none : lookup k es ≡ None = no_value k (e.0 + 1) es (omega arith) s.2 in
              rw (le-ltb e.0 k (omega arith), nothing) (record {
                within = omega arith;
                front = rw (le-ltb e.0 k (omega arith)) (sym others);
                there = rw (ne_eqb e.0 k (omega arith)) (sym none);
                back = rw (lt-ltb k e.0 gt) (ap (λ v. e ∷ v) (sym later));
              })
        ]
      ]

  -- a side that is as long as all entries is all of them
  below_fewer : (k : ℕ) (es : List (ℕ × V)) → length (entries_below k es) ≤ length es
  below_fewer k [] = omega arith
  below_fewer k (e ∷ es) =
      elim (cases_lt e.0 k) [
        | inl lt ↦ rw (lt-ltb e.0 k lt) (omega (arith, below_fewer k es))
        | inr ge ↦ rw (le-ltb e.0 k ge) (omega (arith, below_fewer k es))
      ]

  above_fewer : (k : ℕ) (es : List (ℕ × V)) → length (entries_above k es) ≤ length es
  above_fewer k [] = omega arith
  above_fewer k (e ∷ es) =
      elim (cases_lt k e.0) [
        | inl lt ↦ rw (lt-ltb k e.0 lt) (omega (arith, above_fewer k es))
        | inr ge ↦ rw (le-ltb k e.0 ge) (omega (arith, above_fewer k es))
      ]

  pub entries_below_whole : (k : ℕ) (es : List (ℕ × V)) → length (entries_below k es) ≡ length es → entries_below k es ≡ es
  entries_below_whole k [] same = refl
  entries_below_whole k (e ∷ es) same =
      elim (cases_lt e.0 k) [
        | inl lt ↦
            let long : length (e ∷ entries_below k es) ≡ length (e ∷ es) = rw (lt-ltb e.0 k lt) at same in
            rw (lt-ltb e.0 k lt) (ap (λ v. e ∷ v) (entries_below_whole k es (omega (arith, long))))
        | inr ge ↦
            let long : length (entries_below k es) ≡ length (e ∷ es) = rw (le-ltb e.0 k ge) at same in
            absurd (omega (arith, long, below_fewer k es))
      ]

  pub entries_above_whole : (k : ℕ) (es : List (ℕ × V)) → length (entries_above k es) ≡ length es → entries_above k es ≡ es
  entries_above_whole k [] same = refl
  entries_above_whole k (e ∷ es) same =
      elim (cases_lt k e.0) [
        | inl lt ↦
            let long : length (e ∷ entries_above k es) ≡ length (e ∷ es) = rw (lt-ltb k e.0 lt) at same in
            rw (lt-ltb k e.0 lt) (ap (λ v. e ∷ v) (entries_above_whole k es (omega (arith, long))))
        | inr ge ↦
            let long : length (entries_above k es) ≡ length (e ∷ es) = rw (le-ltb k e.0 ge) at same in
            absurd (omega (arith, long, above_fewer k es))
      ]
