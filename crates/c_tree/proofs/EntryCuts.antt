-- Entries in order, cut at one of them, or at a key before it or after it.
use Rattle.std.proofs.Common.{◌≡◌, ℕ, ◌+◌, ◌<◌, ◌≤◌, inl, inr, List, [], ◌∷◌, ◌++◌, refl, ap, arith}
use Rattle.std.specs.Map.{keys_of}
use Rattle.std.proofs.lemmas.Bool.{cases_lt, lt-ltb, le-ltb}
use Rattle.ascending_lists.specs.Ascending.{AscendsFrom}
use Rattle.ascending_lists.specs.MapOperations.{entries_below, entries_above}
use Rattle.tail_codec.proofs.MapPositions.{entries_below_none, entries_above_all}

module _ {V : Type 0} (k : ℕ) (v : V) (r : List (ℕ × V)) where
  -- what stands before an entry is below it
  before_it : (low : ℕ) (l : List (ℕ × V)) → AscendsFrom low (keys_of (l ++ (k, v) ∷ r)) → low ≤ k
  before_it low [] s = s.0
  before_it low (e ∷ l) s = omega (arith, s.0, before_it (e.0 + 1) l s.2)

  pub below_it : (low : ℕ) (l : List (ℕ × V)) → AscendsFrom low (keys_of (l ++ (k, v) ∷ r)) → entries_below k (l ++ (k, v) ∷ r) ≡ l
  below_it low [] s = rw (le-ltb k k (omega arith)) (entries_below_none k (k + 1) r (omega arith) s.2)
  below_it low (e ∷ l) s =
      let lt : e.0 < k = omega (arith, before_it (e.0 + 1) l s.2) in
      rw (lt-ltb e.0 k lt) (ap (λ es. e ∷ es) (below_it (e.0 + 1) l s.2))

  pub above_it : (low : ℕ) (l : List (ℕ × V)) → AscendsFrom low (keys_of (l ++ (k, v) ∷ r)) → entries_above k (l ++ (k, v) ∷ r) ≡ r
  above_it low [] s = rw (le-ltb k k (omega arith)) (entries_above_all k (k + 1) r (omega arith) s.2)
  above_it low (e ∷ l) s =
      let lt : e.0 < k = omega (arith, before_it (e.0 + 1) l s.2) in
      rw (le-ltb k e.0 (omega arith)) (above_it (e.0 + 1) l s.2)

module _ {V : Type 0} (j k : ℕ) (v : V) (r : List (ℕ × V)) where
  pub below_before : (low : ℕ) (l : List (ℕ × V)) → AscendsFrom low (keys_of (l ++ (k, v) ∷ r)) → j ≤ k → entries_below j (l ++ (k, v) ∷ r) ≡ entries_below j l
  below_before low [] s le = rw (le-ltb k j le) (entries_below_none j (k + 1) r (omega arith) s.2)
  below_before low (e ∷ l) s le =
      elim (cases_lt e.0 j) [
        | inl lt ↦ rw (lt-ltb e.0 j lt) (ap (λ es. e ∷ es) (below_before (e.0 + 1) l s.2 le))
        | inr ge ↦ rw (le-ltb e.0 j ge) (below_before (e.0 + 1) l s.2 le)
      ]

  pub above_before : (low : ℕ) (l : List (ℕ × V)) → AscendsFrom low (keys_of (l ++ (k, v) ∷ r)) → j < k → entries_above j (l ++ (k, v) ∷ r) ≡ entries_above j l ++ (k, v) ∷ r
  above_before low [] s lt = rw (lt-ltb j k lt) (ap (λ es. (k, v) ∷ es) (entries_above_all j (k + 1) r (omega arith) s.2))
  above_before low (e ∷ l) s lt =
      elim (cases_lt j e.0) [
        | inl a ↦ rw (lt-ltb j e.0 a) (ap (λ es. e ∷ es) (above_before (e.0 + 1) l s.2 lt))
        | inr a ↦ rw (le-ltb j e.0 a) (above_before (e.0 + 1) l s.2 lt)
      ]

  pub below_after : (low : ℕ) (l : List (ℕ × V)) → AscendsFrom low (keys_of (l ++ (k, v) ∷ r)) → k < j → entries_below j (l ++ (k, v) ∷ r) ≡ l ++ (k, v) ∷ entries_below j r
  below_after low [] s lt = rw (lt-ltb k j lt) refl
  below_after low (e ∷ l) s lt =
      let small : e.0 < j = omega (arith, before_it k v r (e.0 + 1) l s.2) in
      rw (lt-ltb e.0 j small) (ap (λ es. e ∷ es) (below_after (e.0 + 1) l s.2 lt))

  pub above_after : (low : ℕ) (l : List (ℕ × V)) → AscendsFrom low (keys_of (l ++ (k, v) ∷ r)) → k ≤ j → entries_above j (l ++ (k, v) ∷ r) ≡ entries_above j r
  above_after low [] s le = rw (le-ltb j k le) refl
  above_after low (e ∷ l) s le =
      let small : e.0 ≤ j = omega (arith, before_it k v r (e.0 + 1) l s.2) in
      rw (le-ltb j e.0 small) (above_after (e.0 + 1) l s.2 le)
