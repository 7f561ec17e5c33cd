-- Lists of entries in order, taken apart and put together.
use Rattle.std.proofs.Common.{◌≡◌, ℕ, ◌+◌, ◌<◌, ◌≤◌, ◌≢◌, Some, None, List, [], ◌∷◌, ◌++◌, length, refl, arith}
use Rattle.std.proofs.lemmas.Bool.{ne_eqb, eq-eqb}
use Rattle.ascending_lists.specs.Maps.{Rises, lookup}

module _ {V : Type 0} where
  -- the least bound may be lower
  pub rises_from : (a b h : ℕ) (es : List (ℕ × V)) → a ≤ b → Rises b h es → Rises a h es
  rises_from a b h [] le s = omega arith
  rises_from a b h (e ∷ es) le s = (omega (arith, s.0), s.1)

  -- the greatest bound may be higher
  pub rises_to : (a b h : ℕ) (es : List (ℕ × V)) → Rises a b es → b ≤ h → Rises a h es
  rises_to a b h [] s le = omega arith
  rises_to a b h (e ∷ es) s le = (s.0, rises_to (e.0 + 1) b h es s.1 le)

  -- there is room for the entries between the bounds
  pub rises_room : (a h : ℕ) (es : List (ℕ × V)) → Rises a h es → a + length es ≤ h
  rises_room a h [] s = omega arith
  rises_room a h (e ∷ es) s = omega (arith, rises_room (e.0 + 1) h es s.1, s.0)

  -- the entries before one are below it
  pub rises_left : (a h : ℕ) (l : List (ℕ × V)) (k : ℕ) (v : V) (r : List (ℕ × V)) → Rises a h (l ++ (k, v) ∷ r) → Rises a k l
  rises_left a h [] k v r s = s.0
  rises_left a h (e ∷ l) k v r s = (s.0, rises_left (e.0 + 1) h l k v r s.1)

  -- those after one are above it
  pub rises_right : (a h : ℕ) (l : List (ℕ × V)) (k : ℕ) (v : V) (r : List (ℕ × V)) → Rises a h (l ++ (k, v) ∷ r) → Rises (k + 1) h r
  rises_right a h [] k v r s = s.1
  rises_right a h (e ∷ l) k v r s = rises_right (e.0 + 1) h l k v r s.1

  -- an entry between what is below and what is above
  pub rises_joined : (a h : ℕ) (l : List (ℕ × V)) (k : ℕ) (v : V) (r : List (ℕ × V)) → Rises a k l → Rises (k + 1) h r → Rises a h (l ++ (k, v) ∷ r)
  rises_joined a h [] k v r s t = (s, t)
  rises_joined a h (e ∷ l) k v r s t = (s.0, rises_joined (e.0 + 1) h l k v r s.1 t)

  -- what is below before what is above
  pub rises_append : (a b h : ℕ) (l r : List (ℕ × V)) → Rises a b l → Rises b h r → Rises a h (l ++ r)
  rises_append a b h [] r s t = rises_from a b h r s t
  rises_append a b h (e ∷ l) r s t = (s.0, rises_append (e.0 + 1) b h l r s.1 t)

  -- the front of a list in order
  pub rises_front : (a h : ℕ) (l r : List (ℕ × V)) → Rises a h (l ++ r) → Rises a h l
  rises_front a h [] r s = omega (arith, rises_room a h r s)
  rises_front a h (e ∷ l) r s = (s.0, rises_front (e.0 + 1) h l r s.1)

  -- its back
  pub rises_back : (a h : ℕ) (l r : List (ℕ × V)) → Rises a h (l ++ r) → Rises a h r
  rises_back a h [] r s = s
  rises_back a h (e ∷ l) r s = rises_from a (e.0 + 1) h r (omega (arith, s.0)) (rises_back (e.0 + 1) h l r s.1)

  -- there is no value below all keys
  pub lookup_below : (a h : ℕ) (es : List (ℕ × V)) (k : ℕ) → Rises a h es → k < a → lookup k es ≡ None
  lookup_below a h [] k s lt = refl
  lookup_below a h (e ∷ es) k s lt =
      let other : e.0 ≢ k = omega (arith, s.0) in
      rw (ne_eqb e.0 k other) (lookup_below (e.0 + 1) h es k s.1 (omega (arith, s.0)))

  -- the value at a key below an entry stands before it
  pub lookup_left : (a h : ℕ) (l : List (ℕ × V)) (k : ℕ) (v : V) (r : List (ℕ × V)) (j : ℕ) → Rises a h (l ++ (k, v) ∷ r) → j < k → lookup j (l ++ (k, v) ∷ r) ≡ lookup j l
  lookup_left a h [] k v r j s lt =
      let other : k ≢ j = omega arith in
      rw (ne_eqb k j other) (lookup_below (k + 1) h r j s.1 (omega arith))
  lookup_left a h (e ∷ l) k v r j s lt = rw (lookup_left (e.0 + 1) h l k v r j s.1 lt)

  -- the value at the key of an entry
  pub lookup_here : (a h : ℕ) (l : List (ℕ × V)) (k : ℕ) (v : V) (r : List (ℕ × V)) → Rises a h (l ++ (k, v) ∷ r) → lookup k (l ++ (k, v) ∷ r) ≡ Some v
  lookup_here a h [] k v r s = rw (eq-eqb k k refl)
  lookup_here a h (e ∷ l) k v r s =
      let other : e.0 ≢ k = omega (arith, rises_room (e.0 + 1) k l (rises_left (e.0 + 1) h l k v r s.1)) in
      rw (ne_eqb e.0 k other) (lookup_here (e.0 + 1) h l k v r s.1)

  -- the value at a key above an entry stands after it
  pub lookup_right : (a h : ℕ) (l : List (ℕ × V)) (k : ℕ) (v : V) (r : List (ℕ × V)) (j : ℕ) → Rises a h (l ++ (k, v) ∷ r) → k < j → lookup j (l ++ (k, v) ∷ r) ≡ lookup j r
  lookup_right a h [] k v r j s lt =
      let other : k ≢ j = omega arith in
      rw (ne_eqb k j other)
  lookup_right a h (e ∷ l) k v r j s lt =
      let other : e.0 ≢ j = omega (arith, rises_room (e.0 + 1) k l (rises_left (e.0 + 1) h l k v r s.1)) in
      rw (ne_eqb e.0 j other) (lookup_right (e.0 + 1) h l k v r j s.1 lt)

  -- the entries are within both pairs of bounds
  pub rises_between : (a h b k : ℕ) (es : List (ℕ × V)) → Rises a h es → Rises b k es → a ≤ k → Rises a k es
  rises_between a h b k [] s t le = le
  rises_between a h b k (e ∷ es) s t le = (s.0, t.1)
