-- Lists of entries in order that are cut at a key.
use Rattle.std.proofs.Common.{◌≡◌, ◌≢◌, ℕ, ◌+◌, ◌^◌, ◌<◌, ◌≤◌, Option, Some, None, List, [], ◌∷◌, ◌++◌, length, get_or, take, drop, refl, sym, ap, ◌∙◌, arith, length-append}
use Rattle.std.proofs.lemmas.Bool.{ne_eqb}
use Rattle.std.proofs.lemmas.List.{take_more, drop_more, take-append-drop}
use Rattle.ascending_lists.specs.Maps.{Rises, IsMap, lookup}
use Rattle.shared_tree.specs.Changes.{entry_at_key, IsSplit}
use Rattle.ascending_lists.proofs.MapOrder.{rises_room, rises_left, rises_right, rises_joined, lookup_below}

module _ {V : Type 0} where
  -- at a key below that of a split
  lookup_front : (h k j a : ℕ) (f : List (ℕ × V)) (m : Option V) (b : List (ℕ × V)) → Rises a k f → Rises (k + 1) h b → j < k → lookup j (f ++ (entry_at_key k m ++ b)) ≡ lookup j f
  lookup_front h k j a [] None b s t lt = lookup_below (k + 1) h b j t (omega arith)
  lookup_front h k j a [] (Some v) b s t lt =
      let other : k ≢ j = omega arith in
      rw (ne_eqb k j other) (lookup_below (k + 1) h b j t (omega arith))
  lookup_front h k j a (e ∷ f) m b s t lt = rw (lookup_front h k j (e.0 + 1) f m b s.1 t lt)

  -- at a key above that of a split
  lookup_back : (h k j a : ℕ) (f : List (ℕ × V)) (m : Option V) (b : List (ℕ × V)) → Rises a k f → Rises (k + 1) h b → k < j → lookup j (f ++ (entry_at_key k m ++ b)) ≡ lookup j b
  lookup_back h k j a [] None b s t lt = refl
  lookup_back h k j a [] (Some v) b s t lt =
      let other : k ≢ j = omega arith in
      rw (ne_eqb k j other)
  lookup_back h k j a (e ∷ f) m b s t lt =
      let other : e.0 ≢ j = omega (arith, rises_room (e.0 + 1) k f s.1) in
      rw (ne_eqb e.0 j other) (lookup_back h k j (e.0 + 1) f m b s.1 t lt)

  -- the value at a key below a split stands in front
  pub value_below : (k j : ℕ) (es f : List (ℕ × V)) (m : Option V) (b : List (ℕ × V)) → IsSplit k es f m b → j < k → lookup j es ≡ lookup j f
  value_below k j es f m b s lt = rw s.whole (lookup_front (2 ^ 32) k j 0 f m b s.below s.above lt)

  -- the value at a key above a split stands after
  pub value_above : (k j : ℕ) (es f : List (ℕ × V)) (m : Option V) (b : List (ℕ × V)) → IsSplit k es f m b → k < j → lookup j es ≡ lookup j b
  value_above k j es f m b s lt = rw s.whole (lookup_back (2 ^ 32) k j 0 f m b s.below s.above lt)

  -- where no entry is left after those below
  pub cut_past : (k : ℕ) (es f b : List (ℕ × V)) → es ≡ f ++ b → Rises 0 k f → k < 2 ^ 32 → length b ≡ 0 → IsSplit k es f None b
  cut_past k es f [] w s lt e = record { whole = w; below = s; above = omega arith }
  cut_past k es f (x ∷ b) w s lt e = absurd (omega arith)

  -- where the first entry left is above the key
  pub cut_missing : (k : ℕ) (es f b : List (ℕ × V)) (x : ℕ × V) (r : List (ℕ × V)) → es ≡ f ++ b → Rises 0 k f → Rises k (2 ^ 32) b → b ≡ x ∷ r → x.0 ≢ k → IsSplit k es f None b
  cut_missing k es f b x r w s t e ne =
      let rest = rw e at t in
      record { whole = w; below = s; above = rw e (omega (arith, rest.0), rest.1) }

  -- where it is at the key
  pub cut_found : (k : ℕ) (es f b : List (ℕ × V)) (x : ℕ × V) (r : List (ℕ × V)) → es ≡ f ++ b → Rises 0 k f → Rises k (2 ^ 32) b → b ≡ x ∷ r → x.0 ≡ k → IsSplit k es f (Some x.1) r
  cut_found k es f b x r w s t e is =
      let rest = rw e at t in
      record { whole = rw (← is) (w ∙ ap (λ b. f ++ b) e); below = s; above = rw (← is) rest.1 }

module _ {V : Type 0} (es : List (ℕ × V)) (i : ℕ) (x : ℕ × V) (map : IsMap es) (lt : i < length es) (is : x ≡ get_or es i x) where
  from_here : drop i es ≡ x ∷ drop (i + 1) es
  from_here = drop_more es i x lt ∙ ap (λ y. y ∷ drop (i + 1) es) (sym is)

  whole : Rises 0 (2 ^ 32) (take i es ++ (x ∷ drop (i + 1) es))
  whole = let rest = take-append-drop i es in rw (← from_here, rest) map

  -- an entry is above those before it
  pub rises_before : (k : ℕ) → x.0 < k → Rises 0 k (take (i + 1) es)
  rises_before k le =
      let more : take (i + 1) es ≡ take i es ++ x ∷ [] = take_more es i x lt ∙ ap (λ y. take i es ++ y ∷ []) (sym is) in
      let last : x.0 + 1 ≤ k = omega arith in
      rw more (rises_joined 0 k (take i es) x.0 x.1 [] (rises_left 0 (2 ^ 32) (take i es) x.0 x.1 (drop (i + 1) es) whole) last)

  -- and below those after it
  pub rises_after : (k : ℕ) → k ≤ x.0 → Rises k (2 ^ 32) (drop i es)
  rises_after k le = rw from_here (le, rises_right 0 (2 ^ 32) (take i es) x.0 x.1 (drop (i + 1) es) whole)

module _ {V : Type 0} where
  -- entries cut at one of them, with n before it
  pub cut_at_index : (es f b : List (ℕ × V)) (x : ℕ × V) (r : List (ℕ × V)) → IsMap es → es ≡ f ++ b → b ≡ x ∷ r → IsSplit x.0 es f (Some x.1) r
  cut_at_index es f b x r map w e =
      let is : es ≡ f ++ x ∷ r = w ∙ ap (λ b. f ++ b) e in
      let m = rw is at map in
      record { whole = is; below = rises_left 0 (2 ^ 32) f x.0 x.1 r m; above = rises_right 0 (2 ^ 32) f x.0 x.1 r m }

  -- no entry is around a key
  pub split_empty : (k : ℕ) (es : List (ℕ × V)) → k < 2 ^ 32 → es ≡ [] → IsSplit k es es None es
  split_empty k es lt e = rw e (record { whole = refl; below = omega arith; above = omega arith })

  -- a map cut at an entry
  pub split_at_entry : (es l : List (ℕ × V)) (k : ℕ) (v : V) (r : List (ℕ × V)) → IsMap es → es ≡ l ++ (k, v) ∷ r → IsSplit k es l (Some v) r
  split_at_entry es l k v r map w =
      let m = rw w at map in
      record { whole = w; below = rises_left 0 (2 ^ 32) l k v r m; above = rises_right 0 (2 ^ 32) l k v r m }

  -- how many entries a split has
  pub split_length : (k : ℕ) (es f : List (ℕ × V)) (m : Option V) (b : List (ℕ × V)) → IsSplit k es f m b → length es ≡ length f + (length (entry_at_key k m) + length b)
  split_length k es f m b s = rw s.whole (length-append f (entry_at_key k m ++ b) ∙ ap (λ n. length f + n) (length-append (entry_at_key k m) b))

-- where one of two maps that are cut at a key has an entry there, both halves are smaller
pub halves_smaller : {V C : Type 0} (k : ℕ) (es l : List (ℕ × V)) (o : Option V) (r : List (ℕ × V)) (cs b : List (ℕ × C)) (c : Option C) (a : List (ℕ × C)) → IsSplit k es l o r → IsSplit k cs b c a
    → 0 < length (entry_at_key k o) + length (entry_at_key k c) → (length l + length b < length es + length cs) × (length r + length a < length es + length cs)
halves_smaller k es l o r cs b c a s t some =
    let x = split_length k es l o r s in
    let y = split_length k cs b c a t in
    (omega arith, omega arith)
