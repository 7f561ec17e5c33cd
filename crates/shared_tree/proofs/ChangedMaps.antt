-- Maps changed below a key, at it and above it.
use Rattle.std.proofs.Common.{◌≡◌, ℕ, ◌+◌, ◌%◌, ◌^◌, ◌≤◌, inl, inr, Option, Some, None, List, [], ◌∷◌, ◌++◌, refl, arith}
use Rattle.std.proofs.lemmas.Bool.{cases_order}
use Rattle.ascending_lists.specs.Maps.{Rises, IsMap, lookup}
use Rattle.shared_tree.specs.Changes.{entry_at_key, IsSplit}
use Rattle.shared_tree.specs.ChangedMaps.{MadeAt, IsChangedMap, total_weight, GrewBy}
use Rattle.shared_tree.specs.inside.ChangedMaps.{weight_at}
use Rattle.ascending_lists.proofs.MapOrder.{rises_room, rises_to, rises_from, rises_left, rises_right, rises_joined, rises_front, rises_back, rises_between}
use Rattle.shared_tree.proofs.Splits.{rises_split}
use Rattle.shared_tree.proofs.Lookups.{value_of_split}
use Rattle.shared_tree.proofs.CutMaps.{value_below, value_above}

module _ {V : Type 0} where
  -- both sides of a split are maps
  pub below_map : (k : ℕ) (es f : List (ℕ × V)) (m : Option V) (b : List (ℕ × V)) → IsSplit k es f m b → IsMap f
  below_map k es f m b s = rises_to 0 k (2 ^ 32) f s.below (omega (arith, rises_room (k + 1) (2 ^ 32) b s.above))

  pub above_map : (k : ℕ) (es f : List (ℕ × V)) (m : Option V) (b : List (ℕ × V)) → IsSplit k es f m b → IsMap b
  above_map k es f m b s = rises_from 0 (k + 1) (2 ^ 32) b (omega arith) s.above

  -- what is below a key, read from a bound on, and what is above it
  rises_around_from : (low high k top : ℕ) (f b : List (ℕ × V)) → Rises low high f → Rises low k f → Rises low high b → Rises (k + 1) top b → Rises low high (f ++ b)
  rises_around_from low high k top [] b s p t q = t
  rises_around_from low high k top (e ∷ f) b s p t q =
      let up : e.0 + 1 ≤ k + 1 = omega (arith, rises_room (e.0 + 1) k f p.1) in
      let fits : e.0 + 1 ≤ high = omega (arith, rises_room (e.0 + 1) high f s.1) in
      let above = rises_between (e.0 + 1) top low high b (rises_from (e.0 + 1) (k + 1) top b up q) t fits in
      (s.0, rises_around_from (e.0 + 1) high k top f b s.1 p.1 above q)

  -- the same within bounds of all
  rises_around : (low high k top : ℕ) (f b : List (ℕ × V)) → Rises low high f → Rises 0 k f → Rises low high b → Rises (k + 1) top b → Rises low high (f ++ b)
  rises_around low high k top [] b s p t q = t
  rises_around low high k top (e ∷ f) b s p t q =
      let up : e.0 + 1 ≤ k + 1 = omega (arith, rises_room (e.0 + 1) k f p.1) in
      let fits : e.0 + 1 ≤ high = omega (arith, rises_room (e.0 + 1) high f s.1) in
      let above = rises_between (e.0 + 1) top low high b (rises_from (e.0 + 1) (k + 1) top b up q) t fits in
      (s.0, rises_around_from (e.0 + 1) high k top f b s.1 p.1 above q)

  -- a key that has an entry is within the bounds
  key_within : (low high k : ℕ) (f : List (ℕ × V)) (v : V) (b : List (ℕ × V)) → Rises low high (f ++ (k, v) ∷ b) → (low ≤ k) × (k + 1 ≤ high)
  key_within low high k f v b s =
      (omega (arith, rises_room low k f (rises_left low high f k v b s)), omega (arith, rises_room (k + 1) high b (rises_right low high f k v b s)))

module _ {V C : Type 0} (makes : C → Option V → Option V → Type 0) (k : ℕ) (es l r : List (ℕ × V)) (cs b a : List (ℕ × C)) where
  -- a key with an entry after a change had one, or a change
  was_within : (o : Option V) (c : Option C) (v : V) (low high : ℕ) → IsSplit k es l o r → IsSplit k cs b c a → MadeAt makes c o (Some v) → Rises low high es → Rises low high cs → (low ≤ k)
      × (k + 1 ≤ high)
  was_within (Some w) c v low high s t made p q = key_within low high k l w r (rw s.whole at p)
  was_within None (Some c) v low high s t made p q = key_within low high k b c a (rw t.whole at q)
  was_within None None v low high s t made p q = absurd (cc)

  module _ (l' r' : List (ℕ × V)) (lower : IsChangedMap makes b l l') (upper : IsChangedMap makes a r r') where
    -- what is changed is split at the key
    pub split_changed : (o : Option V) (c : Option C) (m : Option V) → IsSplit k es l o r → IsSplit k cs b c a → IsSplit k (l' ++ (entry_at_key k m ++ r')) l' m r'
    split_changed o c m s t = record {
      whole = refl;
      below = lower.within 0 k s.below t.below;
      above = upper.within (k + 1) (2 ^ 32) s.above t.above;
    }

    within_bounds : (o : Option V) (c : Option C) (m : Option V) (low high : ℕ) → IsSplit k es l o r → IsSplit k cs b c a → MadeAt makes c o m → Rises low high es → Rises low high cs
        → Rises low high (l' ++ (entry_at_key k m ++ r'))
    within_bounds o c None low high s t made p q =
        let is = split_changed o c None s t in
        let ls = lower.within low high (rises_front low high l (entry_at_key k o ++ r) (rw s.whole at p)) (rises_front low high b (entry_at_key k c ++ a) (rw t.whole at q)) in
        let rs = upper.within low high (rises_back low high (entry_at_key k o) r (rises_back low high l (entry_at_key k o ++ r) (rw s.whole at p)))
        (rises_back low high (entry_at_key k c) a (rises_back low high b (entry_at_key k c ++ a) (rw t.whole at q))) in
        rises_around low high k (2 ^ 32) l' r' ls is.below rs is.above
    within_bounds o c (Some v) low high s t made p q =
        let is = split_changed o c (Some v) s t in
        let inside = was_within o c v low high s t made p q in
        let ls = lower.within low high (rises_front low high l (entry_at_key k o ++ r) (rw s.whole at p)) (rises_front low high b (entry_at_key k c ++ a) (rw t.whole at q)) in
        let rs = upper.within low high (rises_back low high (entry_at_key k o) r (rises_back low high l (entry_at_key k o ++ r) (rw s.whole at p)))
        (rises_back low high (entry_at_key k c) a (rises_back low high b (entry_at_key k c ++ a) (rw t.whole at q))) in
        rises_joined low high l' k v r' (rises_between low high 0 k l' ls is.below inside.0) (rises_between (k + 1) (2 ^ 32) low high r' is.above rs inside.1)

    values_changed : (o : Option V) (c : Option C) (m : Option V) → IsSplit k es l o r → IsSplit k cs b c a → MadeAt makes c o m → (j : ℕ)
        → MadeAt makes (lookup j cs) (lookup j es) (lookup j (l' ++ (entry_at_key k m ++ r')))
    values_changed o c m s t made j =
        let new = l' ++ (entry_at_key k m ++ r') in
        let is = split_changed o c m s t in
        elim (cases_order j k) [
          | inl e ↦ rw e (rw (value_of_split k cs b c a t, value_of_split k es l o r s, value_of_split k new l' m r' is) made)
          | inr side ↦ elim side [
            | inl lt ↦ rw (value_below k j cs b c a t lt, value_below k j es l o r s lt, value_below k j new l' m r' is lt) (lower.values j)
            | inr gt ↦ rw (value_above k j cs b c a t gt, value_above k j es l o r s gt, value_above k j new l' m r' is gt) (upper.values j)
          ]
        ]

    -- a map changed on both sides of a key and at it is changed
    pub changed_around : (o : Option V) (c : Option C) (m : Option V) → IsSplit k es l o r → IsSplit k cs b c a → MadeAt makes c o m → IsChangedMap makes cs es (l' ++ (entry_at_key k m ++ r'))
    changed_around o c m s t made = record { values = values_changed o c m s t made; within = λ low high. within_bounds o c m low high s t made }

    -- and is a map
    pub map_around : (o : Option V) (c : Option C) (m : Option V) → IsSplit k es l o r → IsSplit k cs b c a → IsMap (l' ++ (entry_at_key k m ++ r'))
    map_around o c m s t = let is = split_changed o c m s t in rises_split (2 ^ 32) k l' m r' is.below is.above

-- a map without changes is as it was
pub unchanged : {V C : Type 0} (makes : C → Option V → Option V → Type 0) (es : List (ℕ × V)) → IsChangedMap makes [] es es
unchanged makes es = record { values = λ k. refl; within = λ low high p q. p }

module _ {V : Type 0} (weight : V → ℕ) where
  weight_append : (f b : List (ℕ × V)) → total_weight weight (f ++ b) ≡ total_weight weight f + total_weight weight b
  weight_append [] b = omega arith
  weight_append (e ∷ f) b = omega (arith, weight_append f b)

  -- what the entries around a key weigh
  pub weight_around : (k : ℕ) (f : List (ℕ × V)) (m : Option V) (b : List (ℕ × V))
      → total_weight weight (f ++ (entry_at_key k m ++ b)) ≡ total_weight weight f + (weight_at weight m + total_weight weight b)
  weight_around k f None b = omega (arith, weight_append f b)
  weight_around k f (Some v) b = weight_append f ((k, v) ∷ b)

-- growths that are added up
grew_sum : (a b x a' b' x' g h i s t : ℕ) → GrewBy a g a' → GrewBy b h b' → GrewBy x i x' → s ≡ (g + h) % 2 ^ 64 → t ≡ (i + s) % 2 ^ 64 → GrewBy (a + (x + b)) t (a' + (x' + b'))
grew_sum a b x a' b' x' g h i s t p q r e f = omega arith

module _ {V : Type 0} (weight : V → ℕ) (k : ℕ) (es l : List (ℕ × V)) (o : Option V) (r new l' : List (ℕ × V)) (m : Option V) (r' : List (ℕ × V)) where
  -- the growth of a map is that below a key, at it and above it
  pub grew_around : es ≡ l ++ (entry_at_key k o ++ r) → new ≡ l' ++ (entry_at_key k m ++ r') → (g h i s t : ℕ) → GrewBy (total_weight weight l) g (total_weight weight l')
      → GrewBy (total_weight weight r) h (total_weight weight r') → GrewBy (weight_at weight o) i (weight_at weight m) → s ≡ (g + h) % 2 ^ 64 → t ≡ (i + s) % 2 ^ 64
      → GrewBy (total_weight weight es) t (total_weight weight new)
  grew_around is new_is g h i s t p q u e f =
      rw (is, new_is, weight_around weight k l o r, weight_around weight k l' m r')
      (grew_sum (total_weight weight l) (total_weight weight r) (weight_at weight o) (total_weight weight l') (total_weight weight r') (weight_at weight m) g h i s t p q u e f)
