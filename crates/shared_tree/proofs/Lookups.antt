-- What lists of entries give at keys.
use Rattle.std.proofs.Common.{◌≡◌, ◌≢◌, ℕ, ◌+◌, ◌^◌, Option, Some, None, List, [], ◌∷◌, ◌++◌, refl, arith}
use Rattle.std.proofs.lemmas.Bool.{ne_eqb, eq-eqb}
use Rattle.ascending_lists.specs.Maps.{Rises, lookup}
use Rattle.shared_tree.specs.Changes.{entry_at_key, IsSplit}
use Rattle.ascending_lists.proofs.MapOrder.{rises_room, lookup_below}

module _ {V : Type 0} where
  -- the value at the key of a split
  lookup_at : (h k : ℕ) (f : List (ℕ × V)) (m : Option V) (b : List (ℕ × V)) (a : ℕ) → Rises a k f → Rises (k + 1) h b → lookup k (f ++ (entry_at_key k m ++ b)) ≡ m
  lookup_at h k [] None b a s t = lookup_below (k + 1) h b k t (omega arith)
  lookup_at h k [] (Some v) b a s t = rw (eq-eqb k k refl)
  lookup_at h k (e ∷ f) m b a s t =
      let other : e.0 ≢ k = omega (arith, rises_room (e.0 + 1) k f s.1) in
      rw (ne_eqb e.0 k other) (lookup_at h k f m b (e.0 + 1) s.1 t)

  pub value_of_split : (k : ℕ) (es f : List (ℕ × V)) (m : Option V) (b : List (ℕ × V)) → IsSplit k es f m b → lookup k es ≡ m
  value_of_split k es f m b s = rw s.whole (lookup_at (2 ^ 32) k f m b 0 s.below s.above)
