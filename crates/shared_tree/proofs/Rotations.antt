-- The entries around a rotation stay in order.
use Rattle.std.proofs.Common.{◌≡◌, ℕ, ◌^◌, Option, Some, List, [], ◌∷◌, ◌++◌, sym, ap, ◌∙◌, subst, append_assoc}
use Rattle.shared_tree.specs.declared.nodes.Opened.{Opened}
use Rattle.shared_tree.specs.declared.joins.Last.{Last}
use Rattle.ascending_lists.specs.Maps.{IsMap}
use Rattle.shared_tree.specs.Balanced.{Balanced, IsFork}
use Rattle.shared_tree.specs.inside.Joins.{IsFront}
use Rattle.shared_tree.specs.inside.Opened.{IsOpened, IsPopped}
use Rattle.ascending_lists.proofs.MapOrder.{rises_front, rises_back}

-- the root that was found on opening
pub opened : {V : Type 0} (t : Balanced V) (o : Option (Opened V)) (x : Opened V) → o ≡ Some x → IsOpened t o → IsFork t x.left x.key x.slot.node.value.value x.right
opened t o x e h = subst (λ o. IsOpened t o) e h

-- the last entry that was found on popping
pub popped : {V : Type 0} (t : Balanced V) (o : Option (Last V)) (x : Last V) → o ≡ Some x → IsPopped t o → IsFront t x.front x.key x.slot.node.value.value
popped t o x e h = subst (λ o. IsPopped t o) e h

module _ {V : Type 0} where
  -- an entry after the right side of what stands before it
  pub map_right : (l x : List (ℕ × V)) (e : ℕ × V) (y : List (ℕ × V)) (f : ℕ × V) (z : List (ℕ × V)) → IsMap (l ++ f ∷ z) → l ≡ x ++ e ∷ y → IsMap (y ++ f ∷ z)
  map_right l x e y f z m p = rises_back 0 (2 ^ 32) (x ++ e ∷ []) (y ++ f ∷ z) (rw (append_assoc x (e ∷ []) (y ++ f ∷ z), ← append_assoc x (e ∷ y) (f ∷ z), ← p) m)

  -- with all of it on the right of the left side
  pub map_around_right : (l x : List (ℕ × V)) (e : ℕ × V) (y : List (ℕ × V)) (f : ℕ × V) (z t : List (ℕ × V)) → IsMap (l ++ f ∷ z) → l ≡ x ++ e ∷ y → t ≡ y ++ f ∷ z → IsMap (x ++ e ∷ t)
  map_around_right l x e y f z t m p q = rw (q, ← append_assoc x (e ∷ y) (f ∷ z), ← p) m

  -- an entry before the left side of what stands after it
  pub map_left : (l : List (ℕ × V)) (f : ℕ × V) (r x : List (ℕ × V)) (e : ℕ × V) (y : List (ℕ × V)) → IsMap (l ++ f ∷ r) → r ≡ x ++ e ∷ y → IsMap (l ++ f ∷ x)
  map_left l f r x e y m p = rises_front 0 (2 ^ 32) (l ++ f ∷ x) (e ∷ y) (rw (append_assoc l (f ∷ x) (e ∷ y), ← p) m)

  -- with all of it on the left of the right side
  pub map_around_left : (l : List (ℕ × V)) (f : ℕ × V) (r x : List (ℕ × V)) (e : ℕ × V) (y t : List (ℕ × V)) → IsMap (l ++ f ∷ r) → r ≡ x ++ e ∷ y → t ≡ l ++ f ∷ x → IsMap (t ++ e ∷ y)
  map_around_left l f r x e y t m p q = rw (q, append_assoc l (f ∷ x) (e ∷ y), ← p) m

  -- an entry of the right side of the left side between the two
  pub map_middle_right : (l x : List (ℕ × V)) (e : ℕ × V) (y u : List (ℕ × V)) (d : ℕ × V) (w : List (ℕ × V)) (f : ℕ × V) (z a b : List (ℕ × V)) → IsMap (l ++ f ∷ z) → l ≡ x ++ e ∷ y → y ≡ u ++ d ∷ w
      → a ≡ x ++ e ∷ u → b ≡ w ++ f ∷ z → IsMap (a ++ d ∷ b)
  map_middle_right l x e y u d w f z a b m p q s t =
      map_around_right l a d w f z b m (p ∙ ap (λ y. x ++ e ∷ y) q ∙ sym (append_assoc x (e ∷ u) (d ∷ w)) ∙ ap (λ a. a ++ d ∷ w) (sym s)) t

  -- an entry of the left side of the right side between the two
  pub map_middle_left : (l : List (ℕ × V)) (f : ℕ × V) (r x : List (ℕ × V)) (e : ℕ × V) (y u : List (ℕ × V)) (d : ℕ × V) (w a b : List (ℕ × V)) → IsMap (l ++ f ∷ r) → r ≡ x ++ e ∷ y → x ≡ u ++ d ∷ w
      → a ≡ l ++ f ∷ u → b ≡ w ++ e ∷ y → IsMap (a ++ d ∷ b)
  map_middle_left l f r x e y u d w a b m p q s t =
      map_around_left l f r u d b a m (p ∙ ap (λ x. x ++ e ∷ y) q ∙ append_assoc u (d ∷ w) (e ∷ y) ∙ ap (λ b. u ++ d ∷ b) (sym t)) s
