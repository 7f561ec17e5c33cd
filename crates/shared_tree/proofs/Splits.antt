-- Maps split at a key, below and above an entry.
use Rattle.std.proofs.Common.{◌≡◌, ℕ, ◌+◌, ◌^◌, ◌<◌, Option, Some, None, List, ◌∷◌, ◌++◌, sym, ap, ◌∙◌, append_assoc, arith}
use Rattle.ascending_lists.specs.Maps.{Rises, IsMap}
use Rattle.shared_tree.specs.Changes.{entry_at_key, IsSplit}
use Rattle.ascending_lists.proofs.MapOrder.{rises_from, rises_left, rises_right, rises_joined, rises_append, rises_front, rises_back, rises_between}

module _ {V : Type 0} where
  -- what is below a key, an entry there or none, and what is above are in order
  pub rises_split : (h k : ℕ) (f : List (ℕ × V)) (m : Option V) (b : List (ℕ × V)) → Rises 0 k f → Rises (k + 1) h b → Rises 0 h (f ++ (entry_at_key k m ++ b))
  rises_split h k f None b s t = rises_append 0 k h f b s (rises_from k (k + 1) h b (omega arith) t)
  rises_split h k f (Some v) b s t = rises_joined 0 h f k v b s t

  -- what is split at a key is a map
  pub split_map : (k : ℕ) (es f : List (ℕ × V)) (m : Option V) (b : List (ℕ × V)) → IsSplit k es f m b → IsMap es
  split_map k es f m b s = rw s.whole (rises_split (2 ^ 32) k f m b s.below s.above)

module _ {V : Type 0} (k j : ℕ) (v : V) (t l r : List (ℕ × V)) (map : IsMap t) (is : t ≡ l ++ (j, v) ∷ r) where
  side_left : Rises 0 j l
  side_left = rises_left 0 (2 ^ 32) l j v r (rw is at map)

  side_right : Rises (j + 1) (2 ^ 32) r
  side_right = rises_right 0 (2 ^ 32) l j v r (rw is at map)

  -- a split of what stands before an entry is one of the whole
  pub split_left : (f : List (ℕ × V)) (m : Option V) (b n : List (ℕ × V)) → k < j → IsSplit k l f m b → n ≡ b ++ (j, v) ∷ r → IsSplit k t f m n
  split_left f m b n lt s e =
      let near : Rises 0 j b = rises_back 0 j (entry_at_key k m) b (rises_back 0 j f (entry_at_key k m ++ b) (rw s.whole at side_left)) in
      record {
        whole = rw e (is ∙ ap (λ l. l ++ (j, v) ∷ r) s.whole ∙ append_assoc f (entry_at_key k m ++ b) ((j, v) ∷ r) ∙ ap (λ x. f ++ x) (append_assoc (entry_at_key k m) b ((j, v) ∷ r)));
        below = s.below;
        above = rw e (rises_joined (k + 1) (2 ^ 32) b j v r (rises_between (k + 1) (2 ^ 32) 0 j b s.above near (omega arith)) side_right);
      }

  -- so is a split of what stands after it
  pub split_right : (f : List (ℕ × V)) (m : Option V) (b n : List (ℕ × V)) → j < k → IsSplit k r f m b → n ≡ l ++ (j, v) ∷ f → IsSplit k t n m b
  split_right f m b n lt s e =
      let near : Rises (j + 1) (2 ^ 32) f = rises_front (j + 1) (2 ^ 32) f (entry_at_key k m ++ b) (rw s.whole at side_right) in
      record {
        whole = rw e (is ∙ ap (λ r. l ++ (j, v) ∷ r) s.whole ∙ sym (append_assoc l ((j, v) ∷ f) (entry_at_key k m ++ b)));
        below = rw e (rises_joined 0 k l j v f side_left (rises_between (j + 1) (2 ^ 32) 0 k f near s.below (omega arith)));
        above = s.above;
      }

  -- an entry splits the whole at its key
  pub split_here : k ≡ j → IsSplit k t l (Some v) r
  split_here e = rw e (record { whole = is; below = side_left; above = side_right })
