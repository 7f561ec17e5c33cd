-- Joins below the root of the deeper side, and rotations.
use Rattle.std.proofs.Common.{◌≡◌, ℕ, ◌+◌, ◌<◌, ◌≤◌, max, ◌∷◌, ◌++◌, ap, sym, ◌∙◌, append_assoc, arith}
use Rattle.shared_tree.specs.Balanced.{Balanced, IsFork, DifferByAtMostOne}
use Rattle.shared_tree.specs.Joins.{IsJoin}
use Rattle.shared_tree.proofs.Depths.{grown}

-- a fork is a join
pub forked : {V : Type 0} (t l : Balanced V) (k : ℕ) (v : V) (r : Balanced V) → IsFork t l k v r → IsJoin l k v r t
forked t l k v r f = record {
  entries = f.entries;
  not_less = omega (arith, f.depth);
  not_more = omega (arith, f.depth);
  near = λ _. f.depth;
}

-- the depths around a join of a side of the root, t deep, with the other tree, o deep
module _ (t l r o : ℕ) (depth : t ≡ max l r + 1) (balanced : DifferByAtMostOne l r) (deeper : o + 1 < t) where
  pub right_grows : (i : ℕ) → max r o ≤ i → i ≤ max r o + 1 → (r ≤ i) × (i ≤ r + 1)
  right_grows i p q = (omega arith, omega arith)

  pub left_grows : (i : ℕ) → max o l ≤ i → i ≤ max o l + 1 → (l ≤ i) × (i ≤ l + 1)
  left_grows i p q = (omega arith, omega arith)

module _ {V : Type 0} (t l : Balanced V) (j : ℕ) (w : V) (r : Balanced V) (root : IsFork t l j w r) (other : Balanced V) (k : ℕ) (v : V) (deeper : other.depth + 1 < t.depth) (inner : Balanced V) where
  -- t is the left one of the two
  pub near_on_right : IsJoin r k v other inner → (l.depth ≤ inner.depth + 2) × (inner.depth ≤ l.depth + 2)
  near_on_right i =
      let g = right_grows t.depth l.depth r.depth other.depth root.depth root.balanced deeper inner.depth i.not_less i.not_more in
      let b = root.balanced in
      (omega (arith, g.0, b.1), omega (arith, g.1, b.1))

  pub joined_on_right : (n : Balanced V) → IsJoin r k v other inner → IsJoin l j w inner n → IsJoin t k v other n
  joined_on_right n i q =
      let g = right_grows t.depth l.depth r.depth other.depth root.depth root.balanced deeper inner.depth i.not_less i.not_more in
      let deep = grown l.depth r.depth l.depth inner.depth n.depth root.balanced q.not_less q.not_more q.near (omega arith) g.0 (omega (arith, g.1)) in
      record {
        entries =
            q.entries ∙ ap (λ es. l.entries ++ (j, w) ∷ es) i.entries
            ∙ sym (append_assoc l.entries ((j, w) ∷ r.entries) ((k, v) ∷ other.entries))
            ∙ ap (λ es. es ++ (k, v) ∷ other.entries) (sym root.entries);
        not_less = omega (arith, root.depth, deep.0, deeper);
        not_more = omega (arith, root.depth, deep.1, deeper);
        near = λ d. absurd (omega (arith, d.0, deeper));
      }

  -- t is the right one of the two
  pub near_on_left : IsJoin other k v l inner → (inner.depth ≤ r.depth + 2) × (r.depth ≤ inner.depth + 2)
  near_on_left i =
      let g = left_grows t.depth l.depth r.depth other.depth root.depth root.balanced deeper inner.depth i.not_less i.not_more in
      let b = root.balanced in
      (omega (arith, g.1, b.0), omega (arith, g.0, b.1))

  pub joined_on_left : (n : Balanced V) → IsJoin other k v l inner → IsJoin inner j w r n → IsJoin other k v t n
  joined_on_left n i q =
      let g = left_grows t.depth l.depth r.depth other.depth root.depth root.balanced deeper inner.depth i.not_less i.not_more in
      let deep = grown l.depth r.depth inner.depth r.depth n.depth root.balanced q.not_less q.not_more q.near g.0 (omega arith) (omega (arith, g.1)) in
      record {
        entries =
            q.entries ∙ ap (λ es. es ++ (j, w) ∷ r.entries) i.entries
            ∙ append_assoc other.entries ((k, v) ∷ l.entries) ((j, w) ∷ r.entries)
            ∙ ap (λ es. other.entries ++ (k, v) ∷ es) (sym root.entries);
        not_less = omega (arith, root.depth, deep.0, deeper);
        not_more = omega (arith, root.depth, deep.1, deeper);
        near = λ d. absurd (omega (arith, d.1, deeper));
      }
