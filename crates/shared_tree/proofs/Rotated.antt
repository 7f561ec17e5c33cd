-- Rotations: the root of the deeper side, two deeper than the other, and what is forked of its parts.
use Rattle.std.proofs.Common.{◌≡◌, ℕ, ◌+◌, ◌<◌, ◌≤◌, max, append_assoc, arith}
use Rattle.shared_tree.specs.Balanced.{Balanced, IsFork, DifferByAtMostOne}
use Rattle.shared_tree.specs.Joins.{IsJoin}

-- the depths: t of the deeper side, l and r of its sides, o of the other side
module _ (t l r o : ℕ) (depth : t ≡ max l r + 1) (balanced : DifferByAtMostOne l r) (deeper : t ≡ o + 2) where
  pub single_right : r ≤ l → DifferByAtMostOne r o × DifferByAtMostOne l (max r o + 1)
  single_right p = ((omega arith, omega arith), (omega arith, omega arith))

  pub single_left : l ≤ r → DifferByAtMostOne o l × DifferByAtMostOne (max o l + 1) r
  single_left p = ((omega arith, omega arith), (omega arith, omega arith))

  pub double_right : (a b : ℕ) → l < r → r ≡ max a b + 1 → DifferByAtMostOne a b
      → DifferByAtMostOne l a × (DifferByAtMostOne b o × DifferByAtMostOne (max l a + 1) (max b o + 1))
  double_right a b p e d = ((omega arith, omega arith), ((omega arith, omega arith), (omega arith, omega arith)))

  pub double_left : (a b : ℕ) → r < l → l ≡ max a b + 1 → DifferByAtMostOne a b
      → DifferByAtMostOne o a × (DifferByAtMostOne b r × DifferByAtMostOne (max o a + 1) (max b r + 1))
  double_left a b p e d = ((omega arith, omega arith), ((omega arith, omega arith), (omega arith, omega arith)))

-- with the root of t opened to l, (j, w), r, and the side of it that is in the middle opened to a, (i, x), b
module _ {V : Type 0} (t l : Balanced V) (j : ℕ) (w : V) (r : Balanced V) (root : IsFork t l j w r) (other : Balanced V) (k : ℕ) (v : V) (deeper : t.depth ≡ other.depth + 2)
    (a : Balanced V) (i : ℕ) (x : V) (b before after n : Balanced V) where
  -- t is the left one of the two
  pub rotated_right : IsFork r a i x b → l.depth < r.depth → IsFork before l j w a → IsFork after b k v other → IsFork n before i x after → IsJoin t k v other n
  rotated_right m p y z f = record {
    entries = rw (f.entries, y.entries, z.entries, root.entries, m.entries) (simp append_assoc);
    not_less = omega (arith, root.depth, root.balanced, m.depth, m.balanced, y.depth, z.depth, f.depth, p, deeper);
    not_more = omega (arith, root.depth, root.balanced, m.depth, m.balanced, y.depth, z.depth, f.depth, p, deeper);
    near = λ d. absurd (omega (arith, d.0, deeper));
  }

  -- t is the right one of the two
  pub rotated_left : IsFork l a i x b → r.depth < l.depth → IsFork before other k v a → IsFork after b j w r → IsFork n before i x after → IsJoin other k v t n
  rotated_left m p y z f = record {
    entries = rw (f.entries, y.entries, z.entries, root.entries, m.entries) (simp append_assoc);
    not_less = omega (arith, root.depth, root.balanced, m.depth, m.balanced, y.depth, z.depth, f.depth, p, deeper);
    not_more = omega (arith, root.depth, root.balanced, m.depth, m.balanced, y.depth, z.depth, f.depth, p, deeper);
    near = λ d. absurd (omega (arith, d.1, deeper));
  }
