-- Trees made of smaller ones.
use Rattle.std.specs.Prelude.{◌≡◌, ℕ, ◌+◌, ◌≤◌, max, ◌∷◌, ◌++◌}
use Rattle.shared_tree.specs.Balanced.{Balanced, DifferByAtMostOne}

-- t has the entries of l, then (k, v), then those of r, and is at most one deeper than l and r
pub record IsJoin {V : Type 0} (l : Balanced V) (k : ℕ) (v : V) (r t : Balanced V) : Type 0 where
  pub entries : t.entries ≡ l.entries ++ (k, v) ∷ r.entries
  pub not_less : max l.depth r.depth ≤ t.depth
  pub not_more : t.depth ≤ max l.depth r.depth + 1
  pub near : DifferByAtMostOne l.depth r.depth → t.depth ≡ max l.depth r.depth + 1

-- t has the entries of l and then those of r, and is about as deep as l and r
pub record IsConcatenation {V : Type 0} (l r t : Balanced V) : Type 0 where
  pub entries : t.entries ≡ l.entries ++ r.entries
  pub not_less : max l.depth r.depth ≤ t.depth + 1
  pub not_more : t.depth ≤ max l.depth r.depth + 1
  pub near : DifferByAtMostOne l.depth r.depth → max l.depth r.depth ≤ t.depth
