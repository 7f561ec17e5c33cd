-- Beside `Joins`: definitions that no public contract cites.
use Rattle.std.specs.Prelude.{[], ◌≡◌, ℕ, ◌+◌, ◌≤◌, ◌∷◌, ◌++◌}
use Rattle.shared_tree.specs.Balanced.{Balanced}

-- front is t without its last entry (k, v), and is at most one less deep
pub record IsFront {V : Type 0} (t front : Balanced V) (k : ℕ) (v : V) : Type 0 where
  pub entries : t.entries ≡ front.entries ++ (k, v) ∷ []
  pub not_less : t.depth ≤ front.depth + 1
  pub not_more : front.depth ≤ t.depth
