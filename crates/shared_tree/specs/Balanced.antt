-- What contracts see of a tree.
use Rattle.std.specs.Prelude.{◌≡◌, ℕ, ◌+◌, ◌*◌, ◌^◌, ◌<◌, ◌≤◌, max, List, [], ◌∷◌, ◌++◌, length}
use Rattle.ascending_lists.specs.Maps.{IsMap}

-- the entries in order, and how many nodes the longest way down from the root has
pub record Balanced (V : Type 0) : Type 0 where
  pub entries : List (ℕ × V)
  pub depth : ℕ

-- no entry and no node
abbrev pub empty : {V : Type 0} → Balanced V
empty = record { entries = []; depth = 0 }

-- neither is more than one above the other
abbrev pub DifferByAtMostOne : ℕ → ℕ → Type 0
DifferByAtMostOne l r = (l ≤ r + 1) × (r ≤ l + 1)

-- t is the tree whose root has the entry (k, v) between the sides l and r
pub record IsFork {V : Type 0} (t l : Balanced V) (k : ℕ) (v : V) (r : Balanced V) : Type 0 where
  pub entries : t.entries ≡ l.entries ++ (k, v) ∷ r.entries
  pub depth : t.depth ≡ max l.depth r.depth + 1
  pub map : IsMap t.entries
  pub balanced : DifferByAtMostOne l.depth r.depth
  pub shallow : 2 ^ t.depth ≤ (length t.entries + 1) * (length t.entries + 1)
  pub room : length t.entries < 2 ^ t.depth
