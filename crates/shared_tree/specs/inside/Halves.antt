-- A map and changes that are cut at one key.
use Rattle.std.specs.Prelude.{ℕ, ◌+◌, ◌<◌, List, length}
use Rattle.std.specs.Option.{option_copied}
use Rattle.shared_tree.specs.declared.change_all.Halves.{Halves}
use Rattle.shared_tree.specs.Changes.{IsSplit}

-- both are cut at the key, and something is left out of the halves
pub record AreHalves {V C : Type 0} (es : List (ℕ × V)) (cs : List (ℕ × C)) (h : Halves V C) : Type 0 where
  pub map : IsSplit h.key es h.left.now.entries (option_copied h.value) h.right.now.entries
  pub changes : IsSplit h.key cs h.below.now (option_copied h.change) h.above.now
  pub below_smaller : length h.left.now.entries + length h.below.now < length es + length cs
  pub above_smaller : length h.right.now.entries + length h.above.now < length es + length cs
