-- What an iterator over a tree has still to give.
use Rattle.std.specs.Prelude.{◌≡◌, ℕ, ◌+◌, ◌≤◌, List, [], ◌∷◌, ◌++◌}
use Rattle.std.specs.Borrow.{Bor}
use Rattle.shared_tree.specs.declared.tree.Link.{Link}
use Rattle.shared_tree.specs.declared.tree.Link.TheVariants.{Empty, Fork}

-- the entries of a node and of its right side
abbrev pub from_link : {V : Type 0} → Link V → List (ℕ × V)
from_link Empty = []
from_link (Fork depth key node) = (key, node.value.value) ∷ node.value.right.entries

-- those of each link on a stack, the last link first
abbrev pub pending : {V : Type 0} → List (Bor (Link V)) → List (ℕ × V)
pending [] = []
pending (s ∷ ss) = pending ss ++ from_link s.now

-- the link is to a node, and the way down its right side fits a stack of 64 from index i on
abbrev pub HasRoomAt : {V : Type 0} → ℕ → Link V → Type 0
HasRoomAt i Empty = ⊥
HasRoomAt i (Fork depth key node) = i + node.value.right.depth ≤ 64

-- so does each link of a stack whose first index is i
abbrev pub HasRoom : {V : Type 0} → ℕ → List (Bor (Link V)) → Type 0
HasRoom i [] = Unit {0}
HasRoom i (s ∷ ss) = HasRoomAt i s.now × HasRoom (i + 1) ss

-- the lowest link is empty
abbrev pub IsOverEmpty : {V : Type 0} → List (Bor (Link V)) → Type 0
IsOverEmpty [] = ⊥
IsOverEmpty (s ∷ ss) = s.now ≡ Empty
