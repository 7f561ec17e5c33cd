-- A root apart from its sides, and a last entry apart from those before it.
use Rattle.std.specs.Prelude.{◌≡◌, Option, Some, None}
use Rattle.shared_tree.specs.declared.nodes.Opened.{Opened}
use Rattle.shared_tree.specs.declared.joins.Last.{Last}
use Rattle.shared_tree.specs.Balanced.{Balanced, empty, IsFork}
use Rattle.shared_tree.specs.inside.Joins.{IsFront}

-- what there is to open of the tree t
abbrev pub IsOpened : {V : Type 0} → Balanced V → Option (Opened V) → Type 0
IsOpened t None = t ≡ empty
IsOpened t (Some o) = IsFork t o.left o.key o.slot.node.value.value o.right

-- what there is to pop of the tree t
abbrev pub IsPopped : {V : Type 0} → Balanced V → Option (Last V) → Type 0
IsPopped t None = t ≡ empty
IsPopped t (Some l) = IsFront t l.front l.key l.slot.node.value.value
