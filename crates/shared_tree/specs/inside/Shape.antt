-- Which tree a link is seen as, and what holds of each link.
use Rattle.std.specs.Prelude.{◌≡◌, ◌∷◌, ◌++◌}
use Rattle.shared_tree.specs.declared.tree.Link.{Link}
use Rattle.shared_tree.specs.declared.tree.Link.TheVariants.{Empty, Fork}
use Rattle.shared_tree.specs.Balanced.{Balanced, empty, IsFork}

-- the tree below a link
abbrev pub seen : {V : Type 0} → Link V → Balanced V
seen Empty = empty
seen (Fork depth key node) =
    record { entries = node.value.left.entries ++ (key, node.value.value) ∷ node.value.right.entries; depth = depth }

-- the sides of the node differ by at most one in depth, the depth is right, and the keys rise
abbrev pub IsBalanced : {V : Type 0} → Link V → Type 0
IsBalanced Empty = Unit {0}
IsBalanced (Fork depth key node) =
    IsFork (seen (Fork depth key node)) node.value.left key node.value.value node.value.right

-- the tree t is the one below a link
pub record IsBelow {V : Type 0} (link : Link V) (t : Balanced V) : Type 0 where
  pub same : t ≡ seen link
  pub balanced : IsBalanced link
