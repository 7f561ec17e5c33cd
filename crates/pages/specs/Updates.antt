-- Updates of the edges of a page, and what they make of lists. Each stands with a weight for its edge.
use Rattle.std.specs.Prelude.{◌≡◌, ℕ, ℤ, ◌+◌, ◌*◌, ◌/◌, ◌%◌, ◌^◌, ◌≤◌, ◌==◌, Option, Some, None, if◌then◌else◌, List, [], ◌∷◌, ◌++◌}
use Rattle.edge_updates.specs.declared.edge_update.EdgeUpdate.{EdgeUpdate}
use Rattle.edge_updates.specs.EdgeUpdate.{vertex_of, neighbour_of, adds}
use Rattle.ascending_lists.specs.MapOperations.{entries_below, entries_above}

-- the vertex of an update by its number in its page, 0 to 63
abbrev pub vertex_in_page : EdgeUpdate → ℕ
vertex_in_page u = vertex_of u % 64

-- the updates are of the 64 vertices of a block
abbrev pub AreOfBlock : ℕ → List (EdgeUpdate × ℤ) → Type 0
AreOfBlock block [] = Unit {0}
AreOfBlock block (u ∷ us) = (vertex_of u.0 / 64 ≡ block) × AreOfBlock block us

-- the neighbour that an update adds with its weight, before others
abbrev pub added : EdgeUpdate × ℤ → List (ℕ × ℤ) → List (ℕ × ℤ)
added u ys = if adds u.0 then (neighbour_of u.0, u.1) ∷ ys else ys

-- what updates make of a list: each one takes its neighbour out, and puts it back with the update's
-- weight where it adds it
abbrev pub updated : List (ℕ × ℤ) → List (EdgeUpdate × ℤ) → List (ℕ × ℤ)
updated xs [] = xs
updated xs (u ∷ us) = entries_below (neighbour_of u.0) xs ++ added u (updated (entries_above (neighbour_of u.0) xs) us)

-- the updates of a vertex
abbrev pub updates_of : ℕ → List (EdgeUpdate × ℤ) → List (EdgeUpdate × ℤ)
updates_of vertex [] = []
updates_of vertex (u ∷ us) = if vertex_in_page u.0 == vertex then u ∷ updates_of vertex us else updates_of vertex us

-- the neighbours of updates ascend from low on
abbrev pub NeighboursAscend : ℕ → List (EdgeUpdate × ℤ) → Type 0
NeighboursAscend low [] = Unit {0}
NeighboursAscend low (u ∷ us) = (low ≤ neighbour_of u.0) × NeighboursAscend (neighbour_of u.0 + 1) us

-- the number by which the edges of a page are sorted: the vertex times 2 ^ 24, and the neighbour
abbrev pub key_in_page : EdgeUpdate → ℕ
key_in_page u = vertex_in_page u * 2 ^ 24 + neighbour_of u

-- the edges of updates ascend, by vertex in the page and then by neighbour, from low on
abbrev pub EdgesAscend : ℕ → List (EdgeUpdate × ℤ) → Type 0
EdgesAscend low [] = Unit {0}
EdgesAscend low (u ∷ us) = (low ≤ key_in_page u.0) × EdgesAscend (key_in_page u.0 + 1) us

-- the weight of a neighbour after updates, or None where it is not there: the update of it decides, and
-- where none is of it, it is what it was
abbrev pub weight_decided : ℕ → List (EdgeUpdate × ℤ) → Option ℤ → Option ℤ
weight_decided v [] was = was
weight_decided v (u ∷ us) was = if neighbour_of u.0 == v then (if adds u.0 then Some u.1 else None) else weight_decided v us was
