-- What lists of updates decide of edges, and their order.
use Rattle.std.specs.Prelude.{◌≡◌, ℕ, ℤ, pos, ◌+◌, ◌<◌, ◌≤◌, ◌==◌, Bool, ◌&&◌, Option, Some, None, if◌then◌else◌, List, [], ◌∷◌}
use Rattle.std.specs.Option.{option_or}
use Rattle.edge_updates.specs.declared.edge_update.EdgeUpdate.{EdgeUpdate}
use Rattle.edge_updates.specs.EdgeUpdate.{vertex_of, neighbour_of, adds}

-- an update without a weight, as a pair: an edge that it adds has weight 1
abbrev pub unit_pair : EdgeUpdate → EdgeUpdate × ℤ
unit_pair u = (u, pos 1)

-- an edge: a vertex and its neighbour
abbrev pub Edge : Type 0
Edge = ℕ × ℕ

-- whether an update names an edge
abbrev pub names : EdgeUpdate → Edge → Bool
names u e = (vertex_of u == e.0) && (neighbour_of u == e.1)

-- what an update makes of its edge: one of this weight, or none
abbrev pub weight_said : EdgeUpdate × ℤ → Option ℤ
weight_said u = if adds u.0 then Some u.1 else None

-- what one update says of an edge
abbrev pub one_weight_decided : EdgeUpdate × ℤ → Edge → Option (Option ℤ)
one_weight_decided u e = if names u.0 e then Some (weight_said u) else None

-- what the last update that names an edge makes of it; None if none names it
abbrev pub decided_weight : List (EdgeUpdate × ℤ) → Edge → Option (Option ℤ)
decided_weight [] e = None
decided_weight (u ∷ us) e = option_or (decided_weight us e) (one_weight_decided u e)

-- how many updates name an edge
abbrev pub times : Edge → List EdgeUpdate → ℕ
times e [] = 0
times e (u ∷ us) = if names u e then times e us + 1 else times e us

-- no edge is named twice
abbrev pub NamesOnce : List EdgeUpdate → Type 0
NamesOnce us = (e : Edge) → times e us ≤ 1

-- the one is before the other, or at its index
abbrev pub IsNotAfter : EdgeUpdate → EdgeUpdate → Type 0
IsNotAfter a b = (vertex_of a ≤ vertex_of b) × (vertex_of a ≡ vertex_of b → neighbour_of a ≤ neighbour_of b)

-- the updates are in order, after one
abbrev pub FollowInOrder : EdgeUpdate → List EdgeUpdate → Type 0
FollowInOrder a [] = Unit {0}
FollowInOrder a (u ∷ us) = IsNotAfter a u × FollowInOrder u us

-- the updates are in order of vertex and then of neighbour
abbrev pub AreInOrder : List EdgeUpdate → Type 0
AreInOrder [] = Unit {0}
AreInOrder (u ∷ us) = FollowInOrder u us

-- the one is before the other
abbrev pub IsBefore : EdgeUpdate → EdgeUpdate → Type 0
IsBefore a b = (vertex_of a ≤ vertex_of b) × (vertex_of a ≡ vertex_of b → neighbour_of a < neighbour_of b)

-- the edges ascend, after that of one update
abbrev pub FollowAscending : EdgeUpdate → List EdgeUpdate → Type 0
FollowAscending a [] = Unit {0}
FollowAscending a (u ∷ us) = IsBefore a u × FollowAscending u us

-- the edges ascend by vertex and then by neighbour, each named once
abbrev pub Ascend : List EdgeUpdate → Type 0
Ascend [] = Unit {0}
Ascend (u ∷ us) = FollowAscending u us
