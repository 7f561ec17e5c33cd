-- Lists of edges in order, the weights that they give ends, and what entries of a batch make of them.
use Rattle.std.specs.Prelude.{ℕ, ◌+◌, ◌*◌, ◌^◌, ◌<◌, ◌≤◌, ◌==◌, ℤ, Bool, ◌&&◌, if◌then◌else◌, Option, Some, None, zero, suc, List, [], ◌∷◌, map, not, false}
use Rattle.std.specs.Prelude.{max, nat_le, nat_lt, ◌||◌, unwrap_or, ◌≡◌}
use Rattle.std.specs.List.{flat_map, list_any}
use Rattle.std.specs.Option.{option_or}
use Rattle.weighted_edges.specs.Edge.{Edge}
use Rattle.tail_codec.specs.Spelling.{is_one}
use Rattle.tree_batch.specs.declared.batch.Entry.{Entry}
use Rattle.tree_batch.specs.declared.batch.Entry.TheVariants.{Add, Remove, Grow}

-- the ends of an edge: its source and its destination
abbrev pub Ends : Type 0
Ends = ℕ × ℕ

abbrev pub ends_of : Edge → Ends
ends_of e = (e.0, e.1)

-- where ends are in the order by source and then by destination, for destinations below 2 ^ 32
abbrev pub index : Ends → ℕ
index p = p.0 * 2 ^ 32 + p.1

-- whether the two are the same ends
abbrev pub ends_eq : Ends → Ends → Bool
ends_eq a b = (a.0 == b.0) && (a.1 == b.1)

-- the weight of the edge between two ends, if it is in the list
abbrev pub weight_in : Ends → List Edge → Option ℤ
weight_in p [] = None
weight_in p (e ∷ es) = if ends_eq (ends_of e) p then Some e.2 else weight_in p es

-- both ends are below n
abbrev pub IsWithin : ℕ → Ends → Type 0
IsWithin n p = (p.0 < n) × (p.1 < n)

-- the edges are in order, each once, at indices from low up to high
abbrev pub EdgesRise : ℕ → ℕ → List Edge → Type 0
EdgesRise low high [] = low ≤ high
EdgesRise low high (e ∷ es) = (low ≤ index (ends_of e)) × (e.1 < 2 ^ 32) × EdgesRise (index (ends_of e) + 1) high es

-- each edge is after the one before it
abbrev pub IsAscending : List Edge → Type 0
IsAscending es = EdgesRise 0 (2 ^ 64) es

-- the k numbers from a on
abbrev pub numbers_from : ℕ → ℕ → List ℕ
numbers_from a zero = []
numbers_from a (suc k) = a ∷ numbers_from (a + 1) k

-- the edges from u to each of these vertices, each with its weight
abbrev pub edges_from : ℕ → List (ℕ × ℤ) → List Edge
edges_from u vs = map (λ v. (u, v.0, v.1)) vs

-- the edge between ends, where there is a weight for it
abbrev pub edge_at : Ends → Option ℤ → List Edge
edge_at p None = []
edge_at p (Some w) = (p.0, p.1, w) ∷ []

-- the ends from u to each of these vertices
abbrev pub ends_from : ℕ → List ℕ → List Ends
ends_from u vs = map (λ v. (u, v)) vs

-- all the ends that edges of n vertices may have, in order
unfoldable pub all_ends : ℕ → List Ends
all_ends n = flat_map (λ u. ends_from u (numbers_from 0 n)) (numbers_from 0 n)

-- the ends of the edge that an entry names, where it names one
abbrev pub named_by : Entry → Option Ends
named_by (Add u v w) = Some (u, v)
named_by (Remove u v) = Some (u, v)
named_by (Grow n) = None

-- what an entry makes of its edge: one of this weight, or none
abbrev pub made_by : Entry → Option ℤ
made_by (Add u v w) = Some w
made_by (Remove u v) = None
made_by (Grow n) = None

-- whether an entry adds its edge with a weight other than 1
abbrev pub has_weight : Entry → Bool
has_weight (Add u v w) = not (is_one w)
has_weight (Remove u v) = false
has_weight (Grow n) = false

-- how many vertices an entry asks for, or 0
abbrev pub count_asked : Entry → ℕ
count_asked (Add u v w) = 0
count_asked (Remove u v) = 0
count_asked (Grow n) = n

-- the most vertices that an entry asks for, or 0
abbrev pub most_asked : List Entry → ℕ
most_asked [] = 0
most_asked (x ∷ xs) = max (count_asked x) (most_asked xs)

-- how many vertices there are after a batch: the most that an entry asks for, or n as before
abbrev pub vertices_after : ℕ → List Entry → ℕ
vertices_after n batch = max n (most_asked batch)

-- whether an entry does not fit a batch by which n vertices become m: it names one that is none of the m, or it asks for fewer than the n or for more than a
-- graph may have
abbrev pub entry_misfits : ℕ → ℕ → Entry → Bool
entry_misfits n m (Add u v w) = nat_le m u || nat_le m v
entry_misfits n m (Remove u v) = nat_le m u || nat_le m v
entry_misfits n m (Grow k) = nat_lt k n || nat_lt 16777216 k

-- whether an entry of a batch does not fit a graph of n vertices
unfoldable pub misfits : ℕ → List Entry → Bool
misfits n batch = list_any (entry_misfits n (vertices_after n batch)) batch

-- whether these are those ends
abbrev pub is_between : Option Ends → Ends → Bool
is_between None p = false
is_between (Some q) p = ends_eq q p

-- what one entry says of the edge between two ends
abbrev pub entry_decision : Entry → Ends → Option (Option ℤ)
entry_decision x p = if is_between (named_by x) p then Some (made_by x) else None

-- what the last entry that names the edge says: its weight, or that it is not there; None where no entry names it
abbrev pub decision : List Entry → Ends → Option (Option ℤ)
decision [] p = None
decision (x ∷ xs) p = option_or (decision xs p) (entry_decision x p)

-- the weight of the edge after a batch, if it is there: as the batch decides, or else as before
abbrev pub weight_after : List Edge → List Entry → Ends → Option ℤ
weight_after edges batch p = unwrap_or (decision batch p) (weight_in p edges)

-- no entry names the edge
abbrev pub NoneNames : Ends → List Entry → Type 0
NoneNames p [] = Unit {0}
NoneNames p (x ∷ xs) = (is_between (named_by x) p ≡ false) × NoneNames p xs
