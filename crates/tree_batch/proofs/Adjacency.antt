-- The edges that vertices and the lists of their neighbours make.
use Rattle.std.proofs.Common.{◌≡◌, ◌≢◌, ℕ, ◌+◌, ◌*◌, ◌^◌, ◌≤◌, ◌==◌, ℤ, Option, Some, None, if◌then◌else◌, inl, inr, List, [], ◌∷◌, ◌++◌, length, refl, ap, ◌∙◌, arith, length-append}
use Rattle.std.proofs.lemmas.Bool.{cases_Bool, cases_eq, ne_eqb, eq-eqb}
use Rattle.std.proofs.lemmas.List.{append-nil}
use Rattle.std.specs.Map.{keys_of}
use Rattle.shared_tree.specs.ChangedMaps.{total_weight}
use Rattle.ascending_lists.specs.Ascending.{AscendsFrom}
use Rattle.ascending_lists.specs.Maps as maps
use Rattle.ascending_lists.specs.Maps.{lookup}
use Rattle.weighted_edges.specs.Edge.{Edge}
use Rattle.pages.specs.Vertices.{neighbours_of}
use Rattle.pages.proofs.Ranks.{none_below}
use Rattle.vertex_blocks.specs.Blocks.{Block, AreNeighbourLists, edge_total, numbered_vertices, lists_of}
use Rattle.tree_batch.specs.Edge.{Ends, ends_of, index, weight_in, EdgesRise, edges_from}
use Rattle.tree_batch.specs.Neighbours.{destinations_of, edges_of}
use Rattle.tree_batch.specs.inside.Neighbours.{weight_between}
use Rattle.tree_batch.proofs.Rising.{weight_in-append, rises_from, rises_joined}
use Rattle.tree_batch.proofs.Deciding.{option_or-none}

-- the edges from a vertex to ascending neighbours rise
pub rises_from_list : (u low : ℕ) (xs : List (ℕ × ℤ)) → low ≤ 2 ^ 32 → AscendsFrom low (keys_of xs) → EdgesRise (index (u, low)) ((u + 1) * 2 ^ 32) (edges_from u xs)
rises_from_list u low [] le s = omega arith
rises_from_list u low (x ∷ xs) le s =
    (omega (arith, s.0), s.1, rises_from (index (u, x.0 + 1)) (index (u, x.0) + 1) ((u + 1) * 2 ^ 32) (edges_from u xs) (omega arith) (rises_from_list u (x.0 + 1) xs (omega (arith, s.1)) s.2))

-- the edges rise
pub rises_edges : (low high : ℕ) (es : List (ℕ × List (ℕ × ℤ))) → maps.Rises low high es → AreNeighbourLists es → EdgesRise (low * 2 ^ 32) (high * 2 ^ 32) (edges_of es)
rises_edges low high [] s ok = omega (arith, s)
rises_edges low high (e ∷ es) s ok =
    rises_joined (low * 2 ^ 32) ((e.0 + 1) * 2 ^ 32) (high * 2 ^ 32) (edges_from e.0 e.1) (edges_of es)
    (rises_from (index (e.0, 0)) (low * 2 ^ 32) ((e.0 + 1) * 2 ^ 32) (edges_from e.0 e.1) (omega (arith, s.0)) (rises_from_list e.0 0 e.1 (omega arith) ok.0.ascends))
    (rises_edges (e.0 + 1) high es s.1 ok.1)

-- the edges from a vertex have the weights of the neighbours
pub from_weights : (u : ℕ) (xs : List (ℕ × ℤ)) (p : Ends) → weight_in p (edges_from u xs) ≡ (if u == p.0 then lookup p.1 xs else None)
from_weights u [] p = elim (cases_Bool (u == p.0)) [ inl a ↦ rw a | inr a ↦ rw a ]
from_weights u (x ∷ xs) p = elim (cases_Bool (u == p.0)) [
  | inl a ↦
      let rest : weight_in p (edges_from u xs) ≡ lookup p.1 xs = from_weights u xs p ∙ rw a refl in
      rw a (ap (λ (o : Option ℤ). if x.0 == p.1 then Some x.1 else o) rest)
  | inr a ↦
      let rest : weight_in p (edges_from u xs) ≡ None = from_weights u xs p ∙ rw a refl in
      rw a rest
]

-- an edge has the weight of its second end as a neighbour of the first
pub edge_weights : (low high : ℕ) (es : List (ℕ × List (ℕ × ℤ))) (p : Ends) → maps.Rises low high es → weight_in p (edges_of es) ≡ weight_between es p
edge_weights low high [] p s = refl
edge_weights low high (x ∷ es) p s =
    weight_in-append (edges_from x.0 x.1) (edges_of es) p
    ∙ rw (from_weights x.0 x.1 p, edge_weights (x.0 + 1) high es p s.1) (elim (cases_eq x.0 p.0) [
      | inl at ↦
          let none : neighbours_of p.0 es ≡ [] = none_below p.0 (x.0 + 1) high es s.1 (omega arith) in
          rw (eq-eqb x.0 p.0 at, none) (option_or-none (lookup p.1 x.1))
      | inr other ↦ rw (ne_eqb x.0 p.0 other) refl
    ])

length_from : (u : ℕ) (xs : List (ℕ × ℤ)) → length (edges_from u xs) ≡ length xs
length_from u [] = refl
length_from u (x ∷ xs) = omega (arith, length_from u xs)

-- the edges of a block, and those of others
block_edges : (k : ℕ) (es : Block) (rest : List (ℕ × List (ℕ × ℤ))) → length (edges_of (numbered_vertices k es ++ rest)) ≡ edge_total es + length (edges_of rest)
block_edges k [] rest = omega arith
block_edges k (e ∷ es) rest = length-append (edges_from (64 * k + e.0) e.1) (edges_of (numbered_vertices k es ++ rest)) ∙ omega (arith, length_from (64 * k + e.0) e.1, block_edges k es rest)

-- there are as many edges as the blocks have
pub edges_weigh : (bs : List (ℕ × Block)) → length (edges_of (lists_of bs)) ≡ total_weight edge_total bs
edges_weigh [] = refl
edges_weigh (b ∷ bs) = block_edges b.0 b.1 (lists_of bs) ∙ omega (arith, edges_weigh bs)

-- the destinations in the edges from u, and after them
destinations_here : (u : ℕ) (xs : List (ℕ × ℤ)) (es : List Edge) → destinations_of u (edges_from u xs ++ es) ≡ xs ++ destinations_of u es
destinations_here u [] es = refl
destinations_here u (x ∷ xs) es = rw (eq-eqb u u refl) (ap (λ ys. x ∷ ys) (destinations_here u xs es))

-- those in the edges from another vertex
destinations_elsewhere : (u w : ℕ) (xs : List (ℕ × ℤ)) (es : List Edge) → w ≢ u → destinations_of u (edges_from w xs ++ es) ≡ destinations_of u es
destinations_elsewhere u w [] es other = refl
destinations_elsewhere u w (x ∷ xs) es other = rw (ne_eqb w u other) (destinations_elsewhere u w xs es other)

-- the destinations are the neighbours
pub destinations_are : (low high u : ℕ) (es : List (ℕ × List (ℕ × ℤ))) → maps.Rises low high es → destinations_of u (edges_of es) ≡ neighbours_of u es
destinations_are low high u [] s = refl
destinations_are low high u (e ∷ es) s = elim (cases_eq e.0 u) [
  | inl at ↦
      let none : neighbours_of u es ≡ [] = none_below u (e.0 + 1) high es s.1 (omega arith) in
      let rest : destinations_of u (edges_of es) ≡ [] = destinations_are (e.0 + 1) high u es s.1 ∙ none in
      let here : destinations_of u (edges_from e.0 e.1 ++ edges_of es) ≡ e.1 = rw at (destinations_here u e.1 (edges_of es) ∙ ap (λ ys. e.1 ++ ys) rest ∙ append-nil e.1) in
      rw (eq-eqb e.0 u at) here
  | inr other ↦ rw (ne_eqb e.0 u other) (destinations_elsewhere u e.0 e.1 (edges_of es) other ∙ destinations_are (e.0 + 1) high u es s.1)
]

-- how many edges there is room for
pub rises_room : (low high : ℕ) (es : List Edge) → EdgesRise low high es → low + length es ≤ high
rises_room low high [] s = omega arith
rises_room low high (e ∷ es) s = omega (arith, s.0, rises_room (index (ends_of e) + 1) high es s.2)
