-- The edges to the vertices of a graph, by blocks and as a whole.
use Rattle.std.proofs.Common.{◌≡◌, ℕ, zero, suc, ℤ, ◌+◌, ◌*◌, ◌^◌, ◌<◌, ◌≤◌, Bool, cond, Some, List, [], ◌∷◌, length, refl, sym, ap, ◌∙◌, arith}
use Rattle.std.specs.List.{range_with_len, sum_by}
use Rattle.std.proofs.lemmas.Bool.{eq-eqb, ne_eqb}
use Rattle.std.proofs.lemmas.List.FromFn.{length-range_with_len}
use Rattle.weighted_edges.specs.Edge.{Edge}
use Rattle.tree_batch.proofs.AllEdges.{few_vertices}
use Rattle.flat_snapshot.specs.Digraph.{Digraph, IsDigraph}
use Rattle.flat_snapshot.specs.Edge.{Ends, IsWithin, ends_eq, ends_of, weight_in}
use Rattle.tree_batch.specs.Edge.{EdgesRise}
use Rattle.flat_snapshot.specs.Neighbours.{sources_of}
use Rattle.edge_apply.proofs.Filtered.{has_first, has_later}
use Rattle.crew.specs.Limits.{weight}
use Rattle.pull_engine.specs.inside.Degrees.{in_degrees}
use Rattle.pull_engine.proofs.Merging.{destination_within}
use Rattle.crew.proofs.DegreeRows.{range_none, range_one_more, weight-map}

-- the degree of a vertex
abbrev pub degree : List Edge → ℕ → ℕ
degree es v = length (sources_of v es)

-- each edge goes to one vertex
edges_counted : (n : ℕ) (es : List Edge) → ((p : Ends) (w : ℤ) → weight_in p es ≡ Some w → IsWithin n p) → sum_by (degree es) (range_with_len 0 n) ≡ length es
edges_counted n [] within = range_none (degree []) 0 n (λ v l. refl)
edges_counted n (e ∷ es) within =
    let here = (within (ends_of e) e.2 (has_first e es)).1 in
    range_one_more (degree (e ∷ es)) (degree es) e.1 0 n (omega arith) (omega (arith, here))
    (ap (λ (b : Bool). length (cond b ((e.0, e.2) ∷ sources_of e.1 es) (sources_of e.1 es))) (eq-eqb e.1 e.1 refl) ∙ (let next : suc (degree es e.1) ≡ degree es e.1 + 1 = omega arith in next))
    (λ v other. ap (λ (b : Bool). length (cond b ((e.0, e.2) ∷ sources_of v es) (sources_of v es))) (ne_eqb e.1 v (λ same. other (sym same))))
    ∙ ap (λ k. k + 1) (edges_counted n es (λ p w has. within p _ (has_later (ends_eq (ends_of e) p) e.2 w (weight_in p es) has)))
    ∙ (let next : length es + 1 ≡ suc (length es) = omega arith in next)

-- all vertices, and all edges
pub whole_total : (g : Digraph) → IsDigraph g → length g.edges + g.vertices ≡ weight (in_degrees g)
whole_total g is =
    let sum = weight-map (degree g.edges) (range_with_len 0 g.vertices) in
    let edges = edges_counted g.vertices g.edges is.within in
    let count = length-range_with_len 0 g.vertices in
    omega (arith, sum, edges, count)

-- a number past the last vertex has none
zero_or : (k : ℕ) → (0 < k → ⊥) → k ≡ 0
zero_or zero none = refl
zero_or (suc k) none = absurd (none (omega arith))

pub none_past : (g : Digraph) → IsDigraph g → (v : ℕ) → g.vertices ≤ v → degree g.edges v ≡ 0
none_past g is v past = zero_or (degree g.edges v) (λ some. let inside = destination_within g.vertices v g.edges is.within some in omega (arith, past, inside))

-- a graph has few edges
edges_below : (n low high : ℕ) (es : List Edge) → ((p : Ends) (w : ℤ) → weight_in p es ≡ Some w → IsWithin n p) → EdgesRise low high es → low ≤ n * 2 ^ 32 → low + length es ≤ n * 2 ^ 32
edges_below n low high [] within s room = omega (arith, room)
edges_below n low high (e ∷ es) within s room =
    let source = (within (ends_of e) e.2 (has_first e es)).0 in
    let last : e.0 * 2 ^ 32 + e.1 + 1 ≤ n * 2 ^ 32 = omega (arith, source, s.1) in
    let rest = edges_below n (e.0 * 2 ^ 32 + e.1 + 1) high es (λ p w has. within p _ (has_later (ends_eq (ends_of e) p) e.2 w (weight_in p es) has)) s.2 last in
    omega (arith, s.0, rest)

pub few_edges : (g : Digraph) → IsDigraph g → (length g.edges ≤ 2 ^ 56) × (g.vertices ≤ 2 ^ 24)
few_edges g is =
    let count = few_vertices g.vertices is.count in
    let room = edges_below g.vertices 0 (2 ^ 64) g.edges is.within is.ascending (omega arith) in
    (omega (arith, count, room), omega (arith, count))
