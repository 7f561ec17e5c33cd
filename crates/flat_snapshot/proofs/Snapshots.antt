-- Lists of neighbours, and what a graph says of them.
use Rattle.std.proofs.Common.{◌≡◌, ℕ, ℤ, zero, suc, ◌+◌, ◌*◌, ◌<◌, ◌^◌, inl, inr, List, [], ◌∷◌, length, unwrap_or, refl, sym, ◌∙◌, ap, subst, arith}
use Rattle.std.specs.List.{All}
use Rattle.std.proofs.lemmas.Bool.{cases_eq, ne_eqb, eq-eqb}
use Rattle.ascending_lists.specs.Maps.{Rises, lookup}
use Rattle.ascending_lists.proofs.MapOrder.{rises_append, rises_from, rises_to}
use Rattle.pages.specs.Vertices.{neighbours_of}
use Rattle.tree_batch.specs.Digraph.{Digraph, IsDigraph}
use Rattle.tree_batch.specs.inside.Digraph.{digraph}
use Rattle.tree_batch.specs.Neighbours.{destinations_of, sources_of, edges_of}
use Rattle.tree_batch.specs.VertexBlocks.{AreBlocksOf}
use Rattle.vertex_blocks.specs.Blocks.{Block, AreNeighbourLists, AreBlocks, numbered_vertices, lists_of}
use Rattle.flat_snapshot.specs.inside.Lists.{degrees_of}
use Rattle.flat_snapshot.specs.FlatEdges.{AreDegreesOf}
use Rattle.flat_snapshot.specs.inside.FlatEdges.{IsFlat}
use Rattle.flat_snapshot.proofs.Numbered.{numbered_rises, numbered_lists}

rises_degrees : (a h : ℕ) (es : List (ℕ × List (ℕ × ℤ))) → Rises a h es → Rises a h (degrees_of es)
rises_degrees a h [] s = s
rises_degrees a h (e ∷ es) s = (s.0, rises_degrees (e.0 + 1) h es s.1)

-- the vertices of blocks rise
pub rises_lists : (a h : ℕ) (bs : List (ℕ × Block)) → Rises a h bs → AreBlocks bs → Rises (64 * a) (64 * h) (lists_of bs)
rises_lists a h [] s are = omega (arith, s)
rises_lists a h (b ∷ bs) s are =
    let front = subst (λ l. Rises l (64 * b.0 + 64) (numbered_vertices b.0 b.1)) (omega arith) (numbered_rises b.0 0 64 b.1 are.0.map) in
    let back = subst (λ l. Rises l (64 * h) (lists_of bs)) (omega arith) (rises_lists (b.0 + 1) h bs s.1 are.2) in
    rises_from (64 * a) (64 * b.0) (64 * h) (lists_of (b ∷ bs)) (omega (arith, s.0))
    (rises_append (64 * b.0) (64 * b.0 + 64) (64 * h) (numbered_vertices b.0 b.1) (lists_of bs) front back)

degrees_lengths : (u : ℕ) (es : List (ℕ × List (ℕ × ℤ))) → unwrap_or (lookup u (degrees_of es)) 0 ≡ length (neighbours_of u es)
degrees_lengths u [] = refl
degrees_lengths u (e ∷ es) = elim (cases_eq e.0 u) [
  | inl at ↦ rw (eq-eqb e.0 u at) refl
  | inr other ↦ rw (ne_eqb e.0 u other) (degrees_lengths u es)
]

-- a graph is its vertices and edges
pub digraph_is : (g : Digraph) → digraph g.vertices g.edges ≡ g
digraph_is g = refl

-- each vertex of blocks has neighbours
pub lists_are : (bs : List (ℕ × Block)) → AreBlocks bs → AreNeighbourLists (lists_of bs)
lists_are [] are = tt
lists_are (b ∷ bs) are = numbered_lists b.0 b.1 (lists_of bs) are.0.lists (lists_are bs are.2)

some_degrees : (es : List (ℕ × List (ℕ × ℤ))) → AreNeighbourLists es → All (λ d. 0 < d.1) (degrees_of es)
some_degrees [] are k d lt = absurd (omega arith)
some_degrees (e ∷ es) are zero d lt = are.0.some
some_degrees (e ∷ es) are (suc k) d lt = some_degrees es are.1 k d (omega arith)

-- the degrees of vertices in blocks
pub degrees_made : (neighbours : ℕ → List (ℕ × ℤ)) (bs : List (ℕ × Block)) → AreBlocksOf neighbours bs → AreDegreesOf neighbours (degrees_of (lists_of bs))
degrees_made neighbours bs are = record {
  map = rises_degrees 0 (2 ^ 32) (lists_of bs) (rises_to 0 (64 * 2 ^ 18) (2 ^ 32) (lists_of bs) (rises_lists 0 (2 ^ 18) bs are.map are.blocks) (omega arith));
  some = some_degrees (lists_of bs) (lists_are bs are.blocks);
  degrees = λ u. degrees_lengths u (lists_of bs) ∙ ap length (are.lists u);
}

-- the flat of a graph
pub flat_made : (g : Digraph) (n m : ℕ) (out into : List (ℕ × Block)) → IsDigraph g → n ≡ g.vertices → m ≡ length g.edges → AreBlocksOf (λ u. destinations_of u g.edges) out
    → edges_of (lists_of out) ≡ g.edges → AreBlocksOf (λ v. sources_of v g.edges) into → IsFlat n m (lists_of out) (lists_of into)
flat_made g n m out into ok vertices count outs same ins =
    let whole : IsDigraph (digraph g.vertices g.edges) = record { count = ok.count; ascending = ok.ascending; within = ok.within } in
    record {
      graph = rw (vertices, same) whole;
      count = count ∙ ap length (sym same);
      out = subst (λ es. AreDegreesOf (λ u. destinations_of u es) (degrees_of (lists_of out))) (sym same) (degrees_made (λ u. destinations_of u g.edges) out outs);
      into = subst (λ es. AreDegreesOf (λ v. sources_of v es) (degrees_of (lists_of into))) (sym same) (degrees_made (λ v. sources_of v g.edges) into ins);
      destinations = λ u. outs.lists u ∙ ap (destinations_of u) (sym same);
      sources = λ v. ins.lists v ∙ ap (sources_of v) (sym same);
    }
