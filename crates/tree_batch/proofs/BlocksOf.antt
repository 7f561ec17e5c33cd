-- The blocks of all vertices of a graph.
use Rattle.std.proofs.Common.{◌≡◌, ℕ, ℤ, ◌+◌, ◌<◌, ◌≤◌, ◌^◌, Some, None, [], inl, inr, List, ◌∷◌, length, refl, sym, ◌∙◌, arith}
use Rattle.std.proofs.lemmas.Bool.{cases_eq, ne_eqb, eq-eqb}
use Rattle.std.specs.Map.{keys_of}
use Rattle.ascending_lists.specs.Ascending.{AscendsFrom}
use Rattle.ascending_lists.specs.Maps.{Rises, lookup}
use Rattle.pages.specs.Vertices.{neighbours_of}
use Rattle.pages.proofs.Ranks.{none_below}
use Rattle.vertex_blocks.specs.Blocks.{Block, AreNeighbourLists, lists_of}
use Rattle.tree_batch.specs.Neighbours.{destinations_of, sources_of, edges_of}
use Rattle.tree_batch.specs.inside.Neighbours.{weight_between}
use Rattle.tree_batch.specs.VertexBlocks.{HaveFew, AreBlocksOf}
use Rattle.tree_batch.specs.inside.VertexBlocks.{IsGraph}
use Rattle.tree_batch.proofs.AllEdges.{few_vertices}
use Rattle.tree_batch.proofs.Listed.{neighbour_lists}
use Rattle.tree_batch.proofs.Adjacency.{edge_weights, destinations_are}
use Rattle.tree_batch.proofs.Neighbourhoods.{graph_rises, sources_are}

-- ascending numbers that all have a weight only below n are no more than n
few_below : (low n : ℕ) (xs : List (ℕ × ℤ)) → AscendsFrom low (keys_of xs) → low ≤ n → ((x : ℕ) (w : ℤ) → lookup x xs ≡ Some w → x < n) → low + length xs ≤ n
few_below low n [] rise le all = omega arith
few_below low n (x ∷ xs) rise le all =
    let here : x.0 < n = all x.0 x.1 (rw (eq-eqb x.0 x.0 refl) refl) in
    let rest : x.0 + 1 + length xs ≤ n = few_below (x.0 + 1) n xs rise.2 (omega arith) (λ y w there. elim (cases_eq x.0 y) [
      | inl at ↦ omega (arith, here)
      | inr other ↦ all y w (rw (ne_eqb x.0 y other) there)
    ]) in
    omega (arith, rest, rise.0)

some_none : (w : ℤ) → None ≡ Some w → ⊥
some_none w e = cc

-- so are the neighbours of a vertex, where all neighbours are below n
have_few : (n low high : ℕ) (es : List (ℕ × List (ℕ × ℤ))) → n ≤ 16777216 → Rises low high es → AreNeighbourLists es → ((u x : ℕ) (w : ℤ) → weight_between es (u, x) ≡ Some w → x < n) → HaveFew es
have_few n low high [] le s ok all = tt
have_few n low high (e ∷ es) le s ok all =
    let few : 0 + length e.1 ≤ n = few_below 0 n e.1 ok.0.ascends (omega arith) (λ x w there. all e.0 x w (rw (eq-eqb e.0 e.0 refl) there)) in
    (omega (arith, few), have_few n (e.0 + 1) high es le s.1 ok.1 later)
  where
    later : (u x : ℕ) (w : ℤ) → weight_between es (u, x) ≡ Some w → x < n
    later u x w there = elim (cases_eq e.0 u) [
      | inl at ↦
          let none : neighbours_of u es ≡ [] = none_below u (e.0 + 1) high es s.1 (omega arith) in
          absurd (some_none w (rw none at there))
      | inr other ↦ all u x w (rw (ne_eqb e.0 u other) there)
    ]

module _ (n count : ℕ) (out into : List (ℕ × Block)) (ok : IsGraph n count out into) where
  out_within : (u x : ℕ) (w : ℤ) → weight_between (lists_of out) (u, x) ≡ Some w → x < n
  out_within u x w there = (ok.graph.within (u, x) w (edge_weights 0 (2 ^ 24) (lists_of out) (u, x) (graph_rises out ok.out) ∙ there)).1

  into_within : (v u : ℕ) (w : ℤ) → weight_between (lists_of into) (v, u) ≡ Some w → u < n
  into_within v u w there = (ok.graph.within (u, v) w (edge_weights 0 (2 ^ 24) (lists_of out) (u, v) (graph_rises out ok.out) ∙ sym (ok.converse u v) ∙ there)).0

  -- those of destinations
  pub destination_blocks : AreBlocksOf (λ u. destinations_of u (edges_of (lists_of out))) out
  destination_blocks = record {
    map = ok.out.map;
    blocks = ok.out.blocks;
    lists = λ u. sym (destinations_are 0 (2 ^ 24) u (lists_of out) (graph_rises out ok.out));
    few = have_few n 0 (2 ^ 24) (lists_of out) (few_vertices n ok.graph.count) (graph_rises out ok.out) (neighbour_lists out ok.out.blocks) out_within;
  }

  -- those of sources
  pub source_blocks : AreBlocksOf (λ v. sources_of v (edges_of (lists_of out))) into
  source_blocks = record {
    map = ok.into.map;
    blocks = ok.into.blocks;
    lists = λ v. sym (sources_are n count out into ok v);
    few = have_few n 0 (2 ^ 24) (lists_of into) (few_vertices n ok.graph.count) (graph_rises into ok.into) (neighbour_lists into ok.into.blocks) into_within;
  }
