-- The neighbours of vertices after the updates of a batch.
use Rattle.std.proofs.Common.{◌≡◌, ℕ, ℤ, zero, suc, ◌+◌, ◌*◌, ◌/◌, ◌%◌, ◌^◌, ◌<◌, ◌≤◌, true, false, Option, Some, None, unwrap_or, List, length, refl, sym, ap, ◌∙◌, subst, arith}
use Rattle.ascending_lists.specs.Maps.{Rises, lookup}
use Rattle.shared_tree.specs.declared.change_all.Changed.{Changed}
use Rattle.shared_tree.specs.ChangedMaps.{MadeAt, GrewBy}
use Rattle.c_tree.specs.Heads.{IsChunkSize}
use Rattle.edge_updates.specs.declared.edge_update.EdgeUpdate.{EdgeUpdate}
use Rattle.edge_updates.specs.Updates.{decided_weight}
use Rattle.pages.specs.Vertices.{neighbours_of}
use Rattle.pages.specs.Updates.{updated, updates_of}
use Rattle.vertex_blocks.specs.declared.block.VertexBlock.{VertexBlock}
use Rattle.vertex_blocks.specs.Blocks.{Block, IsBlock, vertices_at, lists_of}
use Rattle.vertex_blocks.specs.Changes.{BlockChange, IsBlockAfter}
use Rattle.tree_batch.specs.declared.batch.Entry.{Entry}
use Rattle.tree_batch.specs.Edge.{Ends, IsAscending, decision, vertices_after, misfits}
use Rattle.tree_batch.specs.inside.Entry.{AreEdgesAfter}
use Rattle.tree_batch.specs.Digraph.{Digraph, IsDigraph, graph_after, is_chunk_size}
use Rattle.tree_batch.specs.inside.Digraph.{digraph}
use Rattle.tree_batch.specs.Neighbours.{edges_of, sources_of}
use Rattle.tree_batch.specs.inside.Neighbours.{weight_between}
use Rattle.tree_batch.specs.inside.VertexBlocks.{AreGraphBlocks, IsGraph}
use Rattle.tree_batch.specs.inside.BlockCuts.{block_decided}
use Rattle.tree_batch.specs.inside.Forking.{IsChangedTree}
use Rattle.tree_batch.proofs.Rising.{rises_wider}
use Rattle.tree_batch.proofs.AllEdges.{edges_after_are, digraph_after}
use Rattle.vertex_blocks.proofs.Numbering.{lists_rise, list_in_blocks}
use Rattle.tree_batch.proofs.Listed.{neighbour_lists, neighbours_ascend, blocks_at, are_blocks}
use Rattle.tree_batch.proofs.Adjacency.{rises_edges, edge_weights, edges_weigh, rises_room}
use Rattle.tree_batch.proofs.Columns.{source_weight, sources_ascend, same_entries}
use Rattle.tree_batch.proofs.BlockMembers.{updated_members}

-- the vertices of a graph's blocks rise
pub graph_rises : (bs : List (ℕ × Block)) → AreGraphBlocks bs → Rises 0 (2 ^ 24) (lists_of bs)
graph_rises bs ok = lists_rise 0 (2 ^ 18) bs ok.map ok.blocks

-- a vertex has the neighbours that it has in its block
pub in_block : (u : ℕ) (bs : List (ℕ × Block)) → AreGraphBlocks bs → neighbours_of u (lists_of bs) ≡ neighbours_of (u % 64) (vertices_at (lookup (u / 64) bs))
in_block u bs ok = list_in_blocks 0 (2 ^ 18) bs u ok.map ok.blocks

module _ (all : List (EdgeUpdate × ℤ)) (bs : List (ℕ × Block)) (t : Changed VertexBlock) (ok : AreGraphBlocks bs) (made : IsChangedTree all bs t) where
  abbrev new : List (ℕ × Block)
  new = t.tree.entries

  abbrev changes : List (ℕ × BlockChange)
  changes = made.changes

  block_made : (k : ℕ) (o : Option BlockChange) (b : Block) → MadeAt IsBlockAfter o (lookup k bs) (lookup k new) → lookup k new ≡ Some b → IsBlock b × (0 < length b)
  block_made k None b was is = blocks_at bs ok.blocks k b (sym was ∙ is)
  block_made k (Some c) b was is =
      let here : IsBlockAfter c (lookup k bs) (Some b) = subst (λ o. IsBlockAfter c (lookup k bs) o) is was in
      (here.block, here.some)

  -- they are blocks still
  pub blocks_changed : AreGraphBlocks new
  blocks_changed =
      let map = made.values.within 0 (2 ^ 18) ok.map made.cut.map in
      record { map = map; blocks = are_blocks 0 (2 ^ 18) new map (λ k b is. block_made k (lookup k changes) b (made.values.values k) is) }

  member_made : (e : Ends) (o : Option BlockChange) → lookup (e.0 / 64) changes ≡ o → MadeAt IsBlockAfter o (lookup (e.0 / 64) bs) (lookup (e.0 / 64) new)
      → lookup e.1 (neighbours_of (e.0 % 64) (vertices_at (lookup (e.0 / 64) new))) ≡ unwrap_or (block_decided o e) (weight_between (lists_of bs) e)
  member_made e None there was = ap (λ o. lookup e.1 (neighbours_of (e.0 % 64) (vertices_at o))) was ∙ ap (λ xs. lookup e.1 xs) (sym (in_block e.0 bs ok))
  member_made e (Some c) there was =
      let here = made.cut.cuts (e.0 / 64) c there in
      let lists = was.lists (e.0 % 64) (omega arith) in
      let after = updated_members (e.0 / 64) c.updates (neighbours_of e.0 (lists_of bs)) e here.order here.block refl (neighbours_ascend e.0 (lists_of bs) (neighbour_lists bs ok.blocks)) in
      ap (λ xs. lookup e.1 xs) (lists ∙ ap (λ xs. updated xs (updates_of (e.0 % 64) c.updates)) (sym (in_block e.0 bs ok))) ∙ after

  -- and have what the updates decide
  pub members_changed : (e : Ends) → weight_between (lists_of new) e ≡ unwrap_or (decided_weight all e) (weight_between (lists_of bs) e)
  members_changed e =
      ap (λ xs. lookup e.1 xs) (in_block e.0 new blocks_changed)
      ∙ member_made e (lookup (e.0 / 64) changes) refl (made.values.values (e.0 / 64)) ∙ ap (λ o. unwrap_or o (weight_between (lists_of bs) e)) (made.cut.same e)

  -- the growth is that in edges
  pub edges_grew : GrewBy (length (edges_of (lists_of bs))) t.growth (length (edges_of (lists_of new)))
  edges_grew = rw (edges_weigh bs, edges_weigh new) made.growth

module _ (n count : ℕ) (out into : List (ℕ × Block)) (ok : IsGraph n count out into) where
  abbrev old : Digraph
  old = digraph n (edges_of (lists_of out))

  -- the lists of the other direction are the sources
  pub sources_are : (v : ℕ) → sources_of v (edges_of (lists_of out)) ≡ neighbours_of v (lists_of into)
  sources_are v =
      same_entries (sources_of v (edges_of (lists_of out))) (neighbours_of v (lists_of into))
      (sources_ascend v 0 (2 ^ 64) 0 (edges_of (lists_of out)) (omega arith) ok.graph.ascending (λ w le. omega arith))
      (neighbours_ascend v (lists_of into) (neighbour_lists into ok.into.blocks))
      (λ u. source_weight (edges_of (lists_of out)) u v ∙ edge_weights 0 (2 ^ 24) (lists_of out) (u, v) (graph_rises out ok.out) ∙ sym (ok.converse u v))

  module _ (batch : List Entry) (inside : misfits n batch ≡ false) (us transposed : List (EdgeUpdate × ℤ)) (same : (e : Ends) → decided_weight us e ≡ decision batch e)
      (turns : (e : Ends) → decided_weight transposed e ≡ decided_weight us (e.1, e.0)) (outs ins : Changed VertexBlock) (out_made : IsChangedTree us out outs)
      (into_made : IsChangedTree transposed into ins) where
    abbrev out' : List (ℕ × Block)
    out' = outs.tree.entries

    abbrev into' : List (ℕ × Block)
    into' = ins.tree.entries

    out_ok : AreGraphBlocks out'
    out_ok = blocks_changed us out outs ok.out out_made

    out_members : (e : Ends) → weight_between (lists_of out') e ≡ unwrap_or (decided_weight us e) (weight_between (lists_of out) e)
    out_members = members_changed us out outs ok.out out_made

    into_members : (e : Ends) → weight_between (lists_of into') e ≡ unwrap_or (decided_weight us (e.1, e.0)) (weight_between (lists_of into) e)
    into_members e = members_changed transposed into ins ok.into into_made e ∙ ap (λ o. unwrap_or o (weight_between (lists_of into) e)) (turns e)

    ascending : IsAscending (edges_of (lists_of out'))
    ascending =
        let rise : Rises 0 (2 ^ 24) (lists_of out') = graph_rises out' out_ok in
        rises_wider 0 (2 ^ 24 * 2 ^ 32) (2 ^ 64) (edges_of (lists_of out')) (omega arith) (rises_edges 0 (2 ^ 24) (lists_of out') rise (neighbour_lists out' out_ok.blocks))

    edges_after : AreEdgesAfter (edges_of (lists_of out)) batch (edges_of (lists_of out'))
    edges_after = record {
      ascending = ascending;
      weights = λ e. edge_weights 0 (2 ^ 24) (lists_of out') e (graph_rises out' out_ok) ∙ out_members e ∙ ap (λ o. unwrap_or o (weight_between (lists_of out) e)) (same e)
          ∙ ap (λ h. unwrap_or (decision batch e) h) (sym (edge_weights 0 (2 ^ 24) (lists_of out) e (graph_rises out ok.out)));
    }

    -- the new edges are those after the batch
    pub graph_is_after : (m : ℕ) → m ≡ vertices_after n batch → digraph m (edges_of (lists_of out')) ≡ graph_after old batch
    graph_is_after m grown = λ i. digraph (grown i) (edges_after_are old batch (edges_of (lists_of out')) ok.graph inside edges_after i)

    few : length (edges_of (lists_of out')) ≤ 2 ^ 56
    few = omega (arith, rises_room 0 (2 ^ 24 * 2 ^ 32) (edges_of (lists_of out')) (rises_edges 0 (2 ^ 24) (lists_of out') (graph_rises out' out_ok) (neighbour_lists out' out_ok.blocks)))

    -- the new graph is one
    pub graph_made : (m new_count : ℕ) → m ≡ vertices_after n batch → new_count ≡ (count + outs.growth) % 2 ^ 64 → IsGraph m new_count out' into'
    graph_made m new_count grown is = record {
      graph = subst (λ k. IsDigraph (digraph k (edges_of (lists_of out')))) (sym grown) (digraph_after old batch (edges_of (lists_of out')) ok.graph inside edges_after);
      out = out_ok;
      into = blocks_changed transposed into ins ok.into into_made;
      converse = λ u v. into_members (v, u) ∙ ap (λ h. unwrap_or (decided_weight us (u, v)) h) (ok.converse u v) ∙ sym (out_members (u, v));
      count = omega (arith, is, ok.count, edges_grew us out outs ok.out out_made, few);
    }

-- a chunk size is a power of two from 1 to 256
pub size_is : (b : ℕ) → IsChunkSize b → is_chunk_size b ≡ true
size_is b (zero, le, is) = rw is
size_is b (suc zero, le, is) = rw is
size_is b (suc (suc zero), le, is) = rw is
size_is b (suc (suc (suc zero)), le, is) = rw is
size_is b (suc (suc (suc (suc zero))), le, is) = rw is
size_is b (suc (suc (suc (suc (suc zero)))), le, is) = rw is
size_is b (suc (suc (suc (suc (suc (suc zero))))), le, is) = rw is
size_is b (suc (suc (suc (suc (suc (suc (suc zero)))))), le, is) = rw is
size_is b (suc (suc (suc (suc (suc (suc (suc (suc zero))))))), le, is) = rw is
size_is b (suc (suc (suc (suc (suc (suc (suc (suc (suc k)))))))), le, is) = absurd (omega arith)
