-- Neighbours that two lists, or two graphs, have in common.
use Rattle.std.proofs.Common.{◌≡◌, ℕ, ℤ, suc, ◌+◌, ◌*◌, ◌/◌, ◌%◌, ◌<◌, ◌≤◌, ◌^◌, ◌==◌, Bool, true, false, not, ◌&&◌, inl, inr, Option, Some, None, List, [], ◌∷◌, length, get_or, refl, sym, ◌∙◌, ap, subst, arith}
use Rattle.std.specs.List.{filter}
use Rattle.std.proofs.lemmas.Bool.{cases_Bool, cases_eq, cases_lt, or_cases, and_parts, ne_eqb, eq-eqb, eqb-true, false≢true}
use Rattle.std.specs.declared.sync.Arc.{Arc}
use Rattle.ascending_lists.specs.Maps.{Rises, lookup}
use Rattle.ascending_lists.proofs.MapOrder.{rises_to}
use Rattle.ascending_lists.proofs.MapValues.{same_entries}
use Rattle.weighted_edges.specs.Edge.{Edge}
use Rattle.pages.specs.Vertices.{neighbours_of}
use Rattle.vertex_blocks.specs.Blocks.{Block, IsBlock, AreBlocks, AreNeighbourLists, lists_of, vertices_at}
use Rattle.vertex_blocks.proofs.Numbering.{list_in_blocks}
use Rattle.tree_batch.specs.Edge.{Ends}
use Rattle.tree_batch.specs.Digraph.{Digraph, IsDigraph}
use Rattle.tree_batch.specs.Neighbours.{destinations_of, sources_of}
use Rattle.tree_batch.specs.VertexBlocks.{AreBlocksOf}
use Rattle.tree_batch.proofs.AllEdges.{few_vertices}
use Rattle.tree_batch.proofs.Columns.{destination_weight, source_weight}
use Rattle.edge_differences.specs.Listed.{AreSameBut, is_listed}
use Rattle.flat_snapshot.specs.declared.chunk.Chunk.{Chunk}
use Rattle.flat_snapshot.specs.inside.Lists.{lists_in, AreBlocks as AreInPlace}
use Rattle.flat_snapshot.specs.inside.Chunks.{slots_in, is_changed, AreChunks, IsChunkOf, AreChunksOf, AreBlocksBelow}
use Rattle.flat_snapshot.proofs.Numbered.{rises_in, lists_in_are, none_is_a_block}
use Rattle.flat_snapshot.proofs.Snapshots.{rises_lists, lists_are}
use Rattle.flat_snapshot.proofs.Chunks.{slots_length, slots_blocks, after_chunks, chunks_made, made_lists, chunk_full, chunk_blocks, in_chunk}

-- a list, where it is not empty
abbrev some_of : List (ℕ × ℤ) → Option (List (ℕ × ℤ))
some_of [] = None
some_of (x ∷ xs) = Some (x ∷ xs)

some_of_some : (xs : List (ℕ × ℤ)) → 0 < length xs → Some xs ≡ some_of xs
some_of_some [] lt = absurd (omega (arith, lt))
some_of_some (x ∷ xs) lt = refl

value_at : (u : ℕ) (es : List (ℕ × List (ℕ × ℤ))) → AreNeighbourLists es → lookup u es ≡ some_of (neighbours_of u es)
value_at u [] are = refl
value_at u (e ∷ es) are = elim (cases_eq e.0 u) [
  | inl at ↦ rw (eq-eqb e.0 u at) (some_of_some e.1 are.0.some)
  | inr other ↦ rw (ne_eqb e.0 u other) (value_at u es are.1)
]

-- lists that give each vertex the same neighbours are the same
same_lists : (h : ℕ) (es fs : List (ℕ × List (ℕ × ℤ))) → Rises 0 h es → Rises 0 h fs → AreNeighbourLists es → AreNeighbourLists fs
    → ((u : ℕ) → neighbours_of u es ≡ neighbours_of u fs) → es ≡ fs
same_lists h es fs rises more are were same =
    same_entries 0 h es fs rises more (λ u. value_at u es are ∙ ap some_of (same u) ∙ sym (value_at u fs were))

-- the chunks of all vertices make the lists
pub following_made : {Z : Type 0} (n : ℕ) (bs : List (ℕ × Block)) (cs : List (Arc Chunk Z)) → AreBlocksBelow n bs → AreChunksOf (lists_of bs) 0 cs → n ≤ 4096 * length cs → length cs ≤ 2 ^ 12
    → lists_in 0 (slots_in cs) ≡ lists_of bs
following_made n bs cs below made enough few =
    let are = chunks_made (lists_of bs) 0 cs made in
    let blocks = slots_blocks cs are in
    let rises = rises_to 0 (64 * (0 + length (slots_in cs))) (64 * 2 ^ 18) (lists_in 0 (slots_in cs)) (rises_in 0 (slots_in cs) blocks) (omega (arith, slots_length cs are, few)) in
    same_lists (64 * 2 ^ 18) (lists_in 0 (slots_in cs)) (lists_of bs) rises (rises_lists 0 (2 ^ 18) bs below.map below.blocks) (lists_in_are 0 (slots_in cs) blocks) (lists_are bs below.blocks)
    (λ u. elim (cases_lt (u / 4096) (length cs)) [
      | inl lt ↦ made_lists (lists_of bs) cs made u lt
      | inr ge ↦ after_chunks u cs are ge ∙ sym (below.none u (omega (arith, ge, enough)))
    ])

-- the block that is found is one
found_block : (k : ℕ) (bs : List (ℕ × Block)) → AreBlocks bs → IsBlock (vertices_at (lookup k bs))
found_block k [] are = none_is_a_block
found_block k (b ∷ bs) are = elim (cases_eq b.0 k) [
  | inl at ↦ rw (eq-eqb b.0 k at) are.0
  | inr other ↦ rw (ne_eqb b.0 k other) (found_block k bs are.2)
]

found_blocks : (first : ℕ) (bs : List (ℕ × Block)) (slots : List (Option Block)) → AreBlocks bs → ((i : ℕ) → i < length slots → get_or slots i None ≡ lookup (first + i) bs) → AreInPlace slots
found_blocks first bs [] are found = tt
found_blocks first bs (o ∷ os) are found =
    let here : o ≡ lookup (first + 0) bs = found 0 (omega arith) in (
      subst (λ x. IsBlock (vertices_at x)) (sym here) (found_block (first + 0) bs are),
      found_blocks (first + 1) bs os are (λ i lt. found (suc i) (omega (arith, lt)) ∙ ap (λ k. lookup k bs) (omega arith)),
    )

-- slots with what was found in their places are a chunk
pub found_chunk : (k : ℕ) (bs : List (ℕ × Block)) (slots : List (Option Block)) → Rises 0 (2 ^ 18) bs → AreBlocks bs → length slots ≡ 64 → ((i : ℕ) → i < 64 → get_or slots i None ≡ lookup (64 * k + i) bs)
    → IsChunkOf (lists_of bs) k slots
found_chunk k bs slots map are full found = record {
  full = full;
  blocks = found_blocks (64 * k) bs slots are (λ i lt. found i (omega (arith, lt, full)));
  lists = λ u at.
      let place : 64 * k + u / 64 % 64 ≡ u / 64 = omega (arith, at) in
      ap (λ o. neighbours_of (u % 64) (vertices_at o)) (found (u / 64 % 64) (omega arith) ∙ ap (λ j. lookup j bs) place)
      ∙ sym (list_in_blocks 0 (2 ^ 18) bs u map are);
}

-- a chunk whose vertices have their neighbours as before
pub kept_chunk : {Z : Type 0} (k : ℕ) (cs : List (Arc Chunk Z)) (e : Arc Chunk Z) (es : List (ℕ × List (ℕ × ℤ))) → AreChunks cs → k < length cs
    → ((u : ℕ) → u / 4096 ≡ k → neighbours_of u (lists_in 0 (slots_in cs)) ≡ neighbours_of u es) → IsChunkOf es k (get_or cs k e).value.blocks
kept_chunk k cs e es are lt same = record {
  full = chunk_full cs k e are lt;
  blocks = chunk_blocks cs k e are lt;
  lists = λ u at.
      let chunk : u / 4096 < length cs = omega (arith, at, lt) in
      ap (λ j. neighbours_of (u % 64) (vertices_at (get_or (get_or cs j e).value.blocks (u / 64 % 64) None))) (sym at)
      ∙ sym (in_chunk u cs e None are chunk) ∙ same u at;
}

-- a list without an entry is empty
no_entry : (xs : List (ℕ × ℤ)) → ((x : ℕ) (w : ℤ) → lookup x xs ≡ Some w → ⊥) → xs ≡ []
no_entry [] none = refl
no_entry (x ∷ xs) none = absurd (none x.0 x.1 (rw (eq-eqb x.0 x.0 refl) refl))

-- the blocks of a graph are of its vertices
pub destinations_below : (g : Digraph) (bs : List (ℕ × Block)) → IsDigraph g → AreBlocksOf (λ u. destinations_of u g.edges) bs → AreBlocksBelow g.vertices bs
destinations_below g bs ok are = record {
  map = are.map;
  blocks = are.blocks;
  few = are.few;
  count = omega (arith, few_vertices g.vertices ok.count);
  none = λ u past. are.lists u ∙ no_entry (destinations_of u g.edges) (λ v w there. absurd (omega (arith, past, (ok.within (u, v) w (sym (destination_weight g.edges u v) ∙ there)).0)));
}

pub sources_below : (g : Digraph) (bs : List (ℕ × Block)) → IsDigraph g → AreBlocksOf (λ v. sources_of v g.edges) bs → AreBlocksBelow g.vertices bs
sources_below g bs ok are = record {
  map = are.map;
  blocks = are.blocks;
  few = are.few;
  count = omega (arith, few_vertices g.vertices ok.count);
  none = λ v past. are.lists v ∙ no_entry (sources_of v g.edges) (λ u w there. absurd (omega (arith, past, (ok.within (u, v) w (sym (source_weight g.edges u v) ∙ there)).1)));
}

-- no edge from a vertex is left out if none of them is listed, nor one to a vertex
unlisted_out : (u : ℕ) (listed : List Ends) (es : List Edge) → ((v : ℕ) → is_listed listed u v ≡ false) → destinations_of u (filter (λ e. not (is_listed listed e.0 e.1)) es) ≡ destinations_of u es
unlisted_out u listed [] none = refl
unlisted_out u listed (e ∷ es) none = elim (cases_eq e.0 u) [
  | inl at ↦
      let here : is_listed listed e.0 e.1 ≡ false = ap (λ k. is_listed listed k e.1) at ∙ none e.1 in
      rw (here, eq-eqb e.0 u at) (ap (λ r. (e.1, e.2) ∷ r) (unlisted_out u listed es none))
  | inr other ↦ elim (cases_Bool (is_listed listed e.0 e.1)) [
    | inl is ↦ rw (is, ne_eqb e.0 u other) (unlisted_out u listed es none)
    | inr is ↦ rw (is, ne_eqb e.0 u other) (unlisted_out u listed es none)
  ]
]

unlisted_in : (v : ℕ) (listed : List Ends) (es : List Edge) → ((u : ℕ) → is_listed listed u v ≡ false) → sources_of v (filter (λ e. not (is_listed listed e.0 e.1)) es) ≡ sources_of v es
unlisted_in v listed [] none = refl
unlisted_in v listed (e ∷ es) none = elim (cases_eq e.1 v) [
  | inl at ↦
      let here : is_listed listed e.0 e.1 ≡ false = ap (λ k. is_listed listed e.0 k) at ∙ none e.0 in
      rw (here, eq-eqb e.1 v at) (ap (λ r. (e.0, e.2) ∷ r) (unlisted_in v listed es none))
  | inr other ↦ elim (cases_Bool (is_listed listed e.0 e.1)) [
    | inl is ↦ rw (is, ne_eqb e.1 v other) (unlisted_in v listed es none)
    | inr is ↦ rw (is, ne_eqb e.1 v other) (unlisted_in v listed es none)
  ]
]

not_listed : (b : Bool) (c : Bool) → (b ≡ true → c ≡ true) → c ≡ false → b ≡ false
not_listed false c if_so is = refl
not_listed true c if_so is = absurd (false≢true (sym is ∙ if_so refl))

-- the destinations of the vertices of a chunk that does not change are as before
pub same_out : (now was : List Edge) (listed : List Ends) (changed : List Bool) → AreSameBut listed now was → ((u v : ℕ) → is_listed listed u v ≡ true → is_changed changed (u / 4096) ≡ true)
    → (u : ℕ) → is_changed changed (u / 4096) ≡ false → destinations_of u was ≡ destinations_of u now
same_out now was listed changed same marks u is =
    let none : (v : ℕ) → is_listed listed u v ≡ false = λ v. not_listed (is_listed listed u v) (is_changed changed (u / 4096)) (marks u v) is in
    sym (unlisted_out u listed was none) ∙ ap (destinations_of u) (sym same) ∙ unlisted_out u listed now none

pub same_in : (now was : List Edge) (listed : List Ends) (changed : List Bool) → AreSameBut listed now was → ((u v : ℕ) → is_listed listed u v ≡ true → is_changed changed (v / 4096) ≡ true)
    → (v : ℕ) → is_changed changed (v / 4096) ≡ false → sources_of v was ≡ sources_of v now
same_in now was listed changed same marks v is =
    let none : (u : ℕ) → is_listed listed u v ≡ false = λ u. not_listed (is_listed listed u v) (is_changed changed (v / 4096)) (marks u v) is in
    sym (unlisted_in v listed was none) ∙ ap (sources_of v) (sym same) ∙ unlisted_in v listed now none

-- what is so of each of the ends is so of those that are listed
pub of_listed : (P : ℕ → ℕ → Type 0) (ps : List Ends) (d : Ends) → ((j : ℕ) → j < length ps → P (get_or ps j d).0 (get_or ps j d).1) → (u v : ℕ) → is_listed ps u v ≡ true → P u v
of_listed P [] d all u v is = absurd (false≢true is)
of_listed P (p ∷ ps) d all u v is = elim (or_cases ((p.0 == u) && (p.1 == v)) (is_listed ps u v) is) [
  | inl here ↦
      let both = and_parts (p.0 == u) (p.1 == v) here in
      subst (λ k. P k v) (eqb-true p.0 u both.0) (subst (P p.0) (eqb-true p.1 v both.1) (all 0 (omega arith)))
  | inr later ↦ of_listed P ps d (λ j lt. all (suc j) (omega (arith, lt))) u v later
]
