-- Slots of chunks, and the neighbours in them.
use Rattle.std.proofs.Common.{◌≡◌, ℕ, ℤ, zero, suc, ◌+◌, ◌*◌, ◌/◌, ◌%◌, ◌<◌, ◌≤◌, Option, None, List, [], ◌∷◌, ◌++◌, length, get_or, refl, ◌∙◌, ap, subst, arith, length-append}
use Rattle.std.proofs.lemmas.List.{get_or_append_left, get_or-append-add}
use Rattle.std.specs.declared.sync.Arc.{Arc}
use Rattle.pages.specs.Vertices.{neighbours_of}
use Rattle.vertex_blocks.specs.Blocks.{Block, vertices_at}
use Rattle.flat_snapshot.specs.declared.chunk.Chunk.{Chunk}
use Rattle.flat_snapshot.specs.inside.Lists.{lists_in, AreBlocks}
use Rattle.flat_snapshot.specs.inside.Chunks.{slots_in, AreChunks, IsChunkOf, AreChunksOf}
use Rattle.flat_snapshot.proofs.Numbered.{rises_in, list_in, none_above}

-- blocks after blocks
blocks_append : (xs ys : List (Option Block)) → AreBlocks xs → AreBlocks ys → AreBlocks (xs ++ ys)
blocks_append [] ys are more = more
blocks_append (x ∷ xs) ys are more = (are.0, blocks_append xs ys are.1 more)

module _ {Z : Type 0} where
  pub slots_length : (cs : List (Arc Chunk Z)) → AreChunks cs → length (slots_in cs) ≡ 64 * length cs
  slots_length [] are = refl
  slots_length (c ∷ cs) are = omega (arith, length-append c.value.blocks (slots_in cs), are.0, slots_length cs are.2)

  -- the slots hold blocks
  pub slots_blocks : (cs : List (Arc Chunk Z)) → AreChunks cs → AreBlocks (slots_in cs)
  slots_blocks [] are = tt
  slots_blocks (c ∷ cs) are = blocks_append c.value.blocks (slots_in cs) are.1 (slots_blocks cs are.2)

  -- a slot is in its chunk
  slot_at : (cs : List (Arc Chunk Z)) (j i : ℕ) (e : Arc Chunk Z) (d : Option Block) → AreChunks cs → j < length cs → i < 64
      → get_or (slots_in cs) (64 * j + i) d ≡ get_or (get_or cs j e).value.blocks i d
  slot_at [] j i e d are lt inside = absurd (omega (arith, lt))
  slot_at (c ∷ cs) zero i e d are lt inside =
      ap (λ k. get_or (c.value.blocks ++ slots_in cs) k d) (omega arith) ∙ get_or_append_left c.value.blocks (slots_in cs) d i (omega (arith, are.0, inside))
  slot_at (c ∷ cs) (suc j) i e d are lt inside =
      ap (λ k. get_or (c.value.blocks ++ slots_in cs) k d) (omega (arith, are.0)) ∙ get_or-append-add c.value.blocks (slots_in cs) (64 * j + i) d
      ∙ slot_at cs j i e d are.2 (omega (arith, lt)) inside

  -- each has its 64 slots, with blocks
  pub chunk_full : (cs : List (Arc Chunk Z)) (j : ℕ) (e : Arc Chunk Z) → AreChunks cs → j < length cs → length (get_or cs j e).value.blocks ≡ 64
  chunk_full [] j e are lt = absurd (omega (arith, lt))
  chunk_full (c ∷ cs) zero e are lt = are.0
  chunk_full (c ∷ cs) (suc j) e are lt = chunk_full cs j e are.2 (omega (arith, lt))

  pub chunk_blocks : (cs : List (Arc Chunk Z)) (j : ℕ) (e : Arc Chunk Z) → AreChunks cs → j < length cs → AreBlocks (get_or cs j e).value.blocks
  chunk_blocks [] j e are lt = absurd (omega (arith, lt))
  chunk_blocks (c ∷ cs) zero e are lt = are.1
  chunk_blocks (c ∷ cs) (suc j) e are lt = chunk_blocks cs j e are.2 (omega (arith, lt))

  -- the list of a vertex is in the block of its slot
  pub in_chunk : (u : ℕ) (cs : List (Arc Chunk Z)) (e : Arc Chunk Z) (d : Option Block) → AreChunks cs → u / 4096 < length cs
      → neighbours_of u (lists_in 0 (slots_in cs)) ≡ neighbours_of (u % 64) (vertices_at (get_or (get_or cs (u / 4096) e).value.blocks (u / 64 % 64) d))
  in_chunk u cs e d are lt =
      let place : u / 64 ≡ 64 * (u / 4096) + u / 64 % 64 = omega arith in
      let inside : u / 64 < length (slots_in cs) = omega (arith, slots_length cs are, lt) in
      list_in u 0 (u / 64) (slots_in cs) d (slots_blocks cs are) (omega arith) inside
      ∙ ap (λ o. neighbours_of (u % 64) (vertices_at o)) (ap (λ k. get_or (slots_in cs) k d) place ∙ slot_at cs (u / 4096) (u / 64 % 64) e d are lt (omega arith))

  -- a vertex after all chunks has none
  pub after_chunks : (u : ℕ) (cs : List (Arc Chunk Z)) → AreChunks cs → length cs ≤ u / 4096 → neighbours_of u (lists_in 0 (slots_in cs)) ≡ []
  after_chunks u cs are past =
      none_above u 0 (64 * (0 + length (slots_in cs))) (lists_in 0 (slots_in cs)) (rises_in 0 (slots_in cs) (slots_blocks cs are)) (omega (arith, slots_length cs are, past))

  -- chunks that were made hold blocks
  pub chunks_made : (es : List (ℕ × List (ℕ × ℤ))) (k : ℕ) (cs : List (Arc Chunk Z)) → AreChunksOf es k cs → AreChunks cs
  chunks_made es k [] made = tt
  chunks_made es k (c ∷ cs) made = (made.0.full, made.0.blocks, chunks_made es (k + 1) cs made.1)

  made_at : (es : List (ℕ × List (ℕ × ℤ))) (k : ℕ) (cs : List (Arc Chunk Z)) (j : ℕ) (e : Arc Chunk Z) → AreChunksOf es k cs → j < length cs → IsChunkOf es (k + j) (get_or cs j e).value.blocks
  made_at es k [] j e made lt = absurd (omega (arith, lt))
  made_at es k (c ∷ cs) zero e made lt = subst (λ n. IsChunkOf es n c.value.blocks) (omega arith) made.0
  made_at es k (c ∷ cs) (suc j) e made lt = subst (λ n. IsChunkOf es n (get_or cs j e).value.blocks) (omega arith) (made_at es (k + 1) cs j e made.1 (omega (arith, lt)))

  -- one more chunk after the others
  pub made_more : (es : List (ℕ × List (ℕ × ℤ))) (k : ℕ) (cs : List (Arc Chunk Z)) (c : Arc Chunk Z) → AreChunksOf es k cs → IsChunkOf es (k + length cs) c.value.blocks → AreChunksOf es k (cs ++ c ∷ [])
  made_more es k [] c made is = (subst (λ n. IsChunkOf es n c.value.blocks) (omega arith) is, tt)
  made_more es k (x ∷ cs) c made is = (made.0, made_more es (k + 1) cs c made.1 (subst (λ n. IsChunkOf es n c.value.blocks) (omega arith) is))

  -- the neighbours of a vertex of chunks that were made
  pub made_lists : (es : List (ℕ × List (ℕ × ℤ))) (cs : List (Arc Chunk Z)) → AreChunksOf es 0 cs → (u : ℕ) → u / 4096 < length cs → neighbours_of u (lists_in 0 (slots_in cs)) ≡ neighbours_of u es
  made_lists es [] made u lt = absurd (omega (arith, lt))
  made_lists es (c ∷ cs) made u lt =
      in_chunk u (c ∷ cs) c None (chunks_made es 0 (c ∷ cs) made) lt ∙ (made_at es 0 (c ∷ cs) (u / 4096) c made lt).lists u (omega arith)
