-- The vertices of blocks and their lists.
use Rattle.std.proofs.Common.{◌≡◌, ℕ, ℤ, ◌+◌, ◌<◌, inl, inr, Option, Some, None, List, [], ◌∷◌, ◌++◌, length, refl, subst, arith}
use Rattle.std.proofs.lemmas.Bool.{cases_eq, ne_eqb, eq-eqb}
use Rattle.ascending_lists.specs.Maps as maps
use Rattle.ascending_lists.specs.Maps.{lookup}
use Rattle.ascending_lists.proofs.MapOrder.{lookup_below}
use Rattle.ascending_lists.specs.Ascending.{AscendsFrom}
use Rattle.std.specs.Map.{keys_of}
use Rattle.pages.specs.Vertices.{neighbours_of}
use Rattle.vertex_blocks.specs.Blocks.{Block, IsBlock, AreNeighbourLists, numbered_vertices, lists_of, AreBlocks}

-- their lists are lists of neighbours
numbered_lists : (k : ℕ) (es : Block) (rest : List (ℕ × List (ℕ × ℤ))) → AreNeighbourLists es → AreNeighbourLists rest → AreNeighbourLists (numbered_vertices k es ++ rest)
numbered_lists k [] rest s t = t
numbered_lists k (e ∷ es) rest s t = (s.0, numbered_lists k es rest s.1 t)

pub neighbour_lists : (bs : List (ℕ × Block)) → AreBlocks bs → AreNeighbourLists (lists_of bs)
neighbour_lists [] ok = tt
neighbour_lists (b ∷ bs) ok = numbered_lists b.0 b.1 (lists_of bs) ok.0.lists (neighbour_lists bs ok.2)

-- the neighbours of each vertex ascend
pub neighbours_ascend : (u : ℕ) (es : List (ℕ × List (ℕ × ℤ))) → AreNeighbourLists es → AscendsFrom 0 (keys_of (neighbours_of u es))
neighbours_ascend u [] s = tt
neighbours_ascend u (e ∷ es) s = elim (cases_eq e.0 u) [
  | inl at ↦ rw (eq-eqb e.0 u at) s.0.ascends
  | inr other ↦ rw (ne_eqb e.0 u other) (neighbours_ascend u es s.1)
]

-- each block that stands at a number is one with a vertex
abbrev pub AreAt : List (ℕ × Block) → Type 0
AreAt bs = (k : ℕ) (b : Block) → lookup k bs ≡ Some b → IsBlock b × (0 < length b)

some_block : (b c : Block) → Some b ≡ Some c → b ≡ c
some_block b c e = cc

pub blocks_at : (bs : List (ℕ × Block)) → AreBlocks bs → AreAt bs
blocks_at [] ok k b is = absurd (cc)
blocks_at (c ∷ bs) ok k b is = elim (cases_eq c.0 k) [
  | inl at ↦
      let same : c.1 ≡ b = some_block c.1 b (rw (eq-eqb c.0 k at) at is) in
      subst (λ (x : Block). IsBlock x × (0 < length x)) same (ok.0, ok.1)
  | inr other ↦ blocks_at bs ok.2 k b (rw (ne_eqb c.0 k other) at is)
]

-- an option is not both
pub some_none : {A : Type 0} (o : Option A) (x : A) → o ≡ Some x → o ≡ None → ⊥
some_none o x e f = cc

pub are_blocks : (low high : ℕ) (bs : List (ℕ × Block)) → maps.Rises low high bs → AreAt bs → AreBlocks bs
are_blocks low high [] s at = tt
are_blocks low high (b ∷ bs) s at =
    let here = at b.0 b.1 (rw (eq-eqb b.0 b.0 refl) refl) in
    (here.0, here.1, are_blocks (b.0 + 1) high bs s.1 later)
  where
    later : AreAt bs
    later k c is = elim (cases_eq b.0 k) [
      | inl same ↦ absurd (some_none (lookup k bs) c is (lookup_below (b.0 + 1) high bs k s.1 (omega arith)))
      | inr other ↦ at k c (rw (ne_eqb b.0 k other) is)
    ]
