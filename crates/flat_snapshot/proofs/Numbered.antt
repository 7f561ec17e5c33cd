-- Vertices of blocks by their numbers in a graph.
use Rattle.std.proofs.Common.{◌≡◌, ◌≢◌, ℕ, ℤ, zero, suc, ◌+◌, ◌*◌, ◌/◌, ◌%◌, ◌<◌, ◌≤◌, inl, inr, Option, List, [], ◌∷◌, ◌++◌, length, get_or, refl, sym, ◌∙◌, ap, subst, arith}
use Rattle.std.proofs.lemmas.Bool.{cases_eq, ne_eqb, eq-eqb}
use Rattle.std.proofs.lemmas.List.{append_assoc, append-nil}
use Rattle.ascending_lists.specs.Maps.{Rises}
use Rattle.ascending_lists.proofs.MapOrder.{rises_append, rises_to, rises_room}
use Rattle.pages.specs.Vertices.{neighbours_of}
use Rattle.vertex_blocks.specs.Blocks.{Block, IsBlock, AreNeighbourLists, vertices_at, numbered_vertices}
use Rattle.tree_batch.specs.VertexBlocks.{HaveFew}
use Rattle.flat_snapshot.specs.inside.Lists.{lists_in, AreBlocks}

-- the vertices of a block rise
pub numbered_rises : (k low high : ℕ) (es : Block) → Rises low high es → Rises (64 * k + low) (64 * k + high) (numbered_vertices k es)
numbered_rises k low high [] s = omega (arith, s)
numbered_rises k low high (e ∷ es) s =
    (omega (arith, s.0), subst (λ a. Rises a (64 * k + high) (numbered_vertices k es)) (omega arith) (numbered_rises k (e.0 + 1) high es s.1))

-- the vertices of blocks in places rise
pub rises_in : (k : ℕ) (bs : List (Option Block)) → AreBlocks bs → Rises (64 * k) (64 * (k + length bs)) (lists_in k bs)
rises_in k [] are = omega arith
rises_in k (b ∷ bs) are =
    let front = subst (λ a. Rises a (64 * k + 64) (numbered_vertices k (vertices_at b))) (omega arith) (numbered_rises k 0 64 (vertices_at b) are.0.map) in
    let back = rises_in (k + 1) bs are.1 in
    rises_to (64 * k) (64 * (k + 1 + length bs)) (64 * (k + length (b ∷ bs))) (lists_in k (b ∷ bs))
    (rises_append (64 * k) (64 * k + 64) (64 * (k + 1 + length bs)) (numbered_vertices k (vertices_at b)) (lists_in (k + 1) bs) front
    (subst (λ a. Rises a (64 * (k + 1 + length bs)) (lists_in (k + 1) bs)) (omega arith) back))
    (omega arith)

-- a vertex below all others has no list
pub none_below : (u a h : ℕ) (es : List (ℕ × List (ℕ × ℤ))) → Rises a h es → u < a → neighbours_of u es ≡ []
none_below u a h [] s lt = refl
none_below u a h (e ∷ es) s lt =
    let other : e.0 ≢ u = omega (arith, s.0) in
    rw (ne_eqb e.0 u other) (none_below u (e.0 + 1) h es s.1 (omega (arith, s.0)))

-- what is after lists above a vertex makes no difference to it, nor does what is before lists below it
above_all : (u a h : ℕ) (l r : List (ℕ × List (ℕ × ℤ))) → Rises a h r → u < a → neighbours_of u (l ++ r) ≡ neighbours_of u l
above_all u a h [] r s lt = none_below u a h r s lt
above_all u a h (e ∷ l) r s lt = elim (cases_eq e.0 u) [
  | inl at ↦ rw (eq-eqb e.0 u at) refl
  | inr other ↦ rw (ne_eqb e.0 u other) (above_all u a h l r s lt)
]

below_all : (u a h : ℕ) (l r : List (ℕ × List (ℕ × ℤ))) → Rises a h l → h ≤ u → neighbours_of u (l ++ r) ≡ neighbours_of u r
below_all u a h [] r s le = refl
below_all u a h (e ∷ l) r s le =
    let other : e.0 ≢ u = omega (arith, rises_room (e.0 + 1) h l s.1) in
    rw (ne_eqb e.0 u other) (below_all u (e.0 + 1) h l r s.1 le)

-- the list of a vertex of a block
numbered_list : (k u : ℕ) (es : Block) → neighbours_of (64 * k + u) (numbered_vertices k es) ≡ neighbours_of u es
numbered_list k u [] = refl
numbered_list k u (e ∷ es) = elim (cases_eq e.0 u) [
  | inl at ↦ rw (eq-eqb e.0 u at, eq-eqb (64 * k + e.0) (64 * k + u) (omega arith)) refl
  | inr other ↦
      let apart : 64 * k + e.0 ≢ 64 * k + u = omega arith in
      rw (ne_eqb e.0 u other, ne_eqb (64 * k + e.0) (64 * k + u) apart) (numbered_list k u es)
]

-- the list of a vertex stands in its block
pub list_in : (v k i : ℕ) (bs : List (Option Block)) (d : Option Block) → AreBlocks bs → v / 64 ≡ k + i → i < length bs
    → neighbours_of v (lists_in k bs) ≡ neighbours_of (v % 64) (vertices_at (get_or bs i d))
list_in v k i [] d are at lt = absurd (omega (arith, lt))
list_in v k zero (b ∷ bs) d are at lt =
    let is : 64 * k + v % 64 ≡ v = omega arith in
    above_all v (64 * (k + 1)) (64 * (k + 1 + length bs)) (numbered_vertices k (vertices_at b)) (lists_in (k + 1) bs) (rises_in (k + 1) bs are.1) (omega arith)
    ∙ ap (λ u. neighbours_of u (numbered_vertices k (vertices_at b))) (sym is) ∙ numbered_list k (v % 64) (vertices_at b)
list_in v k (suc i) (b ∷ bs) d are at lt =
    let front = subst (λ a. Rises a (64 * k + 64) (numbered_vertices k (vertices_at b))) (omega arith) (numbered_rises k 0 64 (vertices_at b) are.0.map) in
    below_all v (64 * k) (64 * k + 64) (numbered_vertices k (vertices_at b)) (lists_in (k + 1) bs) front (omega arith)
    ∙ list_in v (k + 1) i bs d are.1 (omega (arith, at)) (omega (arith, lt))

-- a vertex after all blocks has none
pub none_above : (u a h : ℕ) (es : List (ℕ × List (ℕ × ℤ))) → Rises a h es → h ≤ u → neighbours_of u es ≡ []
none_above u a h [] s le = refl
none_above u a h (e ∷ es) s le =
    let other : e.0 ≢ u = omega (arith, rises_room (e.0 + 1) h es s.1) in
    rw (ne_eqb e.0 u other) (none_above u (e.0 + 1) h es s.1 le)

-- one more block after the others
pub lists_more : (k : ℕ) (bs : List (Option Block)) (b : Option Block) → lists_in k (bs ++ b ∷ []) ≡ lists_in k bs ++ numbered_vertices (k + length bs) (vertices_at b)
lists_more k [] b = nil_after ∙ ap (λ j. numbered_vertices j (vertices_at b)) (omega arith)
  where
    nil_after : numbered_vertices k (vertices_at b) ++ [] ≡ numbered_vertices k (vertices_at b)
    nil_after = append-nil (numbered_vertices k (vertices_at b))
lists_more k (x ∷ bs) b =
    ap (λ r. numbered_vertices k (vertices_at x) ++ r) (lists_more (k + 1) bs b ∙ ap (λ j. lists_in (k + 1) bs ++ numbered_vertices j (vertices_at b)) (omega arith))
    ∙ sym (append_assoc (numbered_vertices k (vertices_at x)) (lists_in (k + 1) bs) (numbered_vertices (k + length (x ∷ bs)) (vertices_at b)))

pub blocks_more : (bs : List (Option Block)) (b : Option Block) → AreBlocks bs → IsBlock (vertices_at b) → AreBlocks (bs ++ b ∷ [])
blocks_more [] b are is = (is, tt)
blocks_more (x ∷ bs) b are is = (are.0, blocks_more bs b are.1 is)

-- each vertex of blocks has neighbours
pub numbered_lists : (k : ℕ) (es : Block) (rest : List (ℕ × List (ℕ × ℤ))) → AreNeighbourLists es → AreNeighbourLists rest → AreNeighbourLists (numbered_vertices k es ++ rest)
numbered_lists k [] rest are more = more
numbered_lists k (e ∷ es) rest are more = (are.0, numbered_lists k es rest are.1 more)

pub lists_in_are : (k : ℕ) (bs : List (Option Block)) → AreBlocks bs → AreNeighbourLists (lists_in k bs)
lists_in_are k [] are = tt
lists_in_are k (b ∷ bs) are = numbered_lists k (vertices_at b) (lists_in (k + 1) bs) are.0.lists (lists_in_are (k + 1) bs are.1)

-- there are few in the list of a vertex where there are few in each
pub few_at : (u : ℕ) (es : List (ℕ × List (ℕ × ℤ))) → HaveFew es → length (neighbours_of u es) ≤ 16777216
few_at u [] few = omega arith
few_at u (e ∷ es) few = elim (cases_eq e.0 u) [
  | inl at ↦ rw (eq-eqb e.0 u at) few.0
  | inr other ↦ rw (ne_eqb e.0 u other) (few_at u es few.1)
]

-- a slot without a block
pub none_is_a_block : IsBlock []
none_is_a_block = record { map = omega arith; lists = tt }
