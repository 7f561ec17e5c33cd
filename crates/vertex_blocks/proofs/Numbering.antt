-- Vertices of blocks by their numbers in a graph.
use Rattle.std.proofs.Common.{◌≡◌, ℕ, ◌+◌, ◌*◌, ◌/◌, ◌%◌, ◌<◌, ◌≤◌, inl, inr, List, [], ◌∷◌, refl, sym, ◌∙◌, ap, arith}
use Rattle.std.proofs.lemmas.Bool.{cases_eq, cases_lt, eq-eqb, ne_eqb}
use Rattle.ascending_lists.specs.Maps.{Rises, lookup}
use Rattle.pages.specs.Vertices.{neighbours_of}
use Rattle.ascending_lists.proofs.MapOrder.{rises_from, rises_append, lookup_below}
use Rattle.pages.proofs.Ranks.{none_below}
use Rattle.pages.proofs.Building.{of_left, of_right}
use Rattle.vertex_blocks.specs.Blocks.{Block, AreBlocks, numbered_vertices, lists_of, vertices_at}

-- the vertices of one block rise within its range
pub numbered_rises : (k a h : ℕ) (es : Block) → Rises a h es → Rises (64 * k + a) (64 * k + h) (numbered_vertices k es)
numbered_rises k a h [] s = omega (arith, s)
numbered_rises k a h (e ∷ es) s = (omega (arith, s.0), rises_from (64 * k + e.0 + 1) (64 * k + (e.0 + 1)) (64 * k + h) (numbered_vertices k es) (omega arith) (numbered_rises k (e.0 + 1) h es s.1))

-- and keep their lists
numbered_list : (k v : ℕ) (es : Block) → 64 * k ≤ v → v < 64 * k + 64 → neighbours_of v (numbered_vertices k es) ≡ neighbours_of (v % 64) es
numbered_list k v [] le lt = refl
numbered_list k v (e ∷ es) le lt = elim (cases_eq e.0 (v % 64)) [
  | inl at ↦ rw (eq-eqb e.0 (v % 64) at, eq-eqb (64 * k + e.0) v (omega (arith, at))) refl
  | inr other ↦ rw (ne_eqb e.0 (v % 64) other, ne_eqb (64 * k + e.0) v (λ is. other (omega (arith, is)))) (numbered_list k v es le lt)
]

pub lists_rise : (a top : ℕ) (bs : List (ℕ × Block)) → Rises a top bs → AreBlocks bs → Rises (64 * a) (64 * top) (lists_of bs)
lists_rise a top [] s ok = omega (arith, s)
lists_rise a top (b ∷ bs) s ok =
    let here : Rises (64 * b.0 + 0) (64 * b.0 + 64) (numbered_vertices b.0 b.1) = numbered_rises b.0 0 64 b.1 ok.0.map in
    let rest : Rises (64 * (b.0 + 1)) (64 * top) (lists_of bs) = lists_rise (b.0 + 1) top bs s.1 ok.2 in
    rises_append (64 * a) (64 * b.0 + 64) (64 * top) (numbered_vertices b.0 b.1) (lists_of bs)
    (rises_from (64 * a) (64 * b.0 + 0) (64 * b.0 + 64) (numbered_vertices b.0 b.1) (omega (arith, s.0)) here)
    (rises_from (64 * b.0 + 64) (64 * (b.0 + 1)) (64 * top) (lists_of bs) (omega arith) rest)

pub list_in_blocks : (a top : ℕ) (bs : List (ℕ × Block)) (v : ℕ) → Rises a top bs → AreBlocks bs → neighbours_of v (lists_of bs) ≡ neighbours_of (v % 64) (vertices_at (lookup (v / 64) bs))
list_in_blocks a top [] v s ok = refl
list_in_blocks a top (b ∷ bs) v s ok =
    let here : Rises (64 * b.0 + 0) (64 * b.0 + 64) (numbered_vertices b.0 b.1) = numbered_rises b.0 0 64 b.1 ok.0.map in
    let rest : Rises (64 * (b.0 + 1)) (64 * top) (lists_of bs) = lists_rise (b.0 + 1) top bs s.1 ok.2 in
    elim (cases_eq b.0 (v / 64)) [
      | inl at ↦
          rw (eq-eqb b.0 (v / 64) at)
          (of_left v (numbered_vertices b.0 b.1) (lists_of bs) (none_below v (64 * (b.0 + 1)) (64 * top) (lists_of bs) rest (omega (arith, at)))
          ∙ numbered_list b.0 v b.1 (omega (arith, at)) (omega (arith, at)))
      | inr other ↦
          rw (ne_eqb b.0 (v / 64) other) (elim (cases_lt v (64 * b.0)) [
            | inl before ↦
                of_left v (numbered_vertices b.0 b.1) (lists_of bs) (none_below v (64 * (b.0 + 1)) (64 * top) (lists_of bs) rest (omega arith))
                ∙ none_below v (64 * b.0 + 0) (64 * b.0 + 64) (numbered_vertices b.0 b.1) here (omega arith)
                ∙ ap (λ o. neighbours_of (v % 64) (vertices_at o)) (sym (lookup_below (b.0 + 1) top bs (v / 64) s.1 (omega (arith, before))))
            | inr after ↦
                of_right v (64 * b.0 + 0) (64 * b.0 + 64) (numbered_vertices b.0 b.1) (lists_of bs) here (omega (arith, other, after))
                ∙ list_in_blocks (b.0 + 1) top bs v s.1 ok.2
          ])
    ]
