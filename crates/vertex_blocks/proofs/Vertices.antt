-- The vertices of a block from a number on.
use Rattle.std.proofs.Common.{◌≡◌, ◌≢◌, ℕ, ◌+◌, ◌<◌, ◌≤◌, inl, inr, [], ◌∷◌, length, refl, sym, ◌∙◌, ap, arith}
use Rattle.std.proofs.lemmas.Bool.{cases_lt, cases_eq, lt-ltb, le-ltb, eq-eqb, ne_eqb}
use Rattle.ascending_lists.specs.Maps.{Rises}
use Rattle.pages.specs.Vertices.{neighbours_of}
use Rattle.ascending_lists.proofs.MapOrder.{rises_room}
use Rattle.pages.proofs.Ranks.{none_below}
use Rattle.vertex_blocks.specs.Blocks.{Block, AreNeighbourLists}
use Rattle.vertex_blocks.specs.inside.Blocks.{vertices_from}

pub from_first : (es : Block) → vertices_from 0 es ≡ es
from_first [] = refl
from_first (e ∷ es) = rw (le-ltb e.0 0 (omega arith)) refl

-- none is from the end on
pub from_end : (a h u : ℕ) (es : Block) → Rises a h es → h ≤ u → vertices_from u es ≡ []
from_end a h u [] s le = refl
from_end a h u (e ∷ es) s le = rw (lt-ltb e.0 u (omega (arith, rises_room (e.0 + 1) h es s.1))) (from_end (e.0 + 1) h u es s.1 le)

-- all of those that are above it
from_above : (a h u : ℕ) (es : Block) → Rises a h es → u ≤ a → vertices_from u es ≡ es
from_above a h u [] s le = refl
from_above a h u (e ∷ es) s le = rw (le-ltb e.0 u (omega (arith, s.0))) refl

-- a vertex that has no list is passed
pub from_none : (a h u : ℕ) (es : Block) → Rises a h es → AreNeighbourLists es → neighbours_of u es ≡ [] → vertices_from u es ≡ vertices_from (u + 1) es
from_none a h u [] s ok none = refl
from_none a h u (e ∷ es) s ok none = elim (cases_lt e.0 u) [
  | inl lt ↦
      let rest : neighbours_of u es ≡ [] = rw (ne_eqb e.0 u (omega arith)) at none in
      rw (lt-ltb e.0 u lt, lt-ltb e.0 (u + 1) (omega arith)) (from_none (e.0 + 1) h u es s.1 ok.1 rest)
  | inr ge ↦ elim (cases_eq e.0 u) [
    | inl at ↦
        let empty : e.1 ≡ [] = rw (eq-eqb e.0 u at) at none in
        absurd (omega (arith, ok.0.some, ap length empty))
    | inr other ↦ rw (le-ltb e.0 u ge, le-ltb e.0 (u + 1) (omega (arith, ge, other))) refl
  ]
]

-- and one that has some comes first
pub from_some : (a h u : ℕ) (es : Block) → Rises a h es → 0 < length (neighbours_of u es) → vertices_from u es ≡ (u, neighbours_of u es) ∷ vertices_from (u + 1) es
from_some a h u [] s some = absurd (omega arith)
from_some a h u (e ∷ es) s some = elim (cases_lt e.0 u) [
  | inl lt ↦
      let other : e.0 ≢ u = omega arith in
      let rest : 0 < length (neighbours_of u es) = rw (ne_eqb e.0 u other) at some in
      rw (ne_eqb e.0 u other, lt-ltb e.0 u lt, lt-ltb e.0 (u + 1) (omega arith)) (from_some (e.0 + 1) h u es s.1 rest)
  | inr ge ↦ elim (cases_eq e.0 u) [
    | inl at ↦
        rw (eq-eqb e.0 u at, le-ltb e.0 u ge, lt-ltb e.0 (u + 1) (omega (arith, at)))
        (ap (λ v. (v, e.1) ∷ es) at ∙ ap (λ ds. (u, e.1) ∷ ds) (sym (from_above (e.0 + 1) h (u + 1) es s.1 (omega (arith, at)))))
    | inr other ↦
        let rest : 0 < length (neighbours_of u es) = rw (ne_eqb e.0 u other) at some in
        absurd (omega (arith, rest, ap length (none_below u (e.0 + 1) h es s.1 (omega (arith, ge)))))
  ]
]
