-- Walks over vertices in order.
use Rattle.std.proofs.Common.{◌≡◌, ◌≢◌, ℕ, ℤ, ◌+◌, ◌<◌, ◌≤◌, inl, inr, List, [], ◌∷◌, length, refl, ap, arith}
use Rattle.std.proofs.lemmas.Bool.{cases_eq, cases_lt, ne_eqb, eq-eqb, lt-ltb, le-ltb}
use Rattle.ascending_lists.specs.Maps.{Rises}
use Rattle.ascending_lists.proofs.MapOrder.{rises_room}
use Rattle.pages.specs.Vertices.{neighbours_of}
use Rattle.vertex_blocks.specs.Blocks.{AreNeighbourLists}
use Rattle.vertex_blocks.specs.inside.Blocks.{vertices_from}
use Rattle.flat_snapshot.proofs.Numbered.{none_below}

-- all are at their least bound or above it
pub all_from : (u a h : ℕ) (es : List (ℕ × List (ℕ × ℤ))) → Rises a h es → u ≤ a → vertices_from u es ≡ es
all_from u a h [] s le = refl
all_from u a h (e ∷ es) s le = rw (le-ltb e.0 u (omega (arith, s.0))) refl

pub whole_from : (es : List (ℕ × List (ℕ × ℤ))) → vertices_from 0 es ≡ es
whole_from [] = refl
whole_from (e ∷ es) = rw (le-ltb e.0 0 (omega arith)) refl

-- none is left after the end
pub none_from : (u a h : ℕ) (es : List (ℕ × List (ℕ × ℤ))) → Rises a h es → h ≤ u → vertices_from u es ≡ []
none_from u a h [] s le = refl
none_from u a h (e ∷ es) s le =
    let lt : e.0 < u = omega (arith, rises_room (e.0 + 1) h es s.1) in
    rw (lt-ltb e.0 u lt) (none_from u (e.0 + 1) h es s.1 le)

-- vertices without neighbours are passed over
pub passed : (u v a h : ℕ) (es : List (ℕ × List (ℕ × ℤ))) → Rises a h es → AreNeighbourLists es → u ≤ v → ((w : ℕ) → u ≤ w → w < v → neighbours_of w es ≡ []) → vertices_from u es ≡ vertices_from v es
passed u v a h [] s are le none = refl
passed u v a h (e ∷ es) s are le none = elim (cases_lt e.0 u) [
  | inl lt ↦
      let rest : (w : ℕ) → u ≤ w → w < v → neighbours_of w es ≡ [] = λ w from to. let other : e.0 ≢ w = omega arith in rw (ne_eqb e.0 w other) at (none w from to) in
      rw (lt-ltb e.0 u lt, lt-ltb e.0 v (omega arith)) (passed u v (e.0 + 1) h es s.1 are.1 le rest)
  | inr ge ↦ elim (cases_lt e.0 v) [
    | inl lt ↦
        let nothing : e.1 ≡ [] = rw (eq-eqb e.0 e.0 refl) at (none e.0 ge lt) in
        absurd (omega (arith, are.0.some, ap length nothing))
    | inr past ↦ rw (le-ltb e.0 u ge, le-ltb e.0 v past) refl
  ]
]

-- a vertex that has neighbours is the next
pub next_at : (u a h : ℕ) (es : List (ℕ × List (ℕ × ℤ))) → Rises a h es → 0 < length (neighbours_of u es) → vertices_from u es ≡ (u, neighbours_of u es) ∷ vertices_from (u + 1) es
next_at u a h [] s some = absurd (omega (arith, some))
next_at u a h (e ∷ es) s some = elim (cases_lt e.0 u) [
  | inl lt ↦
      let other : e.0 ≢ u = omega arith in
      let rest : 0 < length (neighbours_of u es) = rw (ne_eqb e.0 u other) at some in
      rw (lt-ltb e.0 u lt, lt-ltb e.0 (u + 1) (omega arith), ne_eqb e.0 u other) (next_at u (e.0 + 1) h es s.1 rest)
  | inr ge ↦ elim (cases_eq e.0 u) [
    | inl at ↦
        rw (le-ltb e.0 u ge, lt-ltb e.0 (u + 1) (omega arith), eq-eqb e.0 u at, all_from (u + 1) (e.0 + 1) h es s.1 (omega arith)) (ap (λ k. (k, e.1) ∷ es) at)
    | inr other ↦
        let nothing = none_below u (e.0 + 1) h es s.1 (omega arith) in
        absurd (omega (arith, rw (ne_eqb e.0 u other, nothing) at some))
  ]
]
