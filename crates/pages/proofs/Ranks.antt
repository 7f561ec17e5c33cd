-- Vertices in order, and how many are below a vertex.
use Rattle.std.proofs.Common.{◌≡◌, ◌≢◌, ℕ, suc, ◌+◌, ◌*◌, ◌/◌, ◌%◌, ◌^◌, ◌<◌, ◌≤◌, bit_or, inl, inr, List, [], ◌∷◌, ◌++◌, length, get_or, refl, sym, ◌∙◌, ap, arith, add-one, ℤ}
use Rattle.std.specs.Int.RustNames.{count_ones}
use Rattle.std.proofs.lemmas.Bool.{cases_lt, cases_eq, lt-ltb, le-ltb, ne_eqb, eq-eqb}
use Rattle.std.proofs.lemmas.Nat.{pow_pos}
use Rattle.std.proofs.Math.Nat.{pow-le-pow_right}
use Rattle.ascending_lists.specs.Maps.{Rises}
use Rattle.pages.specs.Vertices.{neighbours_of, count_below}
use Rattle.pages.specs.inside.Index.{IsIndex}
use Rattle.ascending_lists.proofs.MapOrder.{rises_room, rises_append, rises_back}
use Rattle.pages.proofs.Bits.{ones_zero, ones_more, mark_is, mark_above, mark_counted, mark_small}

module _ {V : Type 0} where
  pub below_here : (u : ℕ) (e : ℕ × V) (es : List (ℕ × V)) → e.0 < u → count_below u (e ∷ es) ≡ count_below u es + 1
  below_here u e es lt = rw (lt-ltb e.0 u lt) (omega arith)

  pub below_not : (u : ℕ) (e : ℕ × V) (es : List (ℕ × V)) → u ≤ e.0 → count_below u (e ∷ es) ≡ count_below u es
  below_not u e es le = rw (le-ltb e.0 u le) (omega arith)

  -- none is below the first, and all are below the end
  pub below_first : (u a h : ℕ) (es : List (ℕ × V)) → Rises a h es → u ≤ a → count_below u es ≡ 0
  below_first u a h [] s le = refl
  below_first u a h (e ∷ es) s le = below_not u e es (omega (arith, s.0)) ∙ below_first u (e.0 + 1) h es s.1 (omega (arith, s.0))

  pub below_end : (u a h : ℕ) (es : List (ℕ × V)) → Rises a h es → h ≤ u → count_below u es ≡ length es
  below_end u a h [] s le = refl
  below_end u a h (e ∷ es) s le = below_here u e es (omega (arith, rises_room (e.0 + 1) h es s.1)) ∙ omega (arith, below_end u (e.0 + 1) h es s.1 le)

  -- one more after the others
  pub below_push_here : (u : ℕ) (es : List (ℕ × V)) (e : ℕ × V) → e.0 < u → count_below u (es ++ e ∷ []) ≡ count_below u es + 1
  below_push_here u [] e lt = below_here u e [] lt
  below_push_here u (x ∷ es) e lt = omega (arith, below_push_here u es e lt)

  pub below_push_not : (u : ℕ) (es : List (ℕ × V)) (e : ℕ × V) → u ≤ e.0 → count_below u (es ++ e ∷ []) ≡ count_below u es
  below_push_not u [] e le = below_not u e [] le
  below_push_not u (x ∷ es) e le = omega (arith, below_push_not u es e le)

-- there is no list of a vertex below all others
pub none_below : (u a h : ℕ) (es : List (ℕ × List (ℕ × ℤ))) → Rises a h es → u < a → neighbours_of u es ≡ []
none_below u a h [] s lt = refl
none_below u a h (e ∷ es) s lt =
    let other : e.0 ≢ u = omega (arith, s.0) in
    rw (ne_eqb e.0 u other) (none_below u (e.0 + 1) h es s.1 (omega (arith, s.0)))

-- where no vertex more is below the next one, the vertex has no list
pub absent : (u a h : ℕ) (es : List (ℕ × List (ℕ × ℤ))) → Rises a h es → count_below (u + 1) es ≡ count_below u es → neighbours_of u es ≡ []
absent u a h [] s same = refl
absent u a h (e ∷ es) s same = elim (cases_lt e.0 u) [
  | inl lt ↦
      let other : e.0 ≢ u = omega arith in
      let rest : count_below (u + 1) es ≡ count_below u es = omega (arith, same, below_here (u + 1) e es (omega arith), below_here u e es lt) in
      rw (ne_eqb e.0 u other) (absent u (e.0 + 1) h es s.1 rest)
  | inr ge ↦ elim (cases_eq e.0 u) [
    | inl at ↦
        absurd (omega (arith, same, below_here (u + 1) e es (omega arith), below_not u e es ge, below_first u (e.0 + 1) h es s.1 (omega arith), below_first (u + 1) (e.0 + 1) h es s.1 (omega arith)))
    | inr other ↦ rw (ne_eqb e.0 u other) (none_below u (e.0 + 1) h es s.1 (omega arith))
  ]
]

-- where one more is, the list of the vertex stands at that index
pub present : (u a h : ℕ) (es : List (ℕ × List (ℕ × ℤ))) → Rises a h es → count_below (u + 1) es ≡ count_below u es + 1 → (count_below u es < length es)
    × ((get_or es (count_below u es) (0, [])).1 ≡ neighbours_of u es)
present u a h [] s more = absurd (omega arith)
present u a h (e ∷ es) s more = elim (cases_lt e.0 u) [
  | inl lt ↦
      let other : e.0 ≢ u = omega arith in
      let here = below_here u e es lt in
      let rest : count_below (u + 1) es ≡ count_below u es + 1 = omega (arith, more, below_here (u + 1) e es (omega arith), here) in
      let found = present u (e.0 + 1) h es s.1 rest in
      let position : count_below u (e ∷ es) ≡ suc (count_below u es) = here ∙ add-one (count_below u es) in
      (omega (arith, found.0, here), rw (ne_eqb e.0 u other) (ap (λ i. (get_or (e ∷ es) i (0, [])).1) position ∙ found.1))
  | inr ge ↦
      let none : count_below u es ≡ 0 = below_first u (e.0 + 1) h es s.1 (omega arith) in
      let position : count_below u (e ∷ es) ≡ 0 = below_not u e es ge ∙ none in
      elim (cases_eq e.0 u) [
        | inl at ↦ (omega (arith, position), rw (eq-eqb e.0 u at) (ap (λ i. (get_or (e ∷ es) i (0, [])).1) position))
        | inr other ↦
            absurd (omega (arith, more, position, below_not (u + 1) e es (omega arith), below_first (u + 1) (e.0 + 1) h es s.1 (omega arith)))
      ]
]

module _ (bits : ℕ) (es : List (ℕ × List (ℕ × ℤ))) (ok : IsIndex bits es) (v : ℕ) (lt : v < 64) where
  step : count_below (v + 1) es ≡ count_below v es + bits / 2 ^ v % 2
  step = ok.marks (v + 1) (omega arith) ∙ omega (arith, ones_more bits v, ok.marks v (omega arith))

  -- a vertex whose bit is not set has no list
  pub unmarked : bits / 2 ^ v % 2 ≡ 0 → neighbours_of v es ≡ []
  unmarked none = absent v 0 64 es ok.map (omega (arith, step, none))

  -- the list of one whose bit is set stands at its rank
  pub ranked : (r : ℕ) → (bits / 2 ^ v % 2 ≡ 1) × (r ≡ count_ones (bits % 2 ^ v)) → (r < length es) × ((get_or es r (0, [])).1 ≡ neighbours_of v es)
  ranked r h =
      let found = present v 0 64 es ok.map (omega (arith, step, h.0)) in
      let is : r ≡ count_below v es = h.1 ∙ sym (ok.marks v (omega arith)) in
      (omega (arith, is, found.0), ap (λ i. (get_or es i (0, [])).1) is ∙ found.1)

-- the bits of no vertex
pub index_none : {V : Type 0} → IsIndex {V = V} 0 []
index_none = record {
  map = omega arith;
  marks = λ j le. sym (ap count_ones (none j) ∙ ones_zero);
  small = λ top s. pow_pos top;
}
  where
    none : (j : ℕ) → 0 % 2 ^ j ≡ 0
    none j = omega arith

-- a vertex after the others, and its bit
module _ {V : Type 0} (bits : ℕ) (es : List (ℕ × V)) (ok : IsIndex bits es) (v : ℕ) (x : V) (rises : Rises 0 v es) (lt : v < 64) where
  abbrev all : List (ℕ × V)
  all = es ++ (v, x) ∷ []

  bits_are : bit_or bits (1 * 2 ^ v % 2 ^ 64) ≡ 1 * 2 ^ v + bits
  bits_are = mark_is bits v (ok.small v rises) lt

  marks_with : (j : ℕ) → j ≤ 64 → count_below j all ≡ count_ones ((1 * 2 ^ v + bits) % 2 ^ j)
  marks_with j le = elim (cases_lt v j) [
    | inl after ↦
        omega (
          arith,
          below_push_here j es (v, x) after,
          below_end j 0 v es rises (omega arith),
          below_end v 0 v es rises (omega arith),
          ok.marks v (omega arith),
          mark_counted bits v j (ok.small v rises) after,
        )
    | inr before ↦ below_push_not j es (v, x) before ∙ ok.marks j le ∙ ap count_ones (sym (mark_above bits v j before))
  ]

  pub index_push : IsIndex (bit_or bits (1 * 2 ^ v % 2 ^ 64)) all
  index_push = record {
    map = rises_append 0 v 64 es ((v, x) ∷ []) rises (omega arith, omega arith);
    marks = λ j le. marks_with j le ∙ ap (λ b. count_ones (b % 2 ^ j)) (sym bits_are);
    small = λ top s.
        let end : v + 1 ≤ top = (rises_back 0 top es ((v, x) ∷ []) s).1 in
        let wide : 2 ^ (v + 1) ≤ 2 ^ top = pow-le-pow_right (omega arith) (omega arith) in
        omega (arith, bits_are, mark_small bits v (ok.small v rises), wide);
  }
