-- The edges of a block of 64 vertices, as the sum over its vertices.
use Rattle.std.proofs.Common.{◌≡◌, ℕ, zero, suc, ℤ, ◌+◌, ◌*◌, ◌/◌, ◌%◌, ◌≤◌, inl, inr, Bool, cond, List, [], ◌∷◌, length, refl, sym, ap, ◌∙◌, subst, arith}
use Rattle.std.specs.List.{range_with_len, sum_by}
use Rattle.std.proofs.lemmas.Bool.{cases_eq, eq-eqb, ne_eqb}
use Rattle.std.proofs.lemmas.List.Sums.{sum_by-cons}
use Rattle.ascending_lists.specs.Maps.{Rises}
use Rattle.ascending_lists.proofs.MapOrder.{rises_room}
use Rattle.pages.specs.Vertices.{neighbours_of}
use Rattle.pages.proofs.Ranks.{none_below}
use Rattle.vertex_blocks.specs.Blocks.{Block, IsBlock, edge_total}
use Rattle.crew.proofs.DegreeRows.{range_none, range_same, range_shifted}

-- the lists of a block have all its edges
front_total : (a n : ℕ) (b : Block) → Rises a (a + n) b → sum_by (λ u. length (neighbours_of u b)) (range_with_len a n) ≡ edge_total b
front_total a zero [] s = refl
front_total a zero (e ∷ es) s = let room = rises_room (e.0 + 1) (a + 0) es s.1 in let low = s.0 in absurd (omega (arith, low, room))
front_total a (suc n) [] s = range_none (λ u. length (neighbours_of u [])) a (suc n) (λ v l. refl)
front_total a (suc n) (e ∷ es) s =
    let whole = sum_by-cons (λ u. length (neighbours_of u (e ∷ es))) a (range_with_len (a + 1) n) in
    let top : a + suc n ≡ a + 1 + n = omega arith in
    let low = s.0 in
    let above : Rises (e.0 + 1) (a + 1 + n) es = subst (λ h. Rises (e.0 + 1) h es) top s.1 in
    elim (cases_eq e.0 a) [
      | inl at ↦
          let here : length (neighbours_of a (e ∷ es)) ≡ length e.1 = ap (λ (b : Bool). length (cond b e.1 (neighbours_of a es))) (eq-eqb e.0 a at) in
          let same = range_same (λ u. length (neighbours_of u (e ∷ es))) (λ u. length (neighbours_of u es)) (a + 1) n
          (λ v l. ap (λ (b : Bool). length (cond b e.1 (neighbours_of v es))) (ne_eqb e.0 v (omega (arith, at, l)))) in
          let rest = front_total (a + 1) n es (subst (λ k. Rises k (a + 1 + n) es) (ap (λ k. k + 1) at) above) in
          omega (arith, whole, here, same, rest)
      | inr other ↦
          let later : a + 1 ≤ e.0 = omega (arith, low, other) in
          let none : length (neighbours_of a es) ≡ 0 = ap length (none_below a (e.0 + 1) (a + 1 + n) es above (omega (arith, later))) in
          let here : length (neighbours_of a (e ∷ es)) ≡ 0 = ap (λ (b : Bool). length (cond b e.1 (neighbours_of a es))) (ne_eqb e.0 a other) ∙ none in
          let rest = front_total (a + 1) n (e ∷ es) (later, above) in
          omega (arith, whole, here, rest)
    ]

-- so have those of its vertices in the graph
pub block_total : (neighbours : ℕ → List (ℕ × ℤ)) (k : ℕ) (b : Block) → ((u : ℕ) → u / 64 ≡ k → neighbours_of (u % 64) b ≡ neighbours u) → IsBlock b
    → edge_total b ≡ sum_by (λ u. length (neighbours u)) (range_with_len (64 * k) 64)
block_total neighbours k b lists ok =
    sym (front_total 0 64 b ok.map)
    ∙ range_shifted (λ u. length (neighbours_of u b)) (λ u. length (neighbours u)) 0 (64 * k) 64
    (λ i l. let place : (64 * k + i) / 64 ≡ k = omega (arith, l) in
    let bit : 0 + i ≡ (64 * k + i) % 64 = omega (arith, l) in
    ap (λ u. length (neighbours_of u b)) bit ∙ ap length (lists (64 * k + i) place))

pub no_block_total : (neighbours : ℕ → List (ℕ × ℤ)) (k : ℕ) → ((u : ℕ) → u / 64 ≡ k → [] ≡ neighbours u) → 0 ≡ sum_by (λ u. length (neighbours u)) (range_with_len (64 * k) 64)
no_block_total neighbours k none =
    sym (range_none (λ u. 0) 0 64 (λ v l. refl))
    ∙ range_shifted (λ u. 0) (λ u. length (neighbours u)) 0 (64 * k) 64 (λ i l. let place : (64 * k + i) / 64 ≡ k = omega (arith, l) in ap length (none (64 * k + i) place))
