-- Updates by vertices.
use Rattle.std.proofs.Common.{◌≡◌, ◌≢◌, ℕ, ℤ, pos, ◌+◌, ◌*◌, ◌/◌, ◌%◌, ◌^◌, ◌<◌, ◌≤◌, inl, inr, List, [], ◌∷◌, ◌++◌, length, get_or, take, drop, refl, sym, ◌∙◌, ap, subst, arith, append_assoc}
use Rattle.std.proofs.Common.{get_or-drop, length-drop}
use Rattle.std.specs.Map.{keys_of}
use Rattle.std.proofs.lemmas.Bool.{cases_eq, ne_eqb, eq-eqb}
use Rattle.std.proofs.lemmas.List.{append-nil, drop_more, take_more}
use Rattle.edge_updates.specs.declared.edge_update.EdgeUpdate.{EdgeUpdate}
use Rattle.edge_updates.specs.EdgeUpdate.{vertex_of, neighbour_of}
use Rattle.edge_updates.specs.Updates.{IsBefore, FollowAscending, Ascend}
use Rattle.pages.specs.Updates.{vertex_in_page, AreOfBlock, updates_of, NeighboursAscend, key_in_page, EdgesAscend}
use Rattle.pages.proofs.Merging.{neighbour_small}

-- an update for an index that is not there
abbrev pub no_update : EdgeUpdate × ℤ
no_update = (record { bits = 0 }, pos 0)

-- an edge before another one of its block
before_in_page : (a u : EdgeUpdate) → IsBefore a u → vertex_of a / 64 ≡ vertex_of u / 64 → key_in_page a + 1 ≤ key_in_page u
before_in_page a u s block = elim (cases_eq (vertex_of a) (vertex_of u)) [
  | inl same ↦
      let key : vertex_in_page a * 2 ^ 24 ≡ vertex_in_page u * 2 ^ 24 = ap (λ v. v % 64 * 2 ^ 24) same in
      omega (arith, key, s.1 same)
  | inr other ↦
      let below : vertex_in_page a + 1 ≤ vertex_in_page u = omega (arith, s.0, block) in
      omega (arith, below, neighbour_small a)
]

follow_in_page : (block : ℕ) (a : EdgeUpdate) (us : List (EdgeUpdate × ℤ)) → FollowAscending a (keys_of us) → vertex_of a / 64 ≡ block → AreOfBlock block us → EdgesAscend (key_in_page a + 1) us
follow_in_page block a [] s at t = tt
follow_in_page block a (u ∷ us) s at t = (before_in_page a u.0 s.0 (at ∙ sym t.0), follow_in_page block u.0 us s.1 t.0 t.1)

-- updates of a block that ascend
pub ascend_in_page : (block : ℕ) (us : List (EdgeUpdate × ℤ)) → Ascend (keys_of us) → AreOfBlock block us → EdgesAscend 0 us
ascend_in_page block [] s t = tt
ascend_in_page block (u ∷ us) s t = (omega arith, follow_in_page block u.0 us s t.0 t.1)

-- edges ascend from a smaller number too
pub edges_from : (a b : ℕ) (us : List (EdgeUpdate × ℤ)) → a ≤ b → EdgesAscend b us → EdgesAscend a us
edges_from a b [] le s = tt
edges_from a b (u ∷ us) le s = (omega (arith, s.0), s.1)

-- none is of a vertex below them
pub none_before : (v low : ℕ) (us : List (EdgeUpdate × ℤ)) → EdgesAscend low us → (v + 1) * 2 ^ 24 ≤ low → updates_of v us ≡ []
none_before v low [] s le = refl
none_before v low (u ∷ us) s le =
    let other : vertex_in_page u.0 ≢ v = omega (arith, s.0, neighbour_small u.0) in
    rw (ne_eqb (vertex_in_page u.0) v other) (none_before v (key_in_page u.0 + 1) us s.1 (omega (arith, s.0)))

-- those of one vertex ascend by neighbour
pub run_ascends : (v k low : ℕ) (us : List (EdgeUpdate × ℤ)) → EdgesAscend low us → v * 2 ^ 24 + k ≤ low → NeighboursAscend k (updates_of v us)
run_ascends v k low [] s le = tt
run_ascends v k low (u ∷ us) s le = elim (cases_eq (vertex_in_page u.0) v) [
  | inl at ↦
      let key : vertex_in_page u.0 * 2 ^ 24 ≡ v * 2 ^ 24 = ap (λ w. w * 2 ^ 24) at in
      rw (eq-eqb (vertex_in_page u.0) v at) (omega (arith, s.0, key), run_ascends v (neighbour_of u.0 + 1) (key_in_page u.0 + 1) us s.1 (omega (arith, key)))
  | inr other ↦ rw (ne_eqb (vertex_in_page u.0) v other) (run_ascends v k (key_in_page u.0 + 1) us s.1 (omega (arith, s.0)))
]

-- So many updates in front are of a vertex, and no other update was passed.
pub record IsRun (v : ℕ) (us : List (EdgeUpdate × ℤ)) (n : ℕ) : Type 0 where
  pub within : n ≤ length us
  pub run : updates_of v us ≡ take n us ++ updates_of v (drop n us)
  pub coming : EdgesAscend (v * 2 ^ 24) (drop n us)
  pub others : (w : ℕ) → w ≢ v → updates_of w us ≡ updates_of w (drop n us)

pub run_none : (v : ℕ) (us : List (EdgeUpdate × ℤ)) → EdgesAscend (v * 2 ^ 24) us → IsRun v us 0
run_none v us s = record { within = omega arith; run = refl; coming = s; others = λ w other. refl }

-- one update more of the vertex
pub run_more : (v n : ℕ) (us : List (EdgeUpdate × ℤ)) (d : EdgeUpdate × ℤ) → n < length us → vertex_in_page (get_or us n d).0 ≡ v → IsRun v us n → IsRun v us (n + 1)
run_more v n us d lt at is =
    let u : EdgeUpdate × ℤ = get_or us n d in
    let cells : drop n us ≡ u ∷ drop (n + 1) us = drop_more us n d lt in
    let coming : EdgesAscend (v * 2 ^ 24) (u ∷ drop (n + 1) us) = subst (EdgesAscend (v * 2 ^ 24)) cells is.coming in
    record {
      within = omega arith;
      run =
          is.run ∙ ap (λ ds. take n us ++ updates_of v ds) cells ∙ ap (λ ds. take n us ++ ds) (here v u (drop (n + 1) us) at)
          ∙ sym (append_assoc (take n us) (u ∷ []) (updates_of v (drop (n + 1) us))) ∙ ap (λ ds. ds ++ updates_of v (drop (n + 1) us)) (sym (take_more us n d lt));
      coming = edges_from (v * 2 ^ 24) (key_in_page u.0 + 1) (drop (n + 1) us) (omega (arith, ap (λ w. w * 2 ^ 24) at)) coming.1;
      others = λ w other. is.others w other ∙ ap (updates_of w) cells ∙ not_here w u (drop (n + 1) us) (λ e. other (sym e ∙ at));
    }
  where
    here : (v : ℕ) (u : EdgeUpdate × ℤ) (us : List (EdgeUpdate × ℤ)) → vertex_in_page u.0 ≡ v → updates_of v (u ∷ us) ≡ u ∷ updates_of v us
    here v u us at = rw (eq-eqb (vertex_in_page u.0) v at) refl

    not_here : (w : ℕ) (u : EdgeUpdate × ℤ) (us : List (EdgeUpdate × ℤ)) → vertex_in_page u.0 ≢ w → updates_of w (u ∷ us) ≡ updates_of w us
    not_here w u us other = rw (ne_eqb (vertex_in_page u.0) w other) refl

-- a run ends where an update of another vertex comes, or none
above_run : (v : ℕ) (us : List (EdgeUpdate × ℤ)) (d : EdgeUpdate × ℤ) → EdgesAscend (v * 2 ^ 24) us → (0 < length us → vertex_in_page (get_or us 0 d).0 ≢ v) → EdgesAscend ((v + 1) * 2 ^ 24) us
above_run v [] d s ends = tt
above_run v (u ∷ us) d s ends =
    let other : vertex_in_page u.0 ≢ v = ends (omega arith) in
    (omega (arith, s.0, neighbour_small u.0), s.1)

pub run_ends : (v n : ℕ) (us : List (EdgeUpdate × ℤ)) (d : EdgeUpdate × ℤ) → IsRun v us n → (n < length us → vertex_in_page (get_or us n d).0 ≢ v) → (take n us ≡ updates_of v us)
    × EdgesAscend ((v + 1) * 2 ^ 24) (drop n us)
run_ends v n us d is ends =
    let first : (0 < length (drop n us)) → vertex_in_page (get_or (drop n us) 0 d).0 ≢ v = λ some at. ends (omega (arith, length-drop n us)) (first_is ∙ at) in
    let rest : EdgesAscend ((v + 1) * 2 ^ 24) (drop n us) = above_run v (drop n us) d is.coming first in
    let none : updates_of v (drop n us) ≡ [] = none_before v ((v + 1) * 2 ^ 24) (drop n us) rest (omega arith) in
    (sym (is.run ∙ ap (λ ds. take n us ++ ds) none ∙ append-nil (take n us)), rest)
  where
    first_is : vertex_in_page (get_or us n d).0 ≡ vertex_in_page (get_or (drop n us) 0 d).0
    first_is = sym (ap (λ (p : EdgeUpdate × ℤ). vertex_in_page p.0) (get_or-drop n us 0 d ∙ ap (λ k. get_or us k d) (omega arith)))
