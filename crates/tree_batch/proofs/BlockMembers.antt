-- What the updates of a block decide of its edges.
use Rattle.std.proofs.Common.{◌≡◌, ◌≢◌, ℕ, ◌+◌, ◌*◌, ◌/◌, ◌%◌, ◌^◌, ◌<◌, ◌≤◌, ℤ, false, Option, None, unwrap_or, inl, inr, List, [], ◌∷◌, refl, sym, ap, ◌∙◌, arith}
use Rattle.std.proofs.lemmas.Bool.{cases_eq, ne_eqb, eq-eqb}
use Rattle.edge_updates.specs.declared.edge_update.EdgeUpdate.{EdgeUpdate}
use Rattle.edge_updates.specs.EdgeUpdate.{vertex_of, neighbour_of}
use Rattle.edge_updates.specs.Updates.{names}
use Rattle.edge_updates.specs.Updates.{decided_weight}
use Rattle.std.specs.Map.{keys_of}
use Rattle.ascending_lists.specs.Maps.{lookup}
use Rattle.ascending_lists.specs.Ascending.{AscendsFrom}
use Rattle.edge_updates.proofs.SortedUpdates.{names_other}
use Rattle.pages.specs.Updates as pages
use Rattle.pages.specs.Updates.{vertex_in_page, AreOfBlock, updated, updates_of, NeighboursAscend, key_in_page, EdgesAscend}
use Rattle.pages.proofs.Deciding.{updated_weight}
use Rattle.tree_batch.specs.Edge.{Ends}
use Rattle.tree_batch.proofs.Deciding.{option_or-none}

-- the updates of one vertex ascend by neighbour
vertex_ascends : (v least low : ℕ) (us : List (EdgeUpdate × ℤ)) → EdgesAscend low us → ((n : ℕ) → low ≤ v * 2 ^ 24 + n → least ≤ n) → NeighboursAscend least (updates_of v us)
vertex_ascends v least low [] s from = tt
vertex_ascends v least low (u ∷ us) s from = elim (cases_eq (vertex_in_page u.0) v) [
  | inl at ↦
      let key : vertex_in_page u.0 * 2 ^ 24 ≡ v * 2 ^ 24 = ap (λ w. w * 2 ^ 24) at in
      rw (eq-eqb (vertex_in_page u.0) v at) (from (neighbour_of u.0) (omega (arith, s.0, key)), vertex_ascends v (neighbour_of u.0 + 1) (key_in_page u.0 + 1) us s.1 (λ n le. omega (arith, key)))
  | inr other ↦ rw (ne_eqb (vertex_in_page u.0) v other) (vertex_ascends v least (key_in_page u.0 + 1) us s.1 (λ n le. from n (omega (arith, s.0))))
]

-- no update of a later edge names one
named_before : (low : ℕ) (us : List (EdgeUpdate × ℤ)) (e : Ends) → EdgesAscend low us → e.0 % 64 * 2 ^ 24 + e.1 < low → decided_weight us e ≡ None
named_before low [] e s lt = refl
named_before low (u ∷ us) e s lt =
    let other : names u.0 e ≡ false = names_other u.0 e (λ v n. omega (arith, s.0, ap (λ w. w % 64 * 2 ^ 24) v, n, lt)) in
    rw (named_before (key_in_page u.0 + 1) us e s.1 (omega (arith, s.0, lt)), other) refl

-- what the updates of a vertex decide of its neighbours is what all of its block decide of the edge
decided_in_block : (k low : ℕ) (us : List (EdgeUpdate × ℤ)) (e : Ends) (b : Option ℤ) → EdgesAscend low us → AreOfBlock k us → e.0 / 64 ≡ k
    → pages.weight_decided e.1 (updates_of (e.0 % 64) us) b ≡ unwrap_or (decided_weight us e) b
decided_in_block k low [] e b s of at = refl
decided_in_block k low (u ∷ us) e b s of at = elim (cases_eq (vertex_of u.0) e.0) [
  | inl same ↦
      let in_page : vertex_in_page u.0 ≡ e.0 % 64 = ap (λ v. v % 64) same in
      elim (cases_eq (neighbour_of u.0) e.1) [
        | inl here ↦
            let last : decided_weight us e ≡ None = named_before (key_in_page u.0 + 1) us e s.1 (omega (arith, ap (λ v. v % 64 * 2 ^ 24) same, here)) in
            rw (eq-eqb (vertex_in_page u.0) (e.0 % 64) in_page, eq-eqb (neighbour_of u.0) e.1 here, last, eq-eqb (vertex_of u.0) e.0 same) refl
        | inr other ↦
            let skip : pages.weight_decided e.1 (updates_of (e.0 % 64) (u ∷ us)) b ≡ pages.weight_decided e.1 (updates_of (e.0 % 64) us) b =
            rw (eq-eqb (vertex_in_page u.0) (e.0 % 64) in_page, ne_eqb (neighbour_of u.0) e.1 other) refl in
            skip ∙ (decided_in_block k (key_in_page u.0 + 1) us e b s.1 of.1 at ∙ ap (λ o. unwrap_or o b) (sym (silent (λ v n. other n))))
      ]
  | inr apart ↦
      let in_page : vertex_in_page u.0 ≢ e.0 % 64 = λ same. apart (omega (arith, same, of.0, at)) in
      rw (ne_eqb (vertex_in_page u.0) (e.0 % 64) in_page)
      (decided_in_block k (key_in_page u.0 + 1) us e b s.1 of.1 at ∙ ap (λ o. unwrap_or o b) (sym (silent (λ v n. apart v))))
]
  where
    silent : (vertex_of u.0 ≡ e.0 → neighbour_of u.0 ≡ e.1 → ⊥) → decided_weight (u ∷ us) e ≡ decided_weight us e
    silent f = rw (names_other u.0 e f) (option_or-none (decided_weight us e))

-- the weights after the updates of a block are as these decide
pub updated_members : (k : ℕ) (us : List (EdgeUpdate × ℤ)) (xs : List (ℕ × ℤ)) (e : Ends) → EdgesAscend 0 us → AreOfBlock k us → e.0 / 64 ≡ k → AscendsFrom 0 (keys_of xs)
    → lookup e.1 (updated xs (updates_of (e.0 % 64) us)) ≡ unwrap_or (decided_weight us e) (lookup e.1 xs)
updated_members k us xs e s of at up =
    let mine : List (EdgeUpdate × ℤ) = updates_of (e.0 % 64) us in
    let ascend : NeighboursAscend 0 mine = vertex_ascends (e.0 % 64) 0 0 us s (λ n le. omega arith) in
    updated_weight 0 e.1 xs mine up ascend ∙ decided_in_block k 0 us e (lookup e.1 xs) s of at
