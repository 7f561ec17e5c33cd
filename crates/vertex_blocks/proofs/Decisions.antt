-- Sets that updates of one vertex make of others, by additions and removals.
use Rattle.std.proofs.Common.{◌≡◌, ℕ, ℤ, ◌+◌, ◌^◌, ◌<◌, ◌≤◌, Bool, true, false, inl, inr, Option, None, if◌then◌else◌, List, [], ◌∷◌, ◌++◌, length, get_or, drop, append_assoc}
use Rattle.std.proofs.Common.{refl, sym, ◌∙◌, ap, arith}
use Rattle.std.specs.List.{Contains}
use Rattle.std.specs.Map.{keys_of}
use Rattle.std.specs.Option.{option_or}
use Rattle.std.proofs.lemmas.Bool.{cases_Bool, cases_eq, true≢false, eq-eqb, ne_eqb}
use Rattle.std.proofs.lemmas.List.{append-nil, drop_all, drop_more}
use Rattle.ascending_lists.specs.Ascending.{AscendsFrom, Ascends}
use Rattle.ascending_lists.specs.Sets.{has}
use Rattle.ascending_lists.specs.Maps.{IsMap, lookup}
use Rattle.ascending_lists.specs.MapOperations.{union_keeping_second, without_keys}
use Rattle.ascending_lists.proofs.Ascending.{ascends_from}
use Rattle.ascending_lists.proofs.Membership.{has_if, has_only}
use Rattle.ascending_lists.proofs.MapKeys.{entries_rise}
use Rattle.ascending_lists.proofs.MapUnions.{value_of_second, map_of_second}
use Rattle.ascending_lists.proofs.MapDifferences.{value_without, map_without}
use Rattle.ascending_lists.proofs.MapValues.{same_entries}
use Rattle.edge_updates.specs.declared.edge_update.EdgeUpdate.{EdgeUpdate}
use Rattle.edge_updates.specs.EdgeUpdate.{neighbour_of, adds}
use Rattle.c_tree.specs.Chunks.{ChunkedSet, IsSetOf}
use Rattle.pages.specs.Updates.{added, updated, weight_decided, NeighboursAscend}
use Rattle.pages.proofs.Merging.{neighbour_small, added_ascends, updated_ascends}
use Rattle.pages.proofs.Deciding.{updated_weight}
use Rattle.pages.proofs.UpdateRuns.{no_update}
use Rattle.vertex_blocks.specs.inside.Runs.{added_in, removed_in}

-- an element is there where the test says so
pub contains_is : (v : ℕ) (xs : List ℕ) (b : Bool) → (b ≡ true → Contains xs v) → (Contains xs v → b ≡ true) → b ≡ has v xs
contains_is v xs b to from = elim (cases_Bool b) [
  | inl is ↦ is ∙ sym (has_if v xs (to is))
  | inr isnt ↦ isnt ∙ sym (has_not v xs (λ c. true≢false (sym (from c) ∙ isnt)))
]
  where
    has_not : (v : ℕ) (xs : List ℕ) → ¬ Contains xs v → has v xs ≡ false
    has_not v xs out = elim (cases_Bool (has v xs)) [ inl is ↦ absurd (out (has_only v xs is)) | inr isnt ↦ isnt ]

-- no element is below what a list ascends from
has_low : (v low : ℕ) (xs : List ℕ) → v < low → AscendsFrom low xs → has v xs ≡ false
has_low v low [] lt s = refl
has_low v low (x ∷ xs) lt s = rw (ne_eqb x v (omega (arith, s.0))) (has_low v (x + 1) xs (omega (arith, s.0)) s.2)

-- what is added ascends, and so does what is removed
pub added_ascend : (low : ℕ) (us : List (EdgeUpdate × ℤ)) → NeighboursAscend low us → AscendsFrom low (keys_of (added_in us))
added_ascend low [] s = tt
added_ascend low (u ∷ us) s = ascends_from low (neighbour_of u.0) (keys_of (added u (added_in us))) s.0 (added_ascends u (added_in us) (added_ascend (neighbour_of u.0 + 1) us s.1))

pub removed_ascend : (low : ℕ) (us : List (EdgeUpdate × ℤ)) → NeighboursAscend low us → AscendsFrom low (removed_in us)
removed_ascend low [] s = tt
removed_ascend low (u ∷ us) s = elim (cases_Bool (adds u.0)) [
  | inl is ↦ rw is (ascends_from low (neighbour_of u.0 + 1) (removed_in us) (omega (arith, s.0)) (removed_ascend (neighbour_of u.0 + 1) us s.1))
  | inr isnt ↦ rw isnt (s.0, omega (arith, neighbour_small u.0), removed_ascend (neighbour_of u.0 + 1) us s.1)
]

-- of no list the additions are left
pub updated_nothing : (us : List (EdgeUpdate × ℤ)) → updated [] us ≡ added_in us
updated_nothing [] = refl
updated_nothing (u ∷ us) = ap (added u) (updated_nothing us)

-- an update that names a neighbour decides, by both lists
decided_parts : (low v : ℕ) (us : List (EdgeUpdate × ℤ)) (was : Option ℤ) → NeighboursAscend low us
    → weight_decided v us was ≡ (if has v (removed_in us) then None else option_or (lookup v (added_in us)) was)
decided_parts low v [] was s = refl
decided_parts low v (u ∷ us) was s =
    let n : ℕ = neighbour_of u.0 in
    elim (cases_eq n v) [
      | inl at ↦
          let stays : has v (removed_in us) ≡ false = has_low v (n + 1) (removed_in us) (omega (arith, at)) (removed_ascend (n + 1) us s.1) in
          elim (cases_Bool (adds u.0)) [
            | inl is ↦ rw (eq-eqb n v at, is) (rw (eq-eqb n v at, stays) refl)
            | inr isnt ↦ rw (eq-eqb n v at, isnt) (rw (eq-eqb n v at) refl)
          ]
      | inr other ↦ elim (cases_Bool (adds u.0)) [
        | inl is ↦ rw (ne_eqb n v other, is) (rw (ne_eqb n v other) (decided_parts (n + 1) v us was s.1))
        | inr isnt ↦ rw (ne_eqb n v other, isnt) (rw (ne_eqb n v other) (decided_parts (n + 1) v us was s.1))
      ]
    ]

-- additions and then removals do what the updates do
pub updated_set : (xs : List (ℕ × ℤ)) (us : List (EdgeUpdate × ℤ)) → Ascends None (keys_of xs) → NeighboursAscend 0 us
    → without_keys (union_keeping_second xs (added_in us)) (removed_in us) ≡ updated xs us
updated_set xs us s t =
    let ys : List (ℕ × ℤ) = added_in us in
    let all : List (ℕ × ℤ) = union_keeping_second xs ys in
    let map : IsMap all = map_of_second xs ys (entries_rise 0 xs (omega arith) s) (entries_rise 0 ys (omega arith) (added_ascend 0 us t)) in
    same_entries 0 (2 ^ 32) (without_keys all (removed_in us)) (updated xs us) (map_without all (removed_in us) map) (entries_rise 0 (updated xs us) (omega arith) (updated_ascends 0 xs us s t))
    (λ v. value_without v all (removed_in us) ∙ ap (λ (o : Option ℤ). if has v (removed_in us) then None else o) (value_of_second v xs ys)
    ∙ sym (decided_parts 0 v us (lookup v xs) t) ∙ sym (updated_weight 0 v xs us s t))

-- at the end of a walk over updates all are parted
pub parted_end : {B : Type 0} (n : ℕ) (f : List (EdgeUpdate × ℤ) → List B) (us : List (EdgeUpdate × ℤ)) (xs : List B) → f [] ≡ [] → length us ≤ n → xs ++ f (drop n us) ≡ f us → xs ≡ f us
parted_end n f us xs none le is = sym (append-nil xs) ∙ ap (λ ys. xs ++ ys) (sym none ∙ ap f (sym (drop_all n us le))) ∙ is

-- the set with what is added, and then without what is removed
pub set_updated : (t a g : ChunkedSet) (more : List (ℕ × ℤ)) (fewer : List ℕ) (us : List (EdgeUpdate × ℤ)) → Ascends None (keys_of a.entries) → NeighboursAscend 0 us → more ≡ added_in us
    → fewer ≡ removed_in us → IsSetOf (union_keeping_second a.entries more) a.chunk_size g → IsSetOf (without_keys g.entries fewer) g.chunk_size t → t.entries ≡ updated a.entries us
set_updated t a g more fewer us s u is_added is_removed first second =
    second.entries ∙ ap (λ xs. without_keys xs fewer) first.entries ∙ ap (λ xs. without_keys (union_keeping_second a.entries xs) fewer) is_added
    ∙ ap (without_keys (union_keeping_second a.entries (added_in us))) is_removed ∙ updated_set a.entries us s u

-- one update more in a walk over them
module _ (us : List (EdgeUpdate × ℤ)) (i : ℕ) (u : EdgeUpdate) (w : ℤ) (lt : i < length us) (at : (u, w) ≡ get_or us i no_update) where
  cells : drop i us ≡ (u, w) ∷ drop (i + 1) us
  cells = drop_more us i no_update lt ∙ ap (λ (p : EdgeUpdate × ℤ). p ∷ drop (i + 1) us) (sym at)

  pub next_added : (xs ys : List (ℕ × ℤ)) → adds u ≡ true → ys ≡ xs ++ (neighbour_of u, w) ∷ [] → xs ++ added_in (drop i us) ≡ added_in us → ys ++ added_in (drop (i + 1) us) ≡ added_in us
  next_added xs ys is more so_far =
      let here : added_in ((u, w) ∷ drop (i + 1) us) ≡ (neighbour_of u, w) ∷ added_in (drop (i + 1) us) = rw is refl in
      ap (λ zs. zs ++ added_in (drop (i + 1) us)) more ∙ append_assoc xs ((neighbour_of u, w) ∷ []) (added_in (drop (i + 1) us))
      ∙ ap (λ zs. xs ++ zs) (sym (ap added_in cells ∙ here)) ∙ so_far

  pub none_added : (xs : List (ℕ × ℤ)) → adds u ≡ false → xs ++ added_in (drop i us) ≡ added_in us → xs ++ added_in (drop (i + 1) us) ≡ added_in us
  none_added xs isnt so_far =
      let here : added_in ((u, w) ∷ drop (i + 1) us) ≡ added_in (drop (i + 1) us) = rw isnt refl in
      ap (λ zs. xs ++ zs) (sym (ap added_in cells ∙ here)) ∙ so_far

  pub next_removed : (xs ys : List ℕ) → adds u ≡ false → ys ≡ xs ++ neighbour_of u ∷ [] → xs ++ removed_in (drop i us) ≡ removed_in us → ys ++ removed_in (drop (i + 1) us) ≡ removed_in us
  next_removed xs ys isnt more so_far =
      let here : removed_in ((u, w) ∷ drop (i + 1) us) ≡ neighbour_of u ∷ removed_in (drop (i + 1) us) = rw isnt refl in
      ap (λ zs. zs ++ removed_in (drop (i + 1) us)) more ∙ append_assoc xs (neighbour_of u ∷ []) (removed_in (drop (i + 1) us))
      ∙ ap (λ zs. xs ++ zs) (sym (ap removed_in cells ∙ here)) ∙ so_far

  pub none_removed : (xs : List ℕ) → adds u ≡ true → xs ++ removed_in (drop i us) ≡ removed_in us → xs ++ removed_in (drop (i + 1) us) ≡ removed_in us
  none_removed xs is so_far =
      let here : removed_in ((u, w) ∷ drop (i + 1) us) ≡ removed_in (drop (i + 1) us) = rw is refl in
      ap (λ zs. xs ++ zs) (sym (ap removed_in cells ∙ here)) ∙ so_far
