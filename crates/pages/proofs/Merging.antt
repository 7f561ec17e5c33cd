-- What updates make of a list.
use Rattle.std.proofs.Common.{◌≡◌, ℕ, ℤ, ◌+◌, ◌^◌, ◌<◌, ◌≤◌, inl, inr, List, [], ◌∷◌, ◌++◌, ◌∙◌, ap, sym, subst, arith}
use Rattle.std.specs.Map.{keys_of}
use Rattle.std.proofs.lemmas.Bool.{cases_Bool}
use Rattle.ascending_lists.specs.Ascending.{AscendsFrom}
use Rattle.ascending_lists.specs.Sets.{below}
use Rattle.ascending_lists.specs.MapOperations.{entries_below, entries_above}
use Rattle.ascending_lists.proofs.Ascending.{ascends_from}
use Rattle.ascending_lists.proofs.Cutting.{above_from, below_then}
use Rattle.ascending_lists.proofs.MapKeys.{keys_append}
use Rattle.ascending_lists.proofs.MapCuts.{keys_below, keys_above}
use Rattle.edge_updates.specs.declared.edge_update.EdgeUpdate.{EdgeUpdate}
use Rattle.edge_updates.specs.EdgeUpdate.{neighbour_of, adds}
use Rattle.pages.specs.Updates.{added, updated, NeighboursAscend}

-- entries above a key ascend from after it, and those below it may stand before what ascends from it
pub entries_above_from : (k low : ℕ) (xs : List (ℕ × ℤ)) → AscendsFrom low (keys_of xs) → AscendsFrom (k + 1) (keys_of (entries_above k xs))
entries_above_from k low xs s = subst (AscendsFrom (k + 1)) (sym (keys_above k xs)) (above_from k low (keys_of xs) s)

entries_below_then : (k low : ℕ) (xs zs : List (ℕ × ℤ)) → AscendsFrom low (keys_of xs) → low ≤ k → AscendsFrom k (keys_of zs) → AscendsFrom low (keys_of (entries_below k xs ++ zs))
entries_below_then k low xs zs s le t =
    let keys : keys_of (entries_below k xs ++ zs) ≡ below k (keys_of xs) ++ keys_of zs = keys_append (entries_below k xs) zs ∙ ap (λ ks. ks ++ keys_of zs) (keys_below k xs) in
    subst (AscendsFrom low) (sym keys) (below_then k low (keys_of xs) (keys_of zs) s le t)

pub neighbour_small : (u : EdgeUpdate) → neighbour_of u < 2 ^ 24
unfolding neighbour_of
neighbour_small u = omega arith

pub added_ascends : (u : EdgeUpdate × ℤ) (ys : List (ℕ × ℤ)) → AscendsFrom (neighbour_of u.0 + 1) (keys_of ys) → AscendsFrom (neighbour_of u.0) (keys_of (added u ys))
added_ascends u ys s =
    elim (cases_Bool (adds u.0)) [
      | inl is ↦ rw is (omega arith, omega (arith, neighbour_small u.0), s)
      | inr not ↦ rw not (ascends_from (neighbour_of u.0) (neighbour_of u.0 + 1) (keys_of ys) (omega arith) s)
    ]

-- it ascends, where the neighbours of the updates do
pub updated_ascends : (low : ℕ) (xs : List (ℕ × ℤ)) (us : List (EdgeUpdate × ℤ)) → AscendsFrom low (keys_of xs) → NeighboursAscend low us → AscendsFrom low (keys_of (updated xs us))
updated_ascends low xs [] s t = s
updated_ascends low xs (u ∷ us) s t =
    let n : ℕ = neighbour_of u.0 in
    let rest : AscendsFrom (n + 1) (keys_of (updated (entries_above n xs) us)) = updated_ascends (n + 1) (entries_above n xs) us (entries_above_from n low xs s) t.1 in
    entries_below_then n low xs (added u (updated (entries_above n xs) us)) s t.0 (added_ascends u (updated (entries_above n xs) us) rest)
