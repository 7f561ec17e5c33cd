-- Packed lists in arrays of their own.
use Rattle.std.proofs.Common.{◌≡◌, ℕ, ℤ, ◌+◌, ◌-◌, ◌*◌, ◌/◌, ◌^◌, ◌<◌, ◌≤◌, List, length, take, drop, refl, sym, ◌∙◌, ap, subst, arith, length-drop}
use Rattle.std.proofs.lemmas.List.{drop-drop}
use Rattle.ascending_lists.specs.Ascending.{AscendsFrom}
use Rattle.edge_updates.specs.Weighted.{weighted}
use Rattle.pages.specs.declared.weights.WeightWidth.{WeightWidth}
use Rattle.pages.specs.inside.Numbers.{number_at}
use Rattle.pages.specs.inside.Weights.{weight_size, weights_from, column_of}
use Rattle.pages.specs.inside.Packed.{elements_in, packed_in, IsWeightedView, IsPackedIn}
use Rattle.pages.proofs.Encoding.{same_front}
use Rattle.pages.proofs.Weighing.{weighted_column}
use Rattle.pages.proofs.Storing.{mask_of}

-- such a list is lent as it lies
pub lent_view : (w n : ℕ) (v : WeightWidth) (bytes : List ℕ) → IsPackedIn w n v bytes → IsWeightedView (number_at 4 0 bytes) w (4294967295 / 2 ^ (32 - 8 * w)) n v (drop 4 bytes)
lent_view w n v bytes is = rw (mask_of w is.view.view.some is.view.view.width) is.view

-- a list that was written, and then its weights after it
module _ (w : ℕ) (v : WeightWidth) (mid new xs : List ℕ) (some : 0 < length xs) (keys : elements_in w (length xs) mid ≡ xs)
    (front : take (4 + w * (length xs - 1)) new ≡ take (4 + w * (length xs - 1)) mid) where
  keys_written : elements_in w (length xs) new ≡ xs
  keys_written = same_front w (length xs) (4 + w * (length xs - 1)) new mid some (omega arith) front ∙ keys

  pub list_written : (ws : List ℤ) → weights_from v (length xs) (drop (4 + w * (length xs - 1)) new) ≡ column_of (length xs) ws → packed_in w (length xs) v new ≡ weighted xs ws
  list_written ws column =
      let weights : weights_from v (length xs) (drop (w * (length xs - 1)) (drop 4 new)) ≡ column_of (length xs) ws =
      ap (weights_from v (length xs)) (drop-drop (w * (length xs - 1)) 4 new) ∙ column in
      ap (λ ks. weighted ks (weights_from v (length xs) (drop (w * (length xs - 1)) (drop 4 new)))) keys_written
      ∙ ap (weighted xs) weights ∙ weighted_column (length xs) xs ws refl

  pub is_packed : (0 < w) × (w ≤ 4) → length xs ≤ 2048 → AscendsFrom 0 xs → 4 + w * (length xs - 1) + weight_size v * length xs + 3 ≤ length new → IsPackedIn w (length xs) v new
  is_packed width few ascends room = record {
    some = some;
    view = record {
      view = record {
        some = width.0;
        width = width.1;
        mask_is = refl;
        few = few;
        within = λ any. omega (arith, room, length-drop 4 new);
        ascends = subst (AscendsFrom 0) (sym keys_written) ascends;
      };
      weights = λ any. omega (arith, room, length-drop 4 new);
    };
  }
