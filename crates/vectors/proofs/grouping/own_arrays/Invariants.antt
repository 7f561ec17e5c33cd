use Rattle.std.proofs.Common.{◌≡◌, ℕ, ◌<◌, ◌^◌, [], get_or, length, vec_len}
use Rattle.vectors.specs.inside.Layout.{location_at}
use Rattle.vectors.proofs.grouping.own_arrays.Given as goal

abbrev pub invariant-locations : goal.invariant-locations
invariant-locations l = record {
  count : vec_len l.arrays ≡ l.index;
  alone : (i : ℕ) → i < l.index → (location_at l.locations i).array ≡ i → length (get_or l.arrays.items i []) ≡ (location_at l.locations i).vertices;
  fits : (i : ℕ) → length (get_or l.arrays.items i []) < 2 ^ 64;
}
