use Rattle.std.proofs.Common.{◌≡◌, ℕ, ◌^◌, ◌<◌, [], get_or, length, vec_len}
use Rattle.vectors.specs.inside.Layout.{location_at, own_location}
use Rattle.vectors.proofs.location.own_locations.Given as goal

abbrev pub invariant-arrays : goal.invariant-arrays
invariant-arrays l = record {
  count : vec_len l.locations ≡ l.index;
  own : (i : ℕ) → i < l.index → location_at l.locations.items i ≡ own_location l.arrays i;
  fits : (i : ℕ) → i < l.index → length (get_or l.arrays i []) < 2 ^ 64;
}
