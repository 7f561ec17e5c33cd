use Rattle.std.proofs.Common.{◌≡◌, ℕ, ◌+◌, ◌*◌, ◌<◌, ◌^◌, [], get_or, length, vec_len}
use Rattle.vectors.specs.inside.Layout.{location_at, vertices_of}
use Rattle.vectors.proofs.grouping.new_arrays.Given as goal

abbrev pub invariant-groups : goal.invariant-groups
invariant-groups l = record {
  count : vec_len l.arrays ≡ length l.locations + l.names-index;
  alone : (i : ℕ) → i < length l.locations → (location_at l.locations i).array ≡ i → length (get_or l.arrays.items i []) ≡ (location_at l.locations i).vertices;
  grouped : (g : ℕ) → g < l.names-index
      → length (get_or l.arrays.items (length l.locations + g) []) ≡ vertices_of l.locations (get_or l.groups g []) * length (get_or l.groups g []);
  fits : (i : ℕ) → length (get_or l.arrays.items i []) < 2 ^ 64;
}
