-- Ends of edges by their indices.
use Rattle.std.specs.Prelude.{ℕ, ◌+◌, ◌/◌, ◌%◌, ◌^◌, ◌==◌, zero, suc, Bool, ◌&&◌, List, slice_index}

-- the index is that of the ends u and v
abbrev pub is_index_of : (u v : ℕ) → ℕ → Bool
is_index_of u v k = ((k / 2 ^ 32) == u) && ((k % 2 ^ 32) == v)

-- the number after the index in front of a position, or 0 at the first one
abbrev pub after_last : List ℕ → ℕ → ℕ
after_last ks zero = 0
after_last ks (suc i) = slice_index ks i + 1
