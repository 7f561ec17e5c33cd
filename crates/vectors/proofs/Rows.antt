-- Indices in rows.
use Rattle.std.proofs.Common.{ℕ, ◌+◌, ◌*◌, ◌<◌, ◌≤◌, arith}

-- the index of a row's entry is in the array
pub index_in_row : (v rows stride first n : ℕ) → v < rows → first < stride → rows * stride ≤ n → v * stride + first < n
index_in_row v rows stride first n l f h = grind arith
