-- Bits in words.
use Rattle.std.specs.Prelude.{◌≡◌, ℕ, ◌/◌, ◌%◌, List, slice_index}
use Rattle.std.specs.Int.{bit_at}

-- bit v % 64 of word v / 64 is set
abbrev pub HasBit : List ℕ → ℕ → Type 0
HasBit words v = bit_at (slice_index words (v / 64)) (v % 64) ≡ 1
