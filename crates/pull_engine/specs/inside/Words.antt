-- Words with a bit for each vertex of a block.
use Rattle.std.specs.Prelude.{ℕ, ◌-◌, ◌==◌, Bool}
use Rattle.std.specs.Int.{bit_at}

-- whether the bit of a vertex is set in the word of the 64 vertices from one on
abbrev pub in_word : (first word : ℕ) → ℕ → Bool
in_word first word v = bit_at word (v - first) == 1
