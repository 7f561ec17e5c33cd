-- Tests by the bits of words.
use Rattle.std.specs.Prelude.{ℕ, ◌/◌, ◌%◌, ◌==◌, Bool, true, Option, Some, None, List, slice_index}
use Rattle.std.specs.Borrow.{Bor}
use Rattle.std.specs.Int.{bit_at}

-- whether the bit of a vertex is set
abbrev pub is_set : List ℕ → ℕ → Bool
is_set words v = bit_at (slice_index words (v / 64)) (v % 64) == 1

-- the same where words are given, and else all pass
abbrev pub passes_words : Option (Bor (List ℕ)) → ℕ → Bool
passes_words None v = true
passes_words (Some words) v = is_set words.now v
