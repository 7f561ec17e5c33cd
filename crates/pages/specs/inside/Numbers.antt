-- Numbers in bytes, the low byte first.
use Rattle.std.specs.Prelude.{ℕ, ◌+◌, ◌*◌, List, [], ◌∷◌, take, drop}

-- the number that bytes make
abbrev pub number_of : List ℕ → ℕ
number_of [] = 0
number_of (b ∷ bytes) = b + 256 * number_of bytes

-- the number in n bytes from a position on
abbrev pub number_at : ℕ → ℕ → List ℕ → ℕ
number_at w position bytes = number_of (take w (drop position bytes))
