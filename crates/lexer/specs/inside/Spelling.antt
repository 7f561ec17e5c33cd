-- Beside `Spelling`: definitions that no public contract cites.
use Rattle.std.specs.Prelude.{ℕ, ◌+◌, ◌*◌, ◌%◌, List, ◌∷◌, length}

-- the place of a text in the table of keywords, found by its length and its first two bytes
abbrev pub place_of : List ℕ → ℕ
place_of (first ∷ second ∷ others) = (length (first ∷ second ∷ others) % 100 + first + 26 * second) % 100
place_of _ = 0
