-- The entries that bytes mean.
use Rattle.std.specs.Prelude.{ℕ, ◌+◌, ◌-◌, ◌*◌, ◌/◌, ◌%◌, ◌==◌, nat_lt, ℤ, pos, negsuc, Bool, true, false, if◌then◌else◌, Option, List, [], ◌∷◌}
use Rattle.ascending_lists.specs.Ascending.{least}

-- The numbers that bytes mean, where the lower bytes of the first have brought it up to from, and
-- its next seven bits count place each.
abbrev pub numbers_from : ℕ → ℕ → List ℕ → List ℕ
numbers_from from place [] = []
numbers_from from place (b ∷ bytes) =
    if nat_lt b 128
    then (from + place * b) ∷ numbers_from 0 1 bytes
    else numbers_from (from + place * (b - 128)) (place * 128) bytes

-- the weight that has a number
abbrev pub number_weight : ℕ → ℤ
number_weight n = if n % 2 == 0 then pos (n / 2) else negsuc (n / 2)

-- The entries that numbers mean, where the next key is at or more; or, where a weight is to come,
-- at is the key that it belongs to.
abbrev pub entries_from : Bool → ℕ → List ℕ → List (ℕ × ℤ)
entries_from weight at [] = []
entries_from true at (k ∷ ks) = (at, number_weight k) ∷ entries_from false (at + 1) ks
entries_from false at (k ∷ ks) =
    if k % 2 == 0
    then (at + k / 2, pos 1) ∷ entries_from false (at + k / 2 + 1) ks
    else entries_from true (at + k / 2) ks

-- the entries that bytes mean from a number on
abbrev pub decoded : ℕ → List ℕ → List (ℕ × ℤ)
decoded low bytes = entries_from false low (numbers_from 0 1 bytes)

-- the entries that bytes mean over a base
abbrev pub entries_over : Option ℕ → List ℕ → List (ℕ × ℤ)
entries_over base bytes = decoded (least base) bytes
