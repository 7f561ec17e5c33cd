-- The number that a word of decimal digits means.
use Rattle.std.specs.Prelude.{◌≡◌, ℕ, ℤ, pos, neg_ℤ, ◌+◌, ◌-◌, ◌*◌, ◌^◌, ◌==◌, ◌&&◌, nat_lt, List, [], ◌∷◌, ◌++◌, Option, Some, None, length, replicate}
use Rattle.std.specs.Prelude.{decimal, if◌then◌else◌}
use Rattle.std.specs.Option.{option_map}
use Rattle.std.specs.Str.{all_ascii_digits}

-- what digits mean, the most significant first; the digit 0 is byte 48
abbrev pub digits_number : List ℕ → ℕ
digits_number [] = 0
digits_number (digit ∷ digits) = (digit - 48) * 10 ^ length digits + digits_number digits

-- the number that one or more digits mean, where it is below the limit
abbrev pub number_of : ℕ → List ℕ → Option ℕ
number_of limit word =
    if nat_lt 0 (length word) && all_ascii_digits word && nat_lt (digits_number word) limit
    then Some (digits_number word)
    else None

-- the digits of n are read as n, whatever zeros are before them
abbrev pub IsReadBack : ℕ → ℕ → Type 0
IsReadBack limit n = (zeros : ℕ) → number_of limit (replicate zeros 48 ++ decimal n) ≡ Some n

-- the integer of 64 bits that one or more digits mean, negative after the byte 45, which is `-`
abbrev pub integer_of : List ℕ → Option ℤ
integer_of [] = None
integer_of (first ∷ rest) =
    if first == 45
    then option_map (λ n. neg_ℤ (pos n)) (number_of (2 ^ 63 + 1) rest)
    else option_map pos (number_of (2 ^ 63) (first ∷ rest))
