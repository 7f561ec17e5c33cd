-- What the digits at the front of bytes are.
use Rattle.std.specs.Prelude.{◌≡◌, ℕ, ◌<◌, ◌≤◌, ◌^◌, true, false, List, Option, MatchOption, length, take, slice_index}
use Rattle.std.specs.Char.{is_ascii_digit}
use Rattle.std.specs.Str.{all_ascii_digits}
use Rattle.decimal.specs.Numbers.{digits_number}

-- the first len bytes are digits
abbrev pub BeginsWithDigits : List ℕ → ℕ → Type 0
BeginsWithDigits bytes len = (len ≤ length bytes) × (all_ascii_digits (take len bytes) ≡ true)

-- the number and the count of the digits at the front, or nothing where they mean 2 ^ 64 or more
abbrev pub AreLeadingDigits : List ℕ → Option (ℕ × ℕ) → Type 0
AreLeadingDigits bytes found = MatchOption found
    ((len : ℕ) × BeginsWithDigits bytes len × (2 ^ 64 ≤ digits_number (take len bytes)))
    (λ read. BeginsWithDigits bytes read.1 × (digits_number (take read.1 bytes) ≡ read.0)
    × (read.1 < length bytes → is_ascii_digit (slice_index bytes read.1) ≡ false))
