-- Steps of the reader of lines, in bytes and words.
use Rattle.std.specs.Prelude.{◌≡◌, ℕ, ℤ, List, [], ◌∷◌, ◌++◌, Option, Some, None, MatchOption}
use Rattle.std.specs.Borrow.{Bor}
use Rattle.std.specs.Option.{option_map}
use Rattle.decimal.specs.Numbers.{number_of, integer_of}
use Rattle.scripts.specs.Commands.{HasNone, words_of}

-- what is before the first separator c and what is after it, or nothing where there is none
abbrev pub IsCutAt : ℕ → List ℕ → Option (Bor (List ℕ) × Bor (List ℕ)) → Type 0
IsCutAt c bytes cut = MatchOption cut (HasNone c bytes) (λ parts. (bytes ≡ parts.0.now ++ c ∷ parts.1.now) × HasNone c parts.0.now)

-- the words of what is left of a line, or none where nothing is left
abbrev pub words_left : Option (Bor (List ℕ)) → List (List ℕ)
words_left None = []
words_left (Some rest) = words_of rest.now

-- the number that the first word is, and the words after it
abbrev pub first_number : ℕ → List (List ℕ) → Option (ℕ × List (List ℕ))
first_number limit [] = None
first_number limit (word ∷ words) = option_map (λ n. (n, words)) (number_of limit word)

-- what is read is the first number of the old words, and the new words are those after it
abbrev pub IsFirstNumber : ℕ → List (List ℕ) → List (List ℕ) → Option ℕ → Type 0
IsFirstNumber limit old new read = first_number limit old ≡ option_map (λ n. (n, new)) read

-- the integer that the first word is, and the words after it
abbrev pub first_integer : List (List ℕ) → Option (ℤ × List (List ℕ))
first_integer [] = None
first_integer (word ∷ words) = option_map (λ n. (n, words)) (integer_of word)

-- what is read is the first integer of the old words, and the new words are those after it
abbrev pub IsFirstInteger : List (List ℕ) → List (List ℕ) → Option ℤ → Type 0
IsFirstInteger old new read = first_integer old ≡ option_map (λ n. (n, new)) read
