-- The lines and the words of a text, and which words are which command.
use Rattle.std.specs.Prelude.{ℕ, ℤ, ◌^◌, Bool, List, [], ◌∷◌, Option, Some, None, codes, if◌then◌else◌, ◌≢◌, ◌==◌, ◌<◌, length, ◌≡◌, ◌++◌}
use Rattle.std.specs.Option.{option_and_then, option_map}
use Rattle.std.specs.Str.{bytes_eq}
use Rattle.std.specs.List.{AllByRecursion, onto_first, join_with_byte}
use Rattle.decimal.specs.Numbers.{number_of, integer_of}
use Rattle.weighted_edges.specs.Edge.{unit_weight}
use Rattle.scripts.specs.declared.commands.Command.{Command}
use Rattle.scripts.specs.declared.commands.Command.TheVariants.{Vertices, Add, Remove, Grow, Commit, Hold, Release, Edges, Run}

-- whether the word is spelled so, byte for byte
infix 12 ◌is◌
abbrev pub ◌is◌ : List ℕ → List ℕ → Bool
word is spelling = bytes_eq word spelling

-- what two numbers below 2 ^ 32 make, where these two words are such numbers
abbrev pub with_numbers : (ℕ → ℕ → Command) → List ℕ → List ℕ → Option Command
with_numbers make first second =
    option_and_then (λ m. option_map (make m) (number_of (2 ^ 32) second)) (number_of (2 ^ 32) first)

-- "vertices N", where the chunk size is 64, and "vertices N B"
abbrev pub vertices_of : List (List ℕ) → Option Command
vertices_of (vertices ∷ []) = option_map (λ n. Vertices n 64) (number_of (2 ^ 32) vertices)
vertices_of (vertices ∷ chunk_size ∷ []) = with_numbers Vertices vertices chunk_size
vertices_of _ = None

-- the weight that one word is, which may be left out where it is 1
abbrev pub weight_of : List (List ℕ) → Option ℤ
weight_of [] = Some unit_weight
weight_of (word ∷ []) = integer_of word
weight_of _ = None

-- "add U V", where the weight is 1, and "add U V W"
abbrev pub add_of : List (List ℕ) → Option Command
add_of (source ∷ destination ∷ words) =
    option_and_then (λ u. option_and_then (λ v.
    option_map (Add u v) (weight_of words))
    (number_of (2 ^ 32) destination)) (number_of (2 ^ 32) source)
add_of _ = None

-- "del U V"
abbrev pub remove_of : List (List ℕ) → Option Command
remove_of (source ∷ destination ∷ []) = with_numbers Remove source destination
remove_of _ = None

-- "grow N"
abbrev pub grow_of : List (List ℕ) → Option Command
grow_of (vertices ∷ []) = option_map Grow (number_of (2 ^ 32) vertices)
grow_of _ = None

-- the number below 2 ^ 64 that one word is
abbrev pub one_number : List (List ℕ) → Option ℕ
one_number (word ∷ []) = number_of (2 ^ 64) word
one_number _ = None

-- "hold", which asks for the newest version, and "hold at K"
abbrev pub hold_of : List (List ℕ) → Option Command
hold_of [] = Some (Hold None)
hold_of (at ∷ words) = if at is codes "at" then option_map (λ k. Hold (Some k)) (one_number words) else None

-- the ticket that one word is, which may be left out
abbrev pub ticket_of : List (List ℕ) → Option (Option ℕ)
ticket_of [] = Some None
ticket_of (word ∷ words) = option_map Some (one_number (word ∷ words))

-- "run P TURNS W", on the newest version, and "run P TURNS W T"
abbrev pub run_of : List (List ℕ) → Option Command
run_of (program ∷ turns ∷ workers ∷ words) =
    option_and_then (λ p. option_and_then (λ t. option_and_then (λ w.
    option_map (Run p t w) (ticket_of words))
    (number_of (2 ^ 64) workers)) (number_of (2 ^ 64) turns)) (number_of (2 ^ 64) program)
run_of _ = None

-- "commit", which no word follows
abbrev pub alone : Command → List (List ℕ) → Option Command
alone command [] = Some command
alone command _ = None

-- what each name asks for, given the words after it
abbrev pub command_of_words : List (List ℕ) → Option Command
command_of_words [] = None
command_of_words (name ∷ words) =
    if name is codes "vertices" then vertices_of words else
    if name is codes "add" then add_of words else
    if name is codes "del" then remove_of words else
    if name is codes "grow" then grow_of words else
    if name is codes "commit" then alone Commit words else
    if name is codes "hold" then hold_of words else
    if name is codes "release" then option_map Release (one_number words) else
    if name is codes "edges" then option_map Edges (ticket_of words) else
    if name is codes "run" then run_of words else
    None

-- the pieces between the separators c, one more than there are separators
abbrev pub pieces : ℕ → List ℕ → List (List ℕ)
pieces c [] = [] ∷ []
pieces c (b ∷ text) = if b == c then [] ∷ pieces c text else onto_first b (pieces c text)

-- the words of a line: one space, byte 32, stands between two words
abbrev pub words_of : List ℕ → List (List ℕ)
words_of line = pieces 32 line

-- the command of a line without its line feed
abbrev pub command_of : List ℕ → Option Command
command_of line = command_of_words (words_of line)

-- the byte c is nowhere in the text
abbrev pub HasNone : ℕ → List ℕ → Type 0
HasNone c text = AllByRecursion (λ b. b ≢ c) text

-- the lines of a text: a line feed, byte 10, stands between two lines
abbrev pub lines_of : List ℕ → List (List ℕ)
lines_of text = pieces 10 text

-- there is a part, and the separator c is in none of them
abbrev pub AreParts : ℕ → List (List ℕ) → Type 0
AreParts c parts = (0 < length parts) × AllByRecursion (HasNone c) parts

-- the pieces of the text are the one list of parts that, joined by the separator c, is the text
pub record JoinsAgain (c : ℕ) (text : List ℕ) : Type 0 where
  pub parts : AreParts c (pieces c text)
  pub joined : join_with_byte c (pieces c text) ≡ text
  pub only : (others : List (List ℕ)) → AreParts c others → join_with_byte c others ≡ text → others ≡ pieces c text

-- what has no separator c is one piece, and before a separator it is the first
pub record IsFirstPiece (c : ℕ) (front : List ℕ) : Type 0 where
  pub alone : pieces c front ≡ front ∷ []
  pub before : (rest : List ℕ) → pieces c (front ++ c ∷ rest) ≡ front ∷ pieces c rest

-- all but the last of a list
abbrev pub all_but_last : List (List ℕ) → List (List ℕ)
all_but_last [] = []
all_but_last (x ∷ []) = []
all_but_last (x ∷ y ∷ xs) = x ∷ all_but_last (y ∷ xs)

-- the last of a list, and of an empty one the empty text
abbrev pub last_of : List (List ℕ) → List ℕ
last_of [] = []
last_of (x ∷ []) = x
last_of (x ∷ y ∷ xs) = last_of (y ∷ xs)

-- the lines that a line feed has ended
abbrev pub ended_lines : List ℕ → List (List ℕ)
ended_lines text = all_but_last (lines_of text)

-- what is after the last line feed: the beginning of a line that has not ended
abbrev pub unended_line : List ℕ → List ℕ
unended_line text = last_of (lines_of text)

-- the lines of a text are those that have ended and one more, in which no line feed stands
pub record HasLastLine (text : List ℕ) : Type 0 where
  pub lines : lines_of text ≡ ended_lines text ++ unended_line text ∷ []
  pub unended : HasNone 10 (unended_line text)
