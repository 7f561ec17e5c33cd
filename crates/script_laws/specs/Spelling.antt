-- How numbers and commands are spelled.
use Rattle.std.specs.Prelude.{◌≡◌, ◌⊎◌, ℕ, ℤ, pos, neg_ℤ, FitsSigned, ◌+◌, ◌<◌, ◌^◌, List, [], ◌∷◌, ◌++◌, Some, None, codes, decimal, replicate}
use Rattle.std.specs.Fmt.{signed_decimal}
use Rattle.std.specs.Int.{w64}
use Rattle.std.specs.List.{AllZip}
use Rattle.weighted_edges.specs.Edge.{unit_weight}
use Rattle.scripts.specs.declared.commands.Command.{Command}
use Rattle.scripts.specs.declared.commands.Command.TheVariants.{Vertices, Add, Remove, Grow, Commit, Hold, Release, Edges, Run}

-- the word is the decimal digits of n, which is below the limit, after any zeros
pub record IsNumber (limit n : ℕ) (word : List ℕ) : Type 0 where
  pub below : n < limit
  pub zeros : ℕ
  pub digits : word ≡ replicate zeros 48 ++ decimal n

-- a number that is spelled as one below 2 ^ 63, or after the byte 45, which is `-`, as the negative of one up to 2 ^ 63
abbrev pub IsInteger : ℤ → List ℕ → Type 0
IsInteger w word =
    ((n : ℕ) × (w ≡ pos n) × IsNumber (2 ^ 63) n word)
    ⊎ ((n : ℕ) × (digits : List ℕ) × (w ≡ neg_ℤ (pos n)) × (word ≡ 45 ∷ digits) × IsNumber (2 ^ 63 + 1) n digits)

-- the words are these numbers in order, each below 2 ^ 32
abbrev pub AreShort : List ℕ → List (List ℕ) → Type 0
AreShort numbers words = AllZip (IsNumber (2 ^ 32)) numbers words

-- the same below 2 ^ 64
abbrev pub AreLong : List ℕ → List (List ℕ) → Type 0
AreLong numbers words = AllZip (IsNumber (2 ^ 64)) numbers words

-- the name of a command
abbrev pub command_name : Command → List ℕ
command_name (Vertices vertices chunk_size) = codes "vertices"
command_name (Add source destination weight) = codes "add"
command_name (Remove source destination) = codes "del"
command_name (Grow vertices) = codes "grow"
command_name Commit = codes "commit"
command_name (Hold version) = codes "hold"
command_name (Release ticket) = codes "release"
command_name (Edges ticket) = codes "edges"
command_name (Run program turns workers ticket) = codes "run"

-- the source, the destination and the weight of an edge, which may be left out where it is 1
abbrev pub AreEdge : (source destination : ℕ) → (weight : ℤ) → List (List ℕ) → Type 0
AreEdge source destination weight (u ∷ v ∷ []) = AreShort (source ∷ destination ∷ []) (u ∷ v ∷ []) × (weight ≡ unit_weight)
AreEdge source destination weight (u ∷ v ∷ w ∷ []) = AreShort (source ∷ destination ∷ []) (u ∷ v ∷ []) × IsInteger weight w
AreEdge source destination weight _ = ⊥

-- the word `at` and a number
abbrev pub AreAt : ℕ → List (List ℕ) → Type 0
AreAt version [] = ⊥
AreAt version (word ∷ words) = (word ≡ codes "at") × AreLong (version ∷ []) words

-- the words are those of a command after its name
abbrev pub AreArguments : Command → List (List ℕ) → Type 0
AreArguments (Vertices vertices chunk_size) words = (AreShort (vertices ∷ []) words × (chunk_size ≡ 64)) ⊎ AreShort (vertices ∷ chunk_size ∷ []) words
AreArguments (Add source destination weight) words = AreEdge source destination weight words
AreArguments (Remove source destination) words = AreShort (source ∷ destination ∷ []) words
AreArguments (Grow vertices) words = AreShort (vertices ∷ []) words
AreArguments Commit words = words ≡ []
AreArguments (Hold None) words = words ≡ []
AreArguments (Hold (Some version)) words = AreAt version words
AreArguments (Release ticket) words = AreLong (ticket ∷ []) words
AreArguments (Edges None) words = words ≡ []
AreArguments (Edges (Some ticket)) words = AreLong (ticket ∷ []) words
AreArguments (Run program turns workers None) words = AreLong (program ∷ turns ∷ workers ∷ []) words
AreArguments (Run program turns workers (Some ticket)) words = AreLong (program ∷ turns ∷ workers ∷ ticket ∷ []) words

-- the words are those of a command: its name, and what is after it
abbrev pub HasWords : Command → List (List ℕ) → Type 0
HasWords c [] = ⊥
HasWords c (name ∷ words) = (name ≡ command_name c) × AreArguments c words

-- the numbers of a command are in their ranges
abbrev pub IsInRange : Command → Type 0
IsInRange (Vertices vertices chunk_size) = (vertices < 2 ^ 32) × (chunk_size < 2 ^ 32)
IsInRange (Add source destination weight) = (source < 2 ^ 32) × (destination < 2 ^ 32) × FitsSigned w64 weight
IsInRange (Remove source destination) = (source < 2 ^ 32) × (destination < 2 ^ 32)
IsInRange (Grow vertices) = vertices < 2 ^ 32
IsInRange Commit = Unit {0}
IsInRange (Hold None) = Unit {0}
IsInRange (Hold (Some version)) = version < 2 ^ 64
IsInRange (Release ticket) = ticket < 2 ^ 64
IsInRange (Edges None) = Unit {0}
IsInRange (Edges (Some ticket)) = ticket < 2 ^ 64
IsInRange (Run program turns workers None) = (program < 2 ^ 64) × (turns < 2 ^ 64) × (workers < 2 ^ 64)
IsInRange (Run program turns workers (Some ticket)) = (program < 2 ^ 64) × (turns < 2 ^ 64) × (workers < 2 ^ 64) × (ticket < 2 ^ 64)

-- the words of a command with nothing left out and no zeros in front
abbrev pub spelling_of : Command → List (List ℕ)
spelling_of (Vertices vertices chunk_size) = codes "vertices" ∷ decimal vertices ∷ decimal chunk_size ∷ []
spelling_of (Add source destination weight) = codes "add" ∷ decimal source ∷ decimal destination ∷ signed_decimal weight ∷ []
spelling_of (Remove source destination) = codes "del" ∷ decimal source ∷ decimal destination ∷ []
spelling_of (Grow vertices) = codes "grow" ∷ decimal vertices ∷ []
spelling_of Commit = codes "commit" ∷ []
spelling_of (Hold None) = codes "hold" ∷ []
spelling_of (Hold (Some version)) = codes "hold" ∷ codes "at" ∷ decimal version ∷ []
spelling_of (Release ticket) = codes "release" ∷ decimal ticket ∷ []
spelling_of (Edges None) = codes "edges" ∷ []
spelling_of (Edges (Some ticket)) = codes "edges" ∷ decimal ticket ∷ []
spelling_of (Run program turns workers None) = codes "run" ∷ decimal program ∷ decimal turns ∷ decimal workers ∷ []
spelling_of (Run program turns workers (Some ticket)) = codes "run" ∷ decimal program ∷ decimal turns ∷ decimal workers ∷ decimal ticket ∷ []
