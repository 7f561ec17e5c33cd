-- Flags and words, and the vertices for which they stand.
use Rattle.std.specs.Prelude.{ℕ, zero, suc, ◌+◌, ◌/◌, ◌%◌, ◌==◌, Bool, if◌then◌else◌, List, [], ◌∷◌, ◌++◌}

-- the vertices whose flags are true, where the first flag is that of vertex a
abbrev pub flag_members : ℕ → List Bool → List ℕ
flag_members a [] = []
flag_members a (flag ∷ flags) = if flag then a ∷ flag_members (a + 1) flags else flag_members (a + 1) flags

-- the vertices of the set bits among the k lowest bits of a word, where bit 0 is that of vertex a
unfoldable pub bit_members : ℕ → ℕ → ℕ → List ℕ
bit_members zero a word = []
bit_members (suc k) a word =
    if word % 2 == 1 then a ∷ bit_members k (a + 1) (word / 2) else bit_members k (a + 1) (word / 2)

-- the vertices of the set bits of words, where bit 0 of the first word is that of vertex a
abbrev pub word_members : ℕ → List ℕ → List ℕ
word_members a [] = []
word_members a (word ∷ words) = bit_members 64 a word ++ word_members (a + 64) words
