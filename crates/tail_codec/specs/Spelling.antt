-- How numbers, weights and ascending lists of entries are spelled in bytes.
use Rattle.std.specs.Prelude.{◌≡◌, ℕ, ◌+◌, ◌-◌, ◌*◌, ◌/◌, ◌%◌, ◌^◌, ◌<◌, ◌≤◌, ◌==◌, ◌⊎◌, ℤ, pos, negsuc, Bool, false, if◌then◌else◌, Option, List, [], ◌∷◌}
use Rattle.std.specs.Prelude.{◌++◌}
use Rattle.std.specs.Map.{keys_of}
use Rattle.ascending_lists.specs.Ascending.{least, AscendsFrom, Ascends}

-- The bytes spell k, seven bits a byte, the low part first: a number below 128 is its one byte, and a
-- larger one is its low seven bits with the top bit set, and then the bytes of what is above them.
abbrev pub SpellsNumber : ℕ → List ℕ → Type 0
SpellsNumber k [] = ⊥
SpellsNumber k (b ∷ bytes) =
    ((k < 128) × (b ≡ k) × (bytes ≡ []))
    ⊎ ((128 ≤ k) × (b ≡ 128 + k % 128) × SpellsNumber (k / 128) bytes)

-- The bytes spell these numbers, one after the other, and nothing else.
abbrev pub SpellsNumbers : List ℕ → List ℕ → Type 0
SpellsNumbers [] bytes = bytes ≡ []
SpellsNumbers (k ∷ ks) bytes =
    (first : List ℕ) × (rest : List ℕ) × (bytes ≡ first ++ rest) × SpellsNumber k first × SpellsNumbers ks rest

-- the number of a weight: twice a weight from 0 on, and for a weight below 0 twice its size less 1
abbrev pub weight_number : ℤ → ℕ
weight_number (pos n) = 2 * n
weight_number (negsuc n) = 2 * n + 1

-- whether a weight is 1
abbrev pub is_one : ℤ → Bool
is_one (pos n) = n == 1
is_one (negsuc n) = false

-- The numbers of an entry whose key is g above the least that might be there: twice g where its
-- weight is 1, else one more than that, and then the number of the weight.
abbrev pub entry_numbers : ℕ → ℤ → List ℕ
entry_numbers g w = if is_one w then (2 * g) ∷ [] else (2 * g + 1) ∷ weight_number w ∷ []

-- the numbers of entries, where the key of the first is low or more
abbrev pub list_numbers : ℕ → List (ℕ × ℤ) → List ℕ
list_numbers low [] = []
list_numbers low (e ∷ es) = entry_numbers (e.0 - low) e.1 ++ list_numbers (e.0 + 1) es

-- each weight is one of 64 bits
abbrev pub AreWeights : List (ℕ × ℤ) → Type 0
AreWeights [] = Unit {0}
AreWeights (e ∷ es) = (weight_number e.1 < 2 ^ 64) × AreWeights es

-- The bytes spell entries whose keys ascend from low: for each entry its numbers, and nothing else. For
-- an entry after another that is the distance of the keys less 1.
pub record SpellsFrom (low : ℕ) (es : List (ℕ × ℤ)) (bytes : List ℕ) : Type 0 where
  pub ascending : AscendsFrom low (keys_of es)
  pub weights : AreWeights es
  pub numbers : SpellsNumbers (list_numbers low es) bytes

abbrev pub Spells : Option ℕ → List (ℕ × ℤ) → List ℕ → Type 0
Spells base es bytes = SpellsFrom (least base) es bytes

-- entries with ascending keys, and the number that the keys are above if there is one
pub record BasedList : Type 0 where
  pub base : Option ℕ
  pub entries : List (ℕ × ℤ)

abbrev pub based_list : Option ℕ → List (ℕ × ℤ) → BasedList
based_list base es = record { base = base; entries = es }

abbrev pub IsBasedList : BasedList → Type 0
IsBasedList t = Ascends t.base (keys_of t.entries)
