-- Bytes that begin with a number, or with an entry.
use Rattle.std.specs.Prelude.{◌≡◌, ℕ, ◌-◌, ◌^◌, ◌<◌, ◌≤◌, ℤ, List, ◌++◌}
use Rattle.tail_codec.specs.Spelling.{SpellsNumber, SpellsNumbers, entry_numbers, weight_number}

-- The bytes are those of k, which is below 2 ^ 64, and then others.
pub record BeginsWith (k : ℕ) (rest bytes : List ℕ) : Type 0 where
  pub first : List ℕ
  pub cut : bytes ≡ first ++ rest
  pub spells : SpellsNumber k first
  pub fits : k < 2 ^ 64

-- The bytes are those of an entry whose key is low or more, and then others.
pub record BeginsWithEntry (low : ℕ) (e : ℕ × ℤ) (rest bytes : List ℕ) : Type 0 where
  pub least : low ≤ e.0
  pub small : e.0 < 2 ^ 32
  pub weight : weight_number e.1 < 2 ^ 64
  pub first : List ℕ
  pub cut : bytes ≡ first ++ rest
  pub spells : SpellsNumbers (entry_numbers (e.0 - low) e.1) first
