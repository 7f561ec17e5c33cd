-- Bytes that are written into a buffer.
use Rattle.std.specs.Prelude.{◌≡◌, ℕ, ◌+◌, ◌*◌, ◌^◌, ◌<◌, ◌≤◌, if◌then◌else◌, ℤ, List, [], ◌∷◌, ◌++◌, length, take}
use Rattle.tail_codec.specs.Spelling.{SpellsNumber, SpellsNumbers, entry_numbers, is_one, SpellsFrom}

-- n bytes have room for k
pub record Fits (k n : ℕ) : Type 0 where
  pub some : 0 < n
  pub small : k < 2 ^ (7 * n)

-- The bytes of k are in new from a position on up to the next position, and those before as in old.
pub record WritesNumber (k position : ℕ) (old : List ℕ) (next : ℕ) (new : List ℕ) : Type 0 where
  pub bytes : List ℕ
  pub spells : SpellsNumber k bytes
  pub front : take next new ≡ take position old ++ bytes
  pub after : (n : ℕ) → Fits k n → next ≤ position + n

-- how many bytes an entry of this weight may have
abbrev pub entry_room : ℤ → ℕ
entry_room w = if is_one w then 5 else 15

-- how many bytes entries may have together
abbrev pub list_room : List (ℕ × ℤ) → ℕ
list_room [] = 0
list_room (e ∷ es) = entry_room e.1 + list_room es

-- The bytes of an entry, whose key is g above the least, are in new from a position on.
pub record WritesEntry (g : ℕ) (w : ℤ) (position : ℕ) (old : List ℕ) (next : ℕ) (new : List ℕ) : Type 0 where
  pub bytes : List ℕ
  pub spells : SpellsNumbers (entry_numbers g w) bytes
  pub front : take next new ≡ take position old ++ bytes
  pub after : next ≤ position + entry_room w

-- The first bytes of a buffer, so many, spell the entries.
pub record WritesList (low : ℕ) (es : List (ℕ × ℤ)) (buffer : List ℕ) (len : ℕ) : Type 0 where
  pub spells : SpellsFrom low es (take len buffer)
  pub room : len ≤ length buffer
