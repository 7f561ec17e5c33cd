-- The bytes of a prefix and of chunks.
use Rattle.std.specs.Prelude.{◌≡◌, ℕ, ℤ, Option, Some, List}
use Rattle.std.specs.Map.{keys_of}
use Rattle.tail_codec.specs.Appending.{least_after}
use Rattle.ascending_lists.specs.Ascending.{least}
use Rattle.tail_codec.specs.Spelling.{BasedList, Spells}
use Rattle.c_tree.specs.Chunks.{HeadValue}

-- the tail of a chunk stands over its head
abbrev pub StandsOverItsHead : ℕ × HeadValue → Type 0
StandsOverItsHead c = c.1.tail.base ≡ Some c.0

-- The bytes spell the entries over the base, and what may be after them may be after the tail.
pub record SpellsUpTo (base : Option ℕ) (es : List (ℕ × ℤ)) (last : BasedList) (bytes : List ℕ) : Type 0 where
  pub spells : Spells base es bytes
  pub after : least_after (least last.base) (keys_of last.entries) ≡ least_after (least base) (keys_of es)
