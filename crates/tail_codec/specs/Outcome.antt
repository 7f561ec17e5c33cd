-- What the calls that make a tail give, case by case.
use Rattle.std.specs.Prelude.{◌≡◌, ℕ, ℤ, Option, Result, Ok, Err, List}
use Rattle.std.specs.Map.{keys_of}
use Rattle.ascending_lists.specs.Ascending.{Ascends}
use Rattle.tail_codec.specs.declared.error.TailError.{TailError}
use Rattle.tail_codec.specs.declared.error.TailError.TheVariants.{NotAscending, BadTail, NoMemory}
use Rattle.tail_codec.specs.Spelling.{BasedList, based_list, Spells}

-- the tail of entries over a base, or the refusal of entries whose keys do not ascend from the base
abbrev pub Encodes : Option ℕ → List (ℕ × ℤ) → Result BasedList TailError → Type 0
Encodes base es (Ok t) = Ascends base (keys_of es) × (t ≡ based_list base es)
Encodes base es (Err NotAscending) = ¬ Ascends base (keys_of es)
Encodes base es (Err BadTail) = ⊥
Encodes base es (Err NoMemory) = Ascends base (keys_of es)

-- the tail that bytes spell over a base, or the refusal of bytes that spell none
abbrev pub Reads : Option ℕ → List ℕ → Result BasedList TailError → Type 0
Reads base bytes (Ok t) = (t.base ≡ base) × Spells base t.entries bytes
Reads base bytes (Err NotAscending) = ⊥
Reads base bytes (Err BadTail) = (es : List (ℕ × ℤ)) → ¬ Spells base es bytes
Reads base bytes (Err NoMemory) = (es : List (ℕ × ℤ)) × Spells base es bytes
