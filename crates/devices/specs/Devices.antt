-- What a drain has taken if not all went through, and what a read of a feed says.
use Rattle.std.specs.Prelude.{◌≡◌, ℕ, ◌<◌, List, ◌++◌, length, take, Bool, false, ◌==◌, ◌&&◌, nat_lt, Result, Ok, Err}

-- of these bytes a first part went through, and not all of them
pub record TakesPart (old new bytes : List ℕ) : Type 0 where
  pub count : ℕ
  pub within : count < length bytes
  pub bytes_written : new ≡ old ++ take count bytes

-- whether a read says that there is no more: it gave nothing, though the buffer had room
abbrev pub says_end : {E : Type 0} → Result ℕ E → List ℕ → Bool
says_end (Ok count) buffer = (count == 0) && nat_lt 0 (length buffer)
says_end (Err error) buffer = false
