-- The numbers and offsets of refusals.
use Rattle.std.specs.Prelude.{ℕ, Option, Some, None}
use Rattle.lexer.specs.declared.error.LexError.{LexError}
use Rattle.lexer.specs.declared.error.LexError.TheVariants.{BadByte, NumberTooLarge, UnfinishedText, NoMemory}

abbrev pub number_of : LexError → ℕ
number_of (BadByte at) = 201
number_of (NumberTooLarge at) = 202
number_of (UnfinishedText at) = 203
number_of NoMemory = 900

-- where the fault stands
abbrev pub offset_of : LexError → Option ℕ
offset_of (BadByte at) = Some at
offset_of (NumberTooLarge at) = Some at
offset_of (UnfinishedText at) = Some at
offset_of NoMemory = None
