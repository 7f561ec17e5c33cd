-- The numbers and offsets of refusals, and what becomes of those of the lexer.
use Rattle.std.specs.Prelude.{ℕ, Option, Some, None}
use Rattle.lexer.specs.declared.error.LexError.{LexError}
use Rattle.lexer.specs.declared.error.LexError.TheVariants as lexer
use Rattle.parser.specs.declared.error.ParseError.{ParseError}
use Rattle.parser.specs.declared.error.ParseError.TheVariants.{BadByte, NumberTooLarge, UnfinishedText, Unexpected, TooDeep, NoMemory}

abbrev pub number_of : ParseError → ℕ
number_of (BadByte at) = 201
number_of (NumberTooLarge at) = 202
number_of (UnfinishedText at) = 203
number_of (Unexpected at) = 211
number_of (TooDeep at) = 212
number_of NoMemory = 900

-- where the fault stands
abbrev pub offset_of : ParseError → Option ℕ
offset_of (BadByte at) = Some at
offset_of (NumberTooLarge at) = Some at
offset_of (UnfinishedText at) = Some at
offset_of (Unexpected at) = Some at
offset_of (TooDeep at) = Some at
offset_of NoMemory = None

abbrev pub of_lexer : LexError → ParseError
of_lexer (lexer.BadByte at) = BadByte at
of_lexer (lexer.NumberTooLarge at) = NumberTooLarge at
of_lexer (lexer.UnfinishedText at) = UnfinishedText at
of_lexer lexer.NoMemory = NoMemory
