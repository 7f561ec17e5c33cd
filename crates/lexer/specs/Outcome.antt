-- What the public calls answer.
use Rattle.std.specs.Prelude.{ℕ, List, Result, Ok, Err}
use Rattle.std.specs.Global.{Vec}
use Rattle.lexer.specs.declared.token.Token.{Token}
use Rattle.lexer.specs.declared.error.LexError.{LexError}
use Rattle.lexer.specs.declared.error.LexError.TheVariants.{NoMemory}
use Rattle.lexer.specs.Tokens.{Reads}

-- the answer is how the text reads, or that memory ran out
abbrev pub Answers : List ℕ → Result (List Token) LexError → Type 0
Answers text (Err NoMemory) = Unit {0}
Answers text answer = Reads text answer

-- the list in a vector, or the error
abbrev pub tokens_or_error : Result (Vec Token) LexError → Result (List Token) LexError
tokens_or_error (Ok tokens) = Ok tokens.items
tokens_or_error (Err error) = Err error
