-- Tokens that have no text and no place: symbols, and keywords that open nothing.
use Rattle.std.specs.Prelude.{Bool, true, false, []}
use Rattle.lexer.specs.declared.token.TokenKind.{TokenKind}
use Rattle.lexer.specs.declared.token.TokenKind.TheVariants as kind
use Rattle.syntax.specs.Terminals.{Terminal, OfKeyword, terminal_of}

-- a terminal that has neither
abbrev is_plain_terminal : Terminal → Bool
is_plain_terminal (OfKeyword terminal) = true
is_plain_terminal _ = false

abbrev pub is_plain : TokenKind → Bool
is_plain (kind.Keyword terminal) = is_plain_terminal (terminal_of (kind.Keyword terminal) [] 0)
is_plain (kind.Symbol symbol) = true
is_plain _ = false

-- the terminal that such a token is
abbrev pub plain_terminal : TokenKind → Terminal
plain_terminal token = terminal_of token [] 0
