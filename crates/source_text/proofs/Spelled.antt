-- The terminals of the tokens of a text are spelled.
use Rattle.std.proofs.Common.{ℕ, pos, ◌+◌, ◌≤◌, ◌≤ℤ◌, List, [], ◌∷◌, ◌++◌, length, refl, sym, subst, arith}
use Rattle.std.proofs.lemmas.Int.{ints}
use Rattle.std.specs.List.{AllByRecursion}
use Rattle.decimal.specs.Numbers.{digits_number}
use Rattle.lexer.specs.declared.keyword.Keyword.{Keyword}
use Rattle.lexer.specs.declared.keyword.Keyword.TheVariants as keyword
use Rattle.lexer.specs.declared.token.Token.{Token}
use Rattle.lexer.specs.declared.token.TokenKind.{TokenKind}
use Rattle.lexer.specs.declared.token.TokenKind.TheVariants as kind
use Rattle.lexer.specs.Tokens.{PieceKind, White, Comment, Lexeme, Piece, IsToken, IsSmall, AreSmall, token_of, tokens_from, HasTokens, slice_of, AreTokensFrom}
use Rattle.lexer.proofs.OrderLaws.{HasTokens-AreInOrder}
use Rattle.syntax.specs.Terminals.{keyword_terminal, terminal_of, terminals_of}
use Rattle.source_text.specs.Text.{IsSpelled, AreSpelled}

spelled_keyword : (k : Keyword) (at : ℕ) → IsSpelled (keyword_terminal k at)
spelled_keyword keyword.Element at = refl
spelled_keyword _ at = refl

small_value : (n : ℕ) → pos n ≤ℤ pos 9223372036854775807 → n ≤ 9223372036854775807
small_value n small = omega (arith, ints)

spelled_token : (kind : TokenKind) (bytes : List ℕ) (at : ℕ) → IsToken kind bytes → IsSmall (Lexeme kind) → IsSpelled (terminal_of kind bytes at)
spelled_token kind.Name bytes at is small = is
spelled_token (kind.Number n) bytes at is small =
    (digits_number bytes, small_value (digits_number bytes) (subst (λ z. z ≤ℤ pos 9223372036854775807) (is.2) small), is.2)
spelled_token kind.Label bytes at is small = is
spelled_token kind.Text bytes at is small = is
spelled_token (kind.Keyword terminal) bytes at is small = spelled_keyword terminal at
spelled_token (kind.Symbol symbol) bytes at is small = tt

-- numbers among tokens are small
abbrev HaveSmall : List Token → Type 0
HaveSmall tokens = AllByRecursion (λ token. IsSmall (Lexeme token.kind)) tokens

small_piece : (kind : PieceKind) (start end : ℕ) (more : List Token) → IsSmall kind → HaveSmall more → HaveSmall (token_of kind start end ++ more)
small_piece White start end more small others = others
small_piece Comment start end more small others = others
small_piece (Lexeme kind) start end more small others = (small, others)

small_pieces : (at : ℕ) (pieces : List Piece) → AreSmall pieces → HaveSmall (tokens_from at pieces)
small_pieces at [] small = tt
small_pieces at (piece ∷ pieces) small = small_piece piece.kind at (at + length piece.text) (tokens_from (at + length piece.text) pieces) small.0 (small_pieces (at + length piece.text) pieces small.1)

spelled_terminals : (text : List ℕ) (from : ℕ) (tokens : List Token) → AreTokensFrom text from tokens → HaveSmall tokens → AreSpelled (terminals_of text tokens)
spelled_terminals text from [] order small = tt
spelled_terminals text from (token ∷ tokens) order small =
    (spelled_token token.kind (slice_of text token.span) token.span.start order.3 small.0, spelled_terminals text token.span.end tokens order.4 small.1)

pub terminals_of-AreSpelled : (text : List ℕ) (tokens : List Token) → HasTokens text tokens → AreSpelled (terminals_of text tokens)
terminals_of-AreSpelled text tokens reads =
    spelled_terminals text 0 tokens (HasTokens-AreInOrder text tokens reads) (subst HaveSmall (sym (reads.2)) (small_pieces 0 reads.0 reads.1.small))
