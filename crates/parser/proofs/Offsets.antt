-- A refusal stands in the text, or at its end, and so does each terminal of a source.
use Rattle.std.proofs.Common.{sym, ap, subst, ℕ, zero, suc, ◌≤◌, List, [], ◌∷◌, length, drop, inl, inr, Ok, Err, arith, length-append}
use Rattle.std.proofs.Math.Nat.{le_refl}
use Rattle.lexer.specs.declared.keyword.Keyword.{Keyword}
use Rattle.lexer.specs.declared.keyword.Keyword.TheVariants as keyword
use Rattle.lexer.specs.declared.token.Token.{Token}
use Rattle.lexer.specs.declared.token.TokenKind.{TokenKind}
use Rattle.lexer.specs.declared.token.TokenKind.TheVariants as kind
use Rattle.lexer.specs.Tokens.{AreTokensFrom, FaultsAt, bytes_of, slice_of}
use Rattle.lexer.proofs.OrderLaws.{HasTokens-AreInOrder}
use Rattle.syntax.specs.Nesting.{PassesAt, nesting_after}
use Rattle.syntax.specs.Offsets.{StandWhere, StandsWhere}
use Rattle.syntax.specs.SourceSpelling.{source_terminals}
use Rattle.syntax.specs.SourceTrees.{SourceTree}
use Rattle.syntax.specs.Terminals.{keyword_terminal, terminal_of, terminals_of}
use Rattle.parser.specs.declared.error.ParseError.{ParseError}
use Rattle.parser.specs.declared.error.ParseError.TheVariants.{BadByte, NumberTooLarge, UnfinishedText, Unexpected, TooDeep, NoMemory}
use Rattle.parser.specs.Outcome.{Parses, StandsIn, beginning_of}

-- a fault stands after what was read
fault_within : (BeginsFault : List ℕ → Type 0) (text : List ℕ) (at : ℕ) → FaultsAt BeginsFault text at → at ≤ length text
fault_within BeginsFault text at (pieces, rest, read, begins, is) = omega (arith, is, ap length read.whole, length-append (bytes_of pieces) rest)

-- a token begins in the text
passes_within : (text : List ℕ) (n from : ℕ) (tokens : List Token) (at : ℕ) → AreTokensFrom text from tokens → PassesAt text n tokens at → at ≤ length text
passes_within text n from [] at order passes = absurd passes
passes_within text n from (token ∷ tokens) at (follows, within, gaps, is, order) (inl passes) = omega (arith, passes.1, within.0, within.1)
passes_within text n from (token ∷ tokens) at (follows, within, gaps, is, order) (inr passes) =
    passes_within text (nesting_after (terminal_of token.kind (slice_of text token.span) token.span.start) n) token.span.end tokens at order passes.1

beginning_within : (text : List ℕ) (from before : ℕ) (tokens : List Token) → AreTokensFrom text from tokens → beginning_of text (drop before tokens) ≤ length text
beginning_within text from zero [] order = le_refl (length text)
beginning_within text from (suc before) [] order = le_refl (length text)
beginning_within text from zero (token ∷ tokens) (follows, within, gaps, is, order) = omega (arith, within.0, within.1)
beginning_within text from (suc before) (token ∷ tokens) (follows, within, gaps, is, order) = beginning_within text token.span.end before tokens order

pub stands_in : (text : List ℕ) (error : ParseError) → Parses text (Err error) → StandsIn text error
stands_in text (BadByte at) faults = fault_within _ text at faults
stands_in text (NumberTooLarge at) faults = fault_within _ text at faults
stands_in text (UnfinishedText at) faults = fault_within _ text at faults
stands_in text (Unexpected at) no_source =
    subst (λ a. a ≤ length text) (sym no_source.place.1) (beginning_within text 0 no_source.place.0 no_source.tokens (HasTokens-AreInOrder text no_source.tokens no_source.reads))
stands_in text (TooDeep at) deep = passes_within text 0 0 deep.tokens at (HasTokens-AreInOrder text deep.tokens deep.reads) deep.passes
stands_in text NoMemory parses = absurd parses

-- a terminal stands where its token begins
keyword_within : (n : ℕ) (k : Keyword) (at : ℕ) → at ≤ n → StandsWhere (λ a. a ≤ n) (keyword_terminal k at)
keyword_within n keyword.Const at within = within
keyword_within n keyword.Func at within = within
keyword_within n keyword.Var at within = within
keyword_within n keyword.While at within = within
keyword_within n keyword.For at within = within
keyword_within n keyword.If at within = within
keyword_within n keyword.Print at within = within
keyword_within n keyword.ConfigApplyDirection at within = within
keyword_within n keyword.ConfigApplyParallelization at within = within
keyword_within n keyword.ConfigApplyDenseVertexSet at within = within
keyword_within n keyword.FuseApplyFunctions at within = within
keyword_within n keyword.FuseFields at within = within
keyword_within n _ at within = tt

terminal_within : (n : ℕ) (k : TokenKind) (bytes : List ℕ) (at : ℕ) → at ≤ n → StandsWhere (λ a. a ≤ n) (terminal_of k bytes at)
terminal_within n kind.Name bytes at within = within
terminal_within n (kind.Number number) bytes at within = tt
terminal_within n kind.Label bytes at within = within
terminal_within n kind.Text bytes at within = tt
terminal_within n (kind.Keyword k) bytes at within = keyword_within n k at within
terminal_within n (kind.Symbol symbol) bytes at within = tt

tokens_within : (text : List ℕ) (from : ℕ) (tokens : List Token) → AreTokensFrom text from tokens → StandWhere (λ at. at ≤ length text) (terminals_of text tokens)
tokens_within text from [] order = tt
tokens_within text from (token ∷ tokens) (follows, within, gaps, is, order) = (
  terminal_within (length text) token.kind (slice_of text token.span) token.span.start (omega (arith, within.0, within.1)),
  tokens_within text token.span.end tokens order,
)

pub source_within : (text : List ℕ) (source : SourceTree) → Parses text (Ok source) → StandWhere (λ at. at ≤ length text) (source_terminals source)
source_within text source parsed =
    subst (StandWhere (λ at. at ≤ length text)) parsed.spelled (tokens_within text 0 parsed.tokens (HasTokens-AreInOrder text parsed.tokens parsed.reads))
