-- The text of terminals is read as these terminals.
use Rattle.std.proofs.Common.{◌≡◌, ℕ, ◌+◌, true, List, [], ◌∷◌, ◌++◌, length, refl, sym, ◌∙◌, ap, subst, arith, append_assoc, length-append, append-nil}
use Rattle.std.proofs.lemmas.Int.{ints}
use Rattle.lexer.specs.declared.keyword.Keyword.{Keyword}
use Rattle.lexer.specs.declared.keyword.Keyword.TheVariants as keyword
use Rattle.lexer.specs.declared.symbol.Symbol.{Symbol}
use Rattle.lexer.specs.declared.symbol.Symbol.TheVariants as symbol
use Rattle.lexer.specs.Spelling.{is_white}
use Rattle.lexer.specs.inside.Runs.{EndsRun}
use Rattle.lexer.specs.Tokens.{White, Lexeme, Piece, IsSmall, AreSmall, AreLongest, IsReadUpTo, bytes_of, tokens_from, slice_of}
use Rattle.lexer.proofs.LongestLaws.{white_longest}
use Rattle.lexer.proofs.OrderLaws.{slice_between}
use Rattle.syntax.specs.Terminals.{Terminal, Name, Number, Label, Text, LeadingKeyword, OfKeyword, OfSymbol, keyword_terminal, terminal_of, terminals_of}
use Rattle.source_text.specs.Text.{terminal_bytes, keyword_gap, symbol_gap, gap_after, text_of, IsSpelled, AreSpelled, bare, AreAlike, HasTerminals}
use Rattle.source_text.proofs.Longest.{kind_of, terminal_before, first_not_white}

-- what stands after a terminal is white
white_keyword : (k : Keyword) → is_white (keyword_gap k) ≡ true
white_keyword keyword.End = refl
white_keyword _ = refl

white_symbol : (s : Symbol) → is_white (symbol_gap s) ≡ true
white_symbol symbol.Semicolon = refl
white_symbol _ = refl

white_gap : (w : Terminal) → is_white (gap_after w) ≡ true
white_gap (LeadingKeyword terminal at) = white_keyword terminal
white_gap (OfKeyword terminal) = white_keyword terminal
white_gap (OfSymbol symbol) = white_symbol symbol
white_gap _ = refl

-- the pieces of the text of terminals
abbrev pieces_of : List Terminal → List Piece
pieces_of [] = []
pieces_of (w ∷ ws) = record { kind = Lexeme (kind_of w); text = terminal_bytes w } ∷ record { kind = White; text = gap_after w ∷ [] } ∷ pieces_of ws

bytes_of-pieces : (ws : List Terminal) → bytes_of (pieces_of ws) ≡ text_of ws
bytes_of-pieces [] = refl
bytes_of-pieces (w ∷ ws) = ap (λ t. terminal_bytes w ++ gap_after w ∷ t) (bytes_of-pieces ws)

begins_not_white : (ws : List Terminal) → AreSpelled ws → EndsRun is_white (bytes_of (pieces_of ws) ++ [])
begins_not_white [] are = tt
begins_not_white (w ∷ ws) are =
    rw append-nil (first_not_white w (gap_after w ∷ bytes_of (pieces_of ws)) are.0)

are_longest : (ws : List Terminal) → AreSpelled ws → AreLongest (pieces_of ws) []
are_longest [] are = tt
are_longest (w ∷ ws) are = (
  terminal_before w (gap_after w) are.0 (white_gap w) (bytes_of (pieces_of ws) ++ []),
  (white_longest (gap_after w ∷ []) (bytes_of (pieces_of ws) ++ []) (omega arith) (white_gap w, tt) (begins_not_white ws are.1), are_longest ws are.1),
)

is_small : (w : Terminal) → IsSpelled w → IsSmall (Lexeme (kind_of w))
is_small (Number n) is = rw (is.2) (let small = is.1 in omega (arith, ints))
is_small (Name name) is = tt
is_small (Label label) is = tt
is_small (Text bytes) is = tt
is_small (LeadingKeyword terminal at) is = tt
is_small (OfKeyword terminal) is = tt
is_small (OfSymbol symbol) is = tt

are_small : (ws : List Terminal) → AreSpelled ws → AreSmall (pieces_of ws)
are_small [] are = tt
are_small (w ∷ ws) are = (is_small w are.0, (tt, are_small ws are.1))

read_whole : (ws : List Terminal) → AreSpelled ws → IsReadUpTo (text_of ws) (pieces_of ws) []
read_whole ws are = record {
  whole = sym (bytes_of-pieces ws) ∙ sym (append-nil (bytes_of (pieces_of ws)));
  longest = are_longest ws are;
  small = are_small ws are;
}

-- a terminal again, from its kind and its bytes
bare_keyword : (k : Keyword) (at : ℕ) → bare (keyword_terminal k at) ≡ keyword_terminal k 0
bare_keyword keyword.Element at = refl
bare_keyword _ at = refl

terminal_again : (w : Terminal) (at : ℕ) → IsSpelled w → bare (terminal_of (kind_of w) (terminal_bytes w) at) ≡ bare w
terminal_again (Name name) at is = refl
terminal_again (Number n) at is = refl
terminal_again (Label label) at is = refl
terminal_again (Text bytes) at is = refl
terminal_again (LeadingKeyword terminal from) at is = bare_keyword terminal at ∙ is
terminal_again (OfKeyword terminal) at is = bare_keyword terminal at ∙ is
terminal_again (OfSymbol symbol) at is = refl

terminals_again : (ws : List Terminal) (text front : List ℕ) → AreSpelled ws → text ≡ front ++ text_of ws → AreAlike (terminals_of text (tokens_from (length front) (pieces_of ws))) ws
terminals_again [] text front are whole = refl
terminals_again (w ∷ ws) text front are whole =
    let bytes = terminal_bytes w in
    let more : List ℕ = gap_after w ∷ text_of ws in
    let own : slice_of text (record { start = length front; end = length front + length bytes }) ≡ bytes =
    ap (λ t. slice_of t (record { start = length front; end = length front + length bytes })) whole ∙ slice_between front bytes more (length front) (length front + length bytes) refl refl in
    let head : bare (terminal_of (kind_of w) (slice_of text (record { start = length front; end = length front + length bytes })) (length front)) ≡ bare w =
    ap (λ b. bare (terminal_of (kind_of w) b (length front))) own ∙ terminal_again w (length front) are.0 in
    let next : List ℕ = (front ++ bytes) ++ gap_after w ∷ [] in
    let regrouped : text ≡ next ++ text_of ws =
    whole ∙ sym (append_assoc front bytes more) ∙ sym (append_assoc (front ++ bytes) (gap_after w ∷ []) (text_of ws)) in
    let long : length next ≡ length front + length bytes + 1 = omega (arith, length-append (front ++ bytes) (gap_after w ∷ []), length-append front bytes) in
    let tail : AreAlike (terminals_of text (tokens_from (length front + length bytes + 1) (pieces_of ws))) ws =
    subst (λ n. AreAlike (terminals_of text (tokens_from n (pieces_of ws))) ws) long (terminals_again ws text next are.1 regrouped) in
    λ i. head i ∷ tail i

pub text_of-HasTerminals : (ws : List Terminal) → AreSpelled ws → HasTerminals (text_of ws) ws
text_of-HasTerminals ws are = record {
  tokens = tokens_from 0 (pieces_of ws);
  reads = (pieces_of ws, read_whole ws are, refl);
  alike = terminals_again ws (text_of ws) [] are refl;
}
