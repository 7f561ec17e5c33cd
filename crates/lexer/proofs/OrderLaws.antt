-- The tokens of a text stand in it in their order.
use Rattle.std.proofs.Common.{◌≡◌, ℕ, ◌+◌, ◌-◌, List, [], ◌∷◌, ◌++◌, length, take, drop, refl, sym, ◌∙◌, ap, subst, arith, append_assoc, length-append, append-nil}
use Rattle.std.specs.List.{AllByRecursion}
use Rattle.std.proofs.Math.Seq.{drop-append_seam, take-append_seam}
use Rattle.lexer.specs.declared.token.Token.{Token}
use Rattle.lexer.specs.Tokens.{PieceKind, White, Comment, Lexeme, IsGap, IsPiece, IsToken, Piece, bytes_of, AreLongest, tokens_from, HasTokens, slice_of, AreGaps, AreTokensFrom}

-- one more gap
bytes_of-append : (ps qs : List Piece) → bytes_of (ps ++ qs) ≡ bytes_of ps ++ bytes_of qs
bytes_of-append [] qs = refl
bytes_of-append (p ∷ ps) qs = ap (λ t. p.text ++ t) (bytes_of-append ps qs) ∙ sym (append_assoc p.text (bytes_of ps) (bytes_of qs))

all_gaps-append : (ps qs : List Piece) → AllByRecursion (λ gap. IsGap gap.kind × IsPiece gap.kind gap.text) ps → AllByRecursion (λ gap. IsGap gap.kind × IsPiece gap.kind gap.text) qs
    → AllByRecursion (λ gap. IsGap gap.kind × IsPiece gap.kind gap.text) (ps ++ qs)
all_gaps-append [] qs gaps more = more
all_gaps-append (p ∷ ps) qs gaps more = (gaps.0, all_gaps-append ps qs gaps.1 more)

gaps_more : (gap : List ℕ) (piece : Piece) → AreGaps gap → IsGap piece.kind → IsPiece piece.kind piece.text → AreGaps (gap ++ piece.text)
gaps_more gap piece (pieces, gaps, are) is_gap is = (
  pieces ++ piece ∷ [],
  all_gaps-append pieces (piece ∷ []) gaps ((is_gap, is), tt),
  ap (λ t. t ++ piece.text) are ∙ ap (λ t. bytes_of pieces ++ t) (sym (append-nil piece.text)) ∙ sym (bytes_of-append pieces (piece ∷ [])),
)

-- the bytes between two offsets
pub slice_between : (a b c : List ℕ) (from to : ℕ) → from ≡ length a → to ≡ length a + length b → slice_of (a ++ (b ++ c)) (record { start = from; end = to }) ≡ b
slice_between a b c from to at_from at_to =
    let long : to - from ≡ length b = omega (arith, at_from, at_to) in
    ap (λ n. take n (drop from (a ++ (b ++ c)))) long
    ∙ ap (λ n. take (length b) (drop n (a ++ (b ++ c)))) at_from
    ∙ ap (take (length b)) (drop-append_seam a (b ++ c))
    ∙ take-append_seam b c

-- the pieces, after a front and some gaps, are in order
abbrev InOrder : List ℕ → List Piece → Type 0
InOrder text pieces = (front gap : List ℕ) (from at : ℕ) → AreGaps gap → text ≡ front ++ (gap ++ bytes_of pieces) → from ≡ length front → at ≡ from + length gap
    → AreTokensFrom text from (tokens_from at pieces)

in_order_piece : (kind : PieceKind) (bytes : List ℕ) (pieces : List Piece) (text front gap : List ℕ) (from at : ℕ) → IsPiece kind bytes → InOrder text pieces → AreGaps gap
    → text ≡ front ++ (gap ++ (bytes ++ bytes_of pieces)) → from ≡ length front → at ≡ from + length gap → AreTokensFrom text from (tokens_from at (record { kind = kind; text = bytes } ∷ pieces))
in_order_piece (Lexeme kind) bytes pieces text front gap from at is go gaps whole at_from at_at =
    let between : slice_of text (record { start = from; end = at }) ≡ gap =
    ap (λ t. slice_of t (record { start = from; end = at })) whole ∙ slice_between front gap (bytes ++ bytes_of pieces) from at at_from (omega arith) in
    let regrouped : text ≡ (front ++ gap) ++ (bytes ++ bytes_of pieces) = whole ∙ sym (append_assoc front gap (bytes ++ bytes_of pieces)) in
    let own : slice_of text (record { start = at; end = at + length bytes }) ≡ bytes =
    ap (λ t. slice_of t (record { start = at; end = at + length bytes })) regrouped
    ∙ slice_between (front ++ gap) bytes (bytes_of pieces) at (at + length bytes) (omega (arith, length-append front gap)) (omega (arith, length-append front gap)) in (
      omega arith,
      (omega arith, omega (arith, ap length regrouped, length-append (front ++ gap) (bytes ++ bytes_of pieces), length-append front gap, length-append bytes (bytes_of pieces))),
      subst AreGaps (sym between) gaps,
      subst (IsToken kind) (sym own) is,
      go ((front ++ gap) ++ bytes) [] (at + length bytes) (at + length bytes) ([], tt, refl)
          (regrouped ∙ sym (append_assoc (front ++ gap) bytes (bytes_of pieces))) (omega (arith, length-append (front ++ gap) bytes, length-append front gap)) (omega arith),
    )
in_order_piece White bytes pieces text front gap from at is go gaps whole at_from at_at =
    go front (gap ++ bytes) from (at + length bytes) (gaps_more gap (record { kind = White; text = bytes }) gaps tt is)
    (whole ∙ ap (λ t. front ++ t) (sym (append_assoc gap bytes (bytes_of pieces)))) at_from (omega (arith, length-append gap bytes))
in_order_piece Comment bytes pieces text front gap from at is go gaps whole at_from at_at =
    go front (gap ++ bytes) from (at + length bytes) (gaps_more gap (record { kind = Comment; text = bytes }) gaps tt is)
    (whole ∙ ap (λ t. front ++ t) (sym (append_assoc gap bytes (bytes_of pieces)))) at_from (omega (arith, length-append gap bytes))

in_order : (pieces : List Piece) (text : List ℕ) → AreLongest pieces [] → InOrder text pieces
in_order [] text longest front gap from at gaps whole at_from at_at =
    let rest : drop from text ≡ gap =
    ap (λ t. drop from t) whole ∙ ap (λ n. drop n (front ++ (gap ++ []))) at_from ∙ drop-append_seam front (gap ++ []) ∙ append-nil gap in
    subst AreGaps (sym rest) gaps
in_order (piece ∷ pieces) text longest front gap from at gaps whole at_from at_at =
    in_order_piece piece.kind piece.text pieces text front gap from at longest.0.is (in_order pieces text longest.1) gaps whole at_from at_at

pub HasTokens-AreInOrder : (text : List ℕ) (tokens : List Token) → HasTokens text tokens → AreTokensFrom text 0 tokens
HasTokens-AreInOrder text tokens (pieces, read, are) =
    subst (AreTokensFrom text 0) (sym are) (in_order pieces text read.longest [] [] 0 0 ([], tt, refl) (read.whole ∙ append-nil (bytes_of pieces)) refl refl)
