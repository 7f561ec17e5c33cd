-- Laws of how a text reads: how far it is read, and that it reads in one way.
use Rattle.std.proofs.Common.{◌≡◌, ℕ, pos, ◌+◌, ◌≤◌, ◌⊎◌, inl, inr, List, [], ◌∷◌, ◌++◌, Result, Ok, Err, length, take, drop, refl, sym, ◌∙◌, ap, subst, arith, append_assoc, length-append}
use Rattle.std.proofs.Common.{length-drop, append-nil}
use Rattle.std.proofs.lemmas.Int.{ints}
use Rattle.std.proofs.lemmas.List.{take-append-drop, length-take, drop-drop, drop_all}
use Rattle.decimal.specs.Numbers.{digits_number}
use Rattle.lexer.specs.declared.error.LexError.{LexError}
use Rattle.lexer.specs.declared.error.LexError.TheVariants.{BadByte, NumberTooLarge, UnfinishedText, NoMemory}
use Rattle.lexer.specs.declared.token.Token.{Token}
use Rattle.lexer.specs.declared.token.TokenKind.TheVariants as kind
use Rattle.lexer.specs.inside.Runs.{IsFirst}
use Rattle.lexer.specs.Tokens.{PieceKind, White, Comment, Lexeme, IsGap, IsPiece, Piece, IsLongest, bytes_of, AreLongest, IsSmall, AreSmall, IsReadUpTo, token_of, tokens_from, HasTokens}
use Rattle.lexer.specs.Tokens.{BeginsNoPiece, BeginsBadByte, BeginsUnfinishedText, BeginsLargeNumber, FaultsAt, Reads}
use Rattle.lexer.proofs.KindLaws.{kind_unique}
use Rattle.lexer.proofs.ShapeLaws.{piece_nonempty}

-- the text is read up to an offset, with these tokens
pub record IsReadTo (text : List ℕ) (at : ℕ) (tokens : List Token) : Type 0 where
  pub pieces : List Piece
  pub read : IsReadUpTo text pieces (drop at text)
  pub offset : at ≡ length (bytes_of pieces)
  pub within : at ≤ length text
  pub tokens_are : tokens ≡ tokens_from 0 pieces

-- at first nothing is read
pub read_nothing : (text : List ℕ) → IsReadTo text 0 []
read_nothing text = record {
  pieces = [];
  read = record { whole = refl; longest = tt; small = tt };
  offset = refl;
  within = omega arith;
  tokens_are = refl;
}

-- one more piece
bytes_of-more : (pieces : List Piece) (piece : Piece) (rest : List ℕ) → bytes_of (pieces ++ piece ∷ []) ++ rest ≡ bytes_of pieces ++ (piece.text ++ rest)
bytes_of-more [] piece rest = ap (λ t. t ++ rest) (append-nil piece.text)
bytes_of-more (p ∷ pieces) piece rest =
    append_assoc p.text (bytes_of (pieces ++ piece ∷ [])) rest
    ∙ ap (λ t. p.text ++ t) (bytes_of-more pieces piece rest)
    ∙ sym (append_assoc p.text (bytes_of pieces) (piece.text ++ rest))

length-bytes_of-more : (pieces : List Piece) (piece : Piece) → length (bytes_of (pieces ++ piece ∷ [])) ≡ length (bytes_of pieces) + length piece.text
length-bytes_of-more [] piece = omega (arith, length-append piece.text (bytes_of []))
length-bytes_of-more (p ∷ pieces) piece =
    omega (arith, length-append p.text (bytes_of (pieces ++ piece ∷ [])), length-append p.text (bytes_of pieces), length-bytes_of-more pieces piece)

AreLongest-more : (pieces : List Piece) (piece : Piece) (rest : List ℕ) → AreLongest pieces (piece.text ++ rest) → IsLongest piece rest → AreLongest (pieces ++ piece ∷ []) rest
AreLongest-more [] piece rest longest last = (last, tt)
AreLongest-more (p ∷ pieces) piece rest longest last =
    (subst (IsLongest p) (sym (bytes_of-more pieces piece rest)) longest.0, AreLongest-more pieces piece rest longest.1 last)

AreSmall-more : (pieces : List Piece) (piece : Piece) → AreSmall pieces → IsSmall piece.kind → AreSmall (pieces ++ piece ∷ [])
AreSmall-more [] piece small last = (last, tt)
AreSmall-more (p ∷ pieces) piece small last = (small.0, AreSmall-more pieces piece small.1 last)

tokens_from-more : (at : ℕ) (pieces : List Piece) (piece : Piece) → tokens_from at (pieces ++ piece ∷ []) ≡ tokens_from at pieces
    ++ token_of piece.kind (at + length (bytes_of pieces)) (at + length (bytes_of pieces) + length piece.text)
tokens_from-more at [] piece =
    append-nil (token_of piece.kind at (at + length piece.text))
    ∙ ap (λ n. token_of piece.kind n (n + length piece.text)) (omega arith)
tokens_from-more at (p ∷ pieces) piece =
    let front = token_of p.kind at (at + length p.text) in
    let from : at + length p.text + length (bytes_of pieces) ≡ at + length (p.text ++ bytes_of pieces) = omega (arith, length-append p.text (bytes_of pieces)) in
    ap (λ t. front ++ t) (tokens_from-more (at + length p.text) pieces piece)
    ∙ sym (append_assoc front (tokens_from (at + length p.text) pieces) _)
    ∙ ap (λ n. (front ++ tokens_from (at + length p.text) pieces) ++ token_of piece.kind n (n + length piece.text)) from

pub read_more : (text : List ℕ) (at : ℕ) (tokens : List Token) (kind : PieceKind) (len : ℕ) → IsReadTo text at tokens → IsFirst kind (drop at text) len
    → IsReadTo text (at + len) (tokens ++ token_of kind at (at + len))
read_more text at tokens kind len before first =
    let piece : Piece = record { kind = kind; text = take len (drop at text) } in
    let rest : drop len (drop at text) ≡ drop (at + len) text = drop-drop len at text in
    let cut : drop at text ≡ piece.text ++ drop (at + len) text = sym (take-append-drop len (drop at text)) ∙ ap (λ r. piece.text ++ r) rest in
    let long : len ≡ length piece.text = omega (arith, first.within, length-take {A = ℕ}) in
    let from : at ≡ 0 + length (bytes_of before.pieces) = omega (arith, before.offset) in
    let longest : IsLongest piece (drop (at + len) text) = subst (IsLongest piece) rest first.longest in
    record {
      pieces = before.pieces ++ piece ∷ [];
      read = record {
        whole = before.read.whole ∙ ap (λ r. bytes_of before.pieces ++ r) cut ∙ sym (bytes_of-more before.pieces piece (drop (at + len) text));
        longest = AreLongest-more before.pieces piece (drop (at + len) text) (subst (AreLongest before.pieces) cut before.read.longest) longest;
        small = AreSmall-more before.pieces piece before.read.small first.small;
      };
      offset = omega (arith, before.offset, long, length-bytes_of-more before.pieces piece);
      within = omega (arith, before.within, first.within, length-drop at text);
      tokens_are =
          ap (λ n. tokens ++ token_of kind n (n + len)) from
          ∙ ap (λ n. tokens ++ token_of kind (0 + length (bytes_of before.pieces)) (0 + length (bytes_of before.pieces) + n)) long
          ∙ ap (λ t. t ++ token_of kind (0 + length (bytes_of before.pieces)) (0 + length (bytes_of before.pieces) + length piece.text)) before.tokens_are
          ∙ sym (tokens_from-more 0 before.pieces piece);
    }

-- white bytes and comments are no tokens
pub read_gap : (text : List ℕ) (at : ℕ) (tokens : List Token) (kind : PieceKind) (len : ℕ) → IsReadTo text at tokens → IsGap kind → IsFirst kind (drop at text) len → IsReadTo text (at + len) tokens
read_gap text at tokens White len before gap first =
    subst (IsReadTo text (at + len)) (append-nil tokens) (read_more text at tokens White len before first)
read_gap text at tokens Comment len before gap first =
    subst (IsReadTo text (at + len)) (append-nil tokens) (read_more text at tokens Comment len before first)
read_gap text at tokens (Lexeme kind) len before gap first = absurd gap

-- in the end all is read
pub read_whole : (text : List ℕ) (at : ℕ) (tokens : List Token) → IsReadTo text at tokens → length text ≤ at → HasTokens text tokens
read_whole text at tokens before past =
    (before.pieces, subst (IsReadUpTo text before.pieces) (drop_all at text past) before.read, before.tokens_are)

-- or there is a fault
pub read_fault : (BeginsFault : List ℕ → Type 0) (text : List ℕ) (at : ℕ) (tokens : List Token) → IsReadTo text at tokens → BeginsFault (drop at text) → FaultsAt BeginsFault text at
read_fault BeginsFault text at tokens before fault = (before.pieces, drop at text, before.read, fault, before.offset)

-- of two fronts of a text one begins the other
prefixes : (xs ys a b : List ℕ) → xs ++ a ≡ ys ++ b → ((more : List ℕ) × (ys ≡ xs ++ more) × (a ≡ more ++ b)) ⊎ ((more : List ℕ) × (xs ≡ ys ++ more) × (b ≡ more ++ a))
prefixes [] ys a b same = inl (ys, refl, same)
prefixes (x ∷ xs) [] a b same = inr (x ∷ xs, refl, sym same)
prefixes (x ∷ xs) (y ∷ ys) a b same =
    let head : x ≡ y = cc in
    let tail : xs ++ a ≡ ys ++ b = cc in
    elim (prefixes xs ys a b tail) [
      | inl (more, longer, rest) ↦ inl (more, cc (head, longer), rest)
      | inr (more, longer, rest) ↦ inr (more, cc (head, longer), rest)
    ]

no_longer : (p q : Piece) (a b more : List ℕ) → IsLongest p a → IsPiece q.kind q.text → q.text ≡ p.text ++ more → a ≡ more ++ b → (p.text ≡ q.text) × (a ≡ b)
no_longer p q a b more longest is longer rest =
    let none : more ≡ [] = longest.longest q.kind more b rest (subst (IsPiece q.kind) longer is) in (
      sym (longer ∙ ap (λ m. p.text ++ m) none ∙ append-nil p.text),
      rest ∙ ap (λ m. m ++ b) none,
    )

-- one piece is the longest at a place
first_unique : (p q : Piece) (a b : List ℕ) → IsLongest p a → IsLongest q b → p.text ++ a ≡ q.text ++ b → (p ≡ q) × (a ≡ b)
first_unique p q a b of_p of_q same =
    let texts : (p.text ≡ q.text) × (a ≡ b) =
    elim (prefixes p.text q.text a b same) [
      | inl (more, longer, rest) ↦ no_longer p q a b more of_p of_q.is longer rest
      | inr (more, longer, rest) ↦
          let turned = no_longer q p b a more of_q of_p.is longer rest in
          (sym (turned.0), sym (turned.1))
    ] in
    let kinds : p.kind ≡ q.kind = kind_unique p.kind q.kind q.text (subst (IsPiece p.kind) (texts.0) of_p.is) of_q.is in
    (ap (λ k. record { kind = k; text = p.text }) kinds ∙ ap (λ t. record { kind = q.kind; text = t }) (texts.0), texts.1)

-- no piece can be read here
abbrev IsStuck : List ℕ → Type 0
IsStuck rest = (piece : Piece) (more : List ℕ) → rest ≡ piece.text ++ more → IsLongest piece more → IsSmall piece.kind → ⊥

no_piece_at_end : BeginsNoPiece []
no_piece_at_end kind [] rest same is = piece_nonempty kind is
no_piece_at_end kind (b ∷ text) rest same is = cc

stuck_at_end : IsStuck []
stuck_at_end piece more same longest small = no_piece_at_end piece.kind piece.text more same longest.is

stuck_without_piece : (rest : List ℕ) → BeginsNoPiece rest → IsStuck rest
stuck_without_piece rest none piece more same longest small = none piece.kind piece.text more same longest.is

stuck_at_large : (rest : List ℕ) → BeginsLargeNumber rest → IsStuck rest
stuck_at_large rest (digits, after, whole, longest, large) piece more same of_piece small =
    let number : Piece = record { kind = Lexeme (kind.Number (pos (digits_number digits))); text = digits } in
    let one : number ≡ piece = (first_unique number piece after more longest of_piece (sym whole ∙ same)).0 in
    let too_small : IsSmall (Lexeme (kind.Number (pos (digits_number digits)))) = subst IsSmall (sym (ap (λ p. p.kind) one)) small in
    omega (arith, ints, too_small, large)

stuck_at_bad : (rest : List ℕ) → BeginsBadByte rest → IsStuck rest
stuck_at_bad [] bad = absurd bad
stuck_at_bad (b ∷ rest) bad = stuck_without_piece (b ∷ rest) bad.1

stuck_at_text : (rest : List ℕ) → BeginsUnfinishedText rest → IsStuck rest
stuck_at_text [] bad = absurd bad
stuck_at_text (b ∷ rest) bad = stuck_without_piece (b ∷ rest) bad.1

-- one list of pieces leads to where reading is stuck
not_stuck : (p : Piece) (pieces : List Piece) (r s : List ℕ) → IsStuck r → AreLongest (p ∷ pieces) s → AreSmall (p ∷ pieces) → r ≡ bytes_of (p ∷ pieces) ++ s → ⊥
not_stuck p pieces r s stuck longest small same =
    stuck p (bytes_of pieces ++ s) (same ∙ append_assoc p.text (bytes_of pieces) s) longest.0 small.0

pieces_unique : (ps qs : List Piece) (r s : List ℕ) → IsStuck r → IsStuck s → AreLongest ps r → AreLongest qs s → AreSmall ps → AreSmall qs → bytes_of ps ++ r ≡ bytes_of qs ++ s → (ps ≡ qs) × (r ≡ s)
pieces_unique [] [] r s stuck_r stuck_s of_ps of_qs small_ps small_qs same = (refl, same)
pieces_unique [] (q ∷ qs) r s stuck_r stuck_s of_ps of_qs small_ps small_qs same = absurd (not_stuck q qs r s stuck_r of_qs small_qs same)
pieces_unique (p ∷ ps) [] r s stuck_r stuck_s of_ps of_qs small_ps small_qs same = absurd (not_stuck p ps s r stuck_s of_ps small_ps (sym same))
pieces_unique (p ∷ ps) (q ∷ qs) r s stuck_r stuck_s of_ps of_qs small_ps small_qs same =
    let regrouped : p.text ++ (bytes_of ps ++ r) ≡ q.text ++ (bytes_of qs ++ s) =
    sym (append_assoc p.text (bytes_of ps) r) ∙ same ∙ append_assoc q.text (bytes_of qs) s in
    let first = first_unique p q (bytes_of ps ++ r) (bytes_of qs ++ s) of_ps.0 of_qs.0 regrouped in
    let behind = pieces_unique ps qs r s stuck_r stuck_s of_ps.1 of_qs.1 small_ps.1 small_qs.1 first.1 in
    (cc (first.0, behind.0), behind.1)

read_unique : (text : List ℕ) (ps qs : List Piece) (r s : List ℕ) → IsStuck r → IsStuck s → IsReadUpTo text ps r → IsReadUpTo text qs s → (ps ≡ qs) × (r ≡ s)
read_unique text ps qs r s stuck_r stuck_s of_ps of_qs =
    pieces_unique ps qs r s stuck_r stuck_s of_ps.longest of_qs.longest of_ps.small of_qs.small (sym of_ps.whole ∙ of_qs.whole)

-- where reading stops, and what it answers there
abbrev Stops : Result (List Token) LexError → List Piece → List ℕ → Type 0
Stops (Ok tokens) pieces rest = (rest ≡ []) × (tokens ≡ tokens_from 0 pieces)
Stops (Err (BadByte at)) pieces rest = BeginsBadByte rest × (at ≡ length (bytes_of pieces))
Stops (Err (NumberTooLarge at)) pieces rest = BeginsLargeNumber rest × (at ≡ length (bytes_of pieces))
Stops (Err (UnfinishedText at)) pieces rest = BeginsUnfinishedText rest × (at ≡ length (bytes_of pieces))
Stops (Err NoMemory) pieces rest = ⊥

record IsStopped (text : List ℕ) (answer : Result (List Token) LexError) : Type 0 where
  pieces : List Piece
  rest : List ℕ
  read : IsReadUpTo text pieces rest
  stuck : IsStuck rest
  stops : Stops answer pieces rest

stopped : (text : List ℕ) (answer : Result (List Token) LexError) → Reads text answer → IsStopped text answer
stopped text (Ok tokens) (pieces, read, are) =
    record { pieces = pieces; rest = []; read = read; stuck = stuck_at_end; stops = (refl, are) }
stopped text (Err (BadByte at)) (pieces, rest, read, bad, offset) =
    record { pieces = pieces; rest = rest; read = read; stuck = stuck_at_bad rest bad; stops = (bad, offset) }
stopped text (Err (NumberTooLarge at)) (pieces, rest, read, large, offset) =
    record { pieces = pieces; rest = rest; read = read; stuck = stuck_at_large rest large; stops = (large, offset) }
stopped text (Err (UnfinishedText at)) (pieces, rest, read, unfinished, offset) =
    record { pieces = pieces; rest = rest; read = read; stuck = stuck_at_text rest unfinished; stops = (unfinished, offset) }
stopped text (Err NoMemory) reads = absurd reads

-- a rest has one fault at most
bad_or_large : (rest : List ℕ) → BeginsNoPiece rest → BeginsLargeNumber rest → ⊥
bad_or_large rest none (digits, after, whole, longest, large) = none (Lexeme (kind.Number (pos (digits_number digits)))) digits after whole longest.is

without_piece : (rest : List ℕ) → BeginsBadByte rest → BeginsNoPiece rest
without_piece [] bad = absurd bad
without_piece (b ∷ rest) bad = bad.1

without_text : (rest : List ℕ) → BeginsUnfinishedText rest → BeginsNoPiece rest
without_text [] bad = absurd bad
without_text (b ∷ rest) bad = bad.1

bad_or_text : (rest : List ℕ) → BeginsBadByte rest → BeginsUnfinishedText rest → ⊥
bad_or_text [] bad unfinished = bad
bad_or_text (b ∷ rest) bad unfinished = bad.0 unfinished.0

large_at_end : BeginsLargeNumber [] → ⊥
large_at_end = bad_or_large [] no_piece_at_end

one_stop : (a b : Result (List Token) LexError) (pieces : List Piece) (rest : List ℕ) → Stops a pieces rest → Stops b pieces rest → a ≡ b
one_stop (Ok xs) (Ok ys) pieces rest of_a of_b = ap Ok (of_a.1 ∙ sym (of_b.1))
one_stop (Ok xs) (Err (BadByte at)) pieces rest of_a of_b = absurd (subst BeginsBadByte of_a.0 of_b.0)
one_stop (Ok xs) (Err (NumberTooLarge at)) pieces rest of_a of_b = absurd (large_at_end (subst BeginsLargeNumber of_a.0 of_b.0))
one_stop (Ok xs) (Err (UnfinishedText at)) pieces rest of_a of_b = absurd (subst BeginsUnfinishedText of_a.0 of_b.0)
one_stop (Err (BadByte at)) (Ok ys) pieces rest of_a of_b = absurd (subst BeginsBadByte of_b.0 of_a.0)
one_stop (Err (NumberTooLarge at)) (Ok ys) pieces rest of_a of_b = absurd (large_at_end (subst BeginsLargeNumber of_b.0 of_a.0))
one_stop (Err (UnfinishedText at)) (Ok ys) pieces rest of_a of_b = absurd (subst BeginsUnfinishedText of_b.0 of_a.0)
one_stop (Err (BadByte at)) (Err (BadByte to)) pieces rest of_a of_b = ap (λ n. Err (BadByte n)) (of_a.1 ∙ sym (of_b.1))
one_stop (Err (BadByte at)) (Err (NumberTooLarge to)) pieces rest of_a of_b = absurd (bad_or_large rest (without_piece rest of_a.0) of_b.0)
one_stop (Err (BadByte at)) (Err (UnfinishedText to)) pieces rest of_a of_b = absurd (bad_or_text rest of_a.0 of_b.0)
one_stop (Err (NumberTooLarge at)) (Err (NumberTooLarge to)) pieces rest of_a of_b = ap (λ n. Err (NumberTooLarge n)) (of_a.1 ∙ sym (of_b.1))
one_stop (Err (NumberTooLarge at)) (Err (BadByte to)) pieces rest of_a of_b = absurd (bad_or_large rest (without_piece rest of_b.0) of_a.0)
one_stop (Err (NumberTooLarge at)) (Err (UnfinishedText to)) pieces rest of_a of_b = absurd (bad_or_large rest (without_text rest of_b.0) of_a.0)
one_stop (Err (UnfinishedText at)) (Err (UnfinishedText to)) pieces rest of_a of_b = ap (λ n. Err (UnfinishedText n)) (of_a.1 ∙ sym (of_b.1))
one_stop (Err (UnfinishedText at)) (Err (BadByte to)) pieces rest of_a of_b = absurd (bad_or_text rest of_b.0 of_a.0)
one_stop (Err (UnfinishedText at)) (Err (NumberTooLarge to)) pieces rest of_a of_b = absurd (bad_or_large rest (without_text rest of_a.0) of_b.0)
one_stop (Err NoMemory) b pieces rest of_a of_b = absurd of_a
one_stop (Ok xs) (Err NoMemory) pieces rest of_a of_b = absurd of_b
one_stop (Err (BadByte at)) (Err NoMemory) pieces rest of_a of_b = absurd of_b
one_stop (Err (NumberTooLarge at)) (Err NoMemory) pieces rest of_a of_b = absurd of_b
one_stop (Err (UnfinishedText at)) (Err NoMemory) pieces rest of_a of_b = absurd of_b

-- a text reads in one way
pub reads_unique : (text : List ℕ) (a b : Result (List Token) LexError) → Reads text a → Reads text b → a ≡ b
reads_unique text a b of_a of_b =
    let at_a = stopped text a of_a in
    let at_b = stopped text b of_b in
    let same = read_unique text at_a.pieces at_b.pieces at_a.rest at_b.rest at_a.stuck at_b.stuck at_a.read at_b.read in
    one_stop a b at_b.pieces at_b.rest
    (subst (λ p. Stops a p at_b.rest) same.0 (subst (Stops a at_a.pieces) same.1 at_a.stops)) at_b.stops
