-- A text has one answer.
use Rattle.std.proofs.Common.{◌≡◌, refl, sym, ◌∙◌, ap, subst, ℕ, arith, List, [], ◌∷◌, inl, inr, Result, Ok, Err}
use Rattle.lexer.specs.declared.token.Token.{Token}
use Rattle.lexer.specs.declared.error.LexError.{LexError}
use Rattle.lexer.specs.declared.error.LexError.TheVariants as lexer
use Rattle.lexer.specs.Tokens.{HasTokens, slice_of}
use Rattle.lexer.proofs.ReadingLaws.{reads_unique}
use Rattle.syntax.specs.Terminals.{terminals_of, terminal_of}
use Rattle.syntax.specs.SourceTrees.{SourceTree}
use Rattle.syntax.specs.Nesting.{limit, StaysWithin, PassesAt, nesting_after}
use Rattle.parser.specs.declared.error.ParseError.{ParseError}
use Rattle.parser.specs.declared.error.ParseError.TheVariants.{BadByte, NumberTooLarge, UnfinishedText, Unexpected, TooDeep, NoMemory}
use Rattle.parser.specs.Outcome.{Parses, without_place}

-- tokens that nest within the limit pass it nowhere
stays_or_passes : (text : List ℕ) (n : ℕ) (tokens : List Token) (at : ℕ) → StaysWithin limit n (terminals_of text tokens) → PassesAt text n tokens at → ⊥
stays_or_passes text n [] at stays passes = passes
stays_or_passes text n (token ∷ tokens) at stays (inl passes) = let h = stays.0 in let k = passes.0 in absurd (omega arith)
stays_or_passes text n (token ∷ tokens) at stays (inr passes) =
    stays_or_passes text (nesting_after (terminal_of token.kind (slice_of text token.span) token.span.start) n) tokens at stays.1 passes.1

-- they pass it first at one offset
passes_once : (text : List ℕ) (n : ℕ) (tokens : List Token) (x y : ℕ) → PassesAt text n tokens x → PassesAt text n tokens y → x ≡ y
passes_once text n [] x y a b = absurd a
passes_once text n (token ∷ tokens) x y (inl a) (inl b) = a.1 ∙ sym b.1
passes_once text n (token ∷ tokens) x y (inl a) (inr b) = let h = a.0 in let k = b.0 in absurd (omega arith)
passes_once text n (token ∷ tokens) x y (inr a) (inl b) = let h = a.0 in let k = b.0 in absurd (omega arith)
passes_once text n (token ∷ tokens) x y (inr a) (inr b) =
    passes_once text (nesting_after (terminal_of token.kind (slice_of text token.span) token.span.start) n) tokens x y a.1 b.1

same_tokens : (text : List ℕ) (tokens others : List Token) → HasTokens text tokens → HasTokens text others → tokens ≡ others
same_tokens text tokens others a b = let e : ◌≡◌ {A = Result (List Token) LexError} (Ok tokens) (Ok others) = reads_unique text (Ok tokens) (Ok others) a b in cc

same_terminals : (text : List ℕ) (tokens others : List Token) → HasTokens text tokens → HasTokens text others → terminals_of text tokens ≡ terminals_of text others
same_terminals text tokens others a b = ap (terminals_of text) (same_tokens text tokens others a b)

pub one_answer : (text : List ℕ) (answer other : Result SourceTree ParseError) → Parses text answer → Parses text other → without_place answer ≡ without_place other
one_answer text (Ok sx) (Ok sy) a b = ap Ok (sym (a.only sy (same_terminals text a.tokens b.tokens a.reads b.reads ∙ b.spelled)))
one_answer text (Ok sx) (Err (BadByte y)) a b = let e : ◌≡◌ {A = Result (List Token) LexError} (Ok a.tokens) (Err (lexer.BadByte y)) =
    reads_unique text (Ok a.tokens) (Err (lexer.BadByte y)) a.reads b in cc
one_answer text (Ok sx) (Err (NumberTooLarge y)) a b = let e : ◌≡◌ {A = Result (List Token) LexError} (Ok a.tokens) (Err (lexer.NumberTooLarge y)) =
    reads_unique text (Ok a.tokens) (Err (lexer.NumberTooLarge y)) a.reads b in cc
one_answer text (Ok sx) (Err (UnfinishedText y)) a b = let e : ◌≡◌ {A = Result (List Token) LexError} (Ok a.tokens) (Err (lexer.UnfinishedText y)) =
    reads_unique text (Ok a.tokens) (Err (lexer.UnfinishedText y)) a.reads b in cc
one_answer text (Ok sx) (Err (Unexpected y)) a b = absurd (b.none sx (sym (same_terminals text a.tokens b.tokens a.reads b.reads) ∙ a.spelled))
one_answer text (Ok sx) (Err (TooDeep y)) a b = absurd (stays_or_passes text 0 a.tokens y a.within
    (subst (λ tokens. PassesAt text 0 tokens y) (sym (same_tokens text a.tokens b.tokens a.reads b.reads)) b.passes))
one_answer text (Ok sx) (Err NoMemory) a b = absurd b
one_answer text (Err (BadByte x)) (Ok sy) a b = let e : ◌≡◌ {A = Result (List Token) LexError} (Err (lexer.BadByte x)) (Ok b.tokens) =
    reads_unique text (Err (lexer.BadByte x)) (Ok b.tokens) a b.reads in cc
one_answer text (Err (BadByte x)) (Err (BadByte y)) a b = let e : ◌≡◌ {A = Result (List Token) LexError} (Err (lexer.BadByte x)) (Err (lexer.BadByte y)) =
    reads_unique text (Err (lexer.BadByte x)) (Err (lexer.BadByte y)) a b in cc
one_answer text (Err (BadByte x)) (Err (NumberTooLarge y)) a b = let e : ◌≡◌ {A = Result (List Token) LexError} (Err (lexer.BadByte x)) (Err (lexer.NumberTooLarge y)) =
    reads_unique text (Err (lexer.BadByte x)) (Err (lexer.NumberTooLarge y)) a b in cc
one_answer text (Err (BadByte x)) (Err (UnfinishedText y)) a b = let e : ◌≡◌ {A = Result (List Token) LexError} (Err (lexer.BadByte x)) (Err (lexer.UnfinishedText y)) =
    reads_unique text (Err (lexer.BadByte x)) (Err (lexer.UnfinishedText y)) a b in cc
one_answer text (Err (BadByte x)) (Err (Unexpected y)) a b = let e : ◌≡◌ {A = Result (List Token) LexError} (Err (lexer.BadByte x)) (Ok b.tokens) =
    reads_unique text (Err (lexer.BadByte x)) (Ok b.tokens) a b.reads in cc
one_answer text (Err (BadByte x)) (Err (TooDeep y)) a b = let e : ◌≡◌ {A = Result (List Token) LexError} (Err (lexer.BadByte x)) (Ok b.tokens) =
    reads_unique text (Err (lexer.BadByte x)) (Ok b.tokens) a b.reads in cc
one_answer text (Err (BadByte x)) (Err NoMemory) a b = absurd b
one_answer text (Err (NumberTooLarge x)) (Ok sy) a b = let e : ◌≡◌ {A = Result (List Token) LexError} (Err (lexer.NumberTooLarge x)) (Ok b.tokens) =
    reads_unique text (Err (lexer.NumberTooLarge x)) (Ok b.tokens) a b.reads in cc
one_answer text (Err (NumberTooLarge x)) (Err (BadByte y)) a b = let e : ◌≡◌ {A = Result (List Token) LexError} (Err (lexer.NumberTooLarge x)) (Err (lexer.BadByte y)) =
    reads_unique text (Err (lexer.NumberTooLarge x)) (Err (lexer.BadByte y)) a b in cc
one_answer text (Err (NumberTooLarge x)) (Err (NumberTooLarge y)) a b = let e : ◌≡◌ {A = Result (List Token) LexError} (Err (lexer.NumberTooLarge x)) (Err (lexer.NumberTooLarge y)) =
    reads_unique text (Err (lexer.NumberTooLarge x)) (Err (lexer.NumberTooLarge y)) a b in cc
one_answer text (Err (NumberTooLarge x)) (Err (UnfinishedText y)) a b = let e : ◌≡◌ {A = Result (List Token) LexError} (Err (lexer.NumberTooLarge x)) (Err (lexer.UnfinishedText y)) =
    reads_unique text (Err (lexer.NumberTooLarge x)) (Err (lexer.UnfinishedText y)) a b in cc
one_answer text (Err (NumberTooLarge x)) (Err (Unexpected y)) a b = let e : ◌≡◌ {A = Result (List Token) LexError} (Err (lexer.NumberTooLarge x)) (Ok b.tokens) =
    reads_unique text (Err (lexer.NumberTooLarge x)) (Ok b.tokens) a b.reads in cc
one_answer text (Err (NumberTooLarge x)) (Err (TooDeep y)) a b = let e : ◌≡◌ {A = Result (List Token) LexError} (Err (lexer.NumberTooLarge x)) (Ok b.tokens) =
    reads_unique text (Err (lexer.NumberTooLarge x)) (Ok b.tokens) a b.reads in cc
one_answer text (Err (NumberTooLarge x)) (Err NoMemory) a b = absurd b
one_answer text (Err (UnfinishedText x)) (Ok sy) a b = let e : ◌≡◌ {A = Result (List Token) LexError} (Err (lexer.UnfinishedText x)) (Ok b.tokens) =
    reads_unique text (Err (lexer.UnfinishedText x)) (Ok b.tokens) a b.reads in cc
one_answer text (Err (UnfinishedText x)) (Err (BadByte y)) a b = let e : ◌≡◌ {A = Result (List Token) LexError} (Err (lexer.UnfinishedText x)) (Err (lexer.BadByte y)) =
    reads_unique text (Err (lexer.UnfinishedText x)) (Err (lexer.BadByte y)) a b in cc
one_answer text (Err (UnfinishedText x)) (Err (NumberTooLarge y)) a b = let e : ◌≡◌ {A = Result (List Token) LexError} (Err (lexer.UnfinishedText x)) (Err (lexer.NumberTooLarge y)) =
    reads_unique text (Err (lexer.UnfinishedText x)) (Err (lexer.NumberTooLarge y)) a b in cc
one_answer text (Err (UnfinishedText x)) (Err (UnfinishedText y)) a b = let e : ◌≡◌ {A = Result (List Token) LexError} (Err (lexer.UnfinishedText x)) (Err (lexer.UnfinishedText y)) =
    reads_unique text (Err (lexer.UnfinishedText x)) (Err (lexer.UnfinishedText y)) a b in cc
one_answer text (Err (UnfinishedText x)) (Err (Unexpected y)) a b = let e : ◌≡◌ {A = Result (List Token) LexError} (Err (lexer.UnfinishedText x)) (Ok b.tokens) =
    reads_unique text (Err (lexer.UnfinishedText x)) (Ok b.tokens) a b.reads in cc
one_answer text (Err (UnfinishedText x)) (Err (TooDeep y)) a b = let e : ◌≡◌ {A = Result (List Token) LexError} (Err (lexer.UnfinishedText x)) (Ok b.tokens) =
    reads_unique text (Err (lexer.UnfinishedText x)) (Ok b.tokens) a b.reads in cc
one_answer text (Err (UnfinishedText x)) (Err NoMemory) a b = absurd b
one_answer text (Err (Unexpected x)) (Ok sy) a b = absurd (a.none sy (same_terminals text a.tokens b.tokens a.reads b.reads ∙ b.spelled))
one_answer text (Err (Unexpected x)) (Err (BadByte y)) a b = let e : ◌≡◌ {A = Result (List Token) LexError} (Ok a.tokens) (Err (lexer.BadByte y)) =
    reads_unique text (Ok a.tokens) (Err (lexer.BadByte y)) a.reads b in cc
one_answer text (Err (Unexpected x)) (Err (NumberTooLarge y)) a b = let e : ◌≡◌ {A = Result (List Token) LexError} (Ok a.tokens) (Err (lexer.NumberTooLarge y)) =
    reads_unique text (Ok a.tokens) (Err (lexer.NumberTooLarge y)) a.reads b in cc
one_answer text (Err (Unexpected x)) (Err (UnfinishedText y)) a b = let e : ◌≡◌ {A = Result (List Token) LexError} (Ok a.tokens) (Err (lexer.UnfinishedText y)) =
    reads_unique text (Ok a.tokens) (Err (lexer.UnfinishedText y)) a.reads b in cc
one_answer text (Err (Unexpected x)) (Err (Unexpected y)) a b = refl
one_answer text (Err (Unexpected x)) (Err (TooDeep y)) a b = absurd (stays_or_passes text 0 a.tokens y a.within
    (subst (λ tokens. PassesAt text 0 tokens y) (sym (same_tokens text a.tokens b.tokens a.reads b.reads)) b.passes))
one_answer text (Err (Unexpected x)) (Err NoMemory) a b = absurd b
one_answer text (Err (TooDeep x)) (Ok sy) a b = absurd (stays_or_passes text 0 b.tokens x b.within
    (subst (λ tokens. PassesAt text 0 tokens x) (same_tokens text a.tokens b.tokens a.reads b.reads) a.passes))
one_answer text (Err (TooDeep x)) (Err (BadByte y)) a b = let e : ◌≡◌ {A = Result (List Token) LexError} (Ok a.tokens) (Err (lexer.BadByte y)) =
    reads_unique text (Ok a.tokens) (Err (lexer.BadByte y)) a.reads b in cc
one_answer text (Err (TooDeep x)) (Err (NumberTooLarge y)) a b = let e : ◌≡◌ {A = Result (List Token) LexError} (Ok a.tokens) (Err (lexer.NumberTooLarge y)) =
    reads_unique text (Ok a.tokens) (Err (lexer.NumberTooLarge y)) a.reads b in cc
one_answer text (Err (TooDeep x)) (Err (UnfinishedText y)) a b = let e : ◌≡◌ {A = Result (List Token) LexError} (Ok a.tokens) (Err (lexer.UnfinishedText y)) =
    reads_unique text (Ok a.tokens) (Err (lexer.UnfinishedText y)) a.reads b in cc
one_answer text (Err (TooDeep x)) (Err (Unexpected y)) a b = absurd (stays_or_passes text 0 b.tokens x b.within
    (subst (λ tokens. PassesAt text 0 tokens x) (same_tokens text a.tokens b.tokens a.reads b.reads) a.passes))
one_answer text (Err (TooDeep x)) (Err (TooDeep y)) a b = ap (λ at. Err (TooDeep at))
    (passes_once text 0 b.tokens x y (subst (λ tokens. PassesAt text 0 tokens x) (same_tokens text a.tokens b.tokens a.reads b.reads) a.passes) b.passes)
one_answer text (Err (TooDeep x)) (Err NoMemory) a b = absurd b
one_answer text (Err NoMemory) other a b = absurd a
