-- That a keyword is or is not the first terminal.
use Rattle.std.proofs.Common.{◌≡◌, ◌≢◌, refl, sym, ◌∙◌, ap, ℕ, true, List, ◌∷◌, Option, Some, None, if◌then◌else◌}
use Rattle.std.proofs.lemmas.Slice.Eq.{bytes_eq-Decides}
use Rattle.lexer.specs.declared.keyword.Keyword.{Keyword}
use Rattle.lexer.specs.declared.keyword.Keyword.TheVariants as keyword
use Rattle.lexer.specs.declared.token.TokenKind.{TokenKind}
use Rattle.lexer.specs.declared.token.TokenKind.TheVariants as kind
use Rattle.lexer.specs.Spelling.{keyword_spelling}
use Rattle.syntax.specs.Terminals.{Terminal, OfKeyword, LeadingKeyword, keyword_terminal, terminal_of}
use Rattle.syntax.specs.SourceReading.{same_terminal, after_terminal}
use Rattle.syntax.proofs.TerminalLaws.{after_terminal-sound}

keyword-injective : (a b : Keyword) → OfKeyword a ≡ OfKeyword b → a ≡ b
keyword-injective a b is = cc is

first-injective : (v w : Terminal) (left rest : List Terminal) → v ∷ left ≡ w ∷ rest → v ≡ w
first-injective v w left rest is = cc is

leading_keyword_differs : {A : Type 0} (k : Keyword) (at : ℕ) (word : Keyword) → LeadingKeyword k at ≡ OfKeyword word → A
leading_keyword_differs k at word is = cc is

-- a keyword whose terminal opens nothing
same_keyword : (k : Keyword) (at : ℕ) (word : Keyword) → keyword_terminal k at ≡ OfKeyword word → k ≡ word
same_keyword keyword.Const at word is = leading_keyword_differs keyword.Const at word is
same_keyword keyword.Func at word is = leading_keyword_differs keyword.Func at word is
same_keyword keyword.Var at word is = leading_keyword_differs keyword.Var at word is
same_keyword keyword.While at word is = leading_keyword_differs keyword.While at word is
same_keyword keyword.For at word is = leading_keyword_differs keyword.For at word is
same_keyword keyword.If at word is = leading_keyword_differs keyword.If at word is
same_keyword keyword.Print at word is = leading_keyword_differs keyword.Print at word is
same_keyword keyword.ConfigApplyDirection at word is = leading_keyword_differs keyword.ConfigApplyDirection at word is
same_keyword keyword.ConfigApplyParallelization at word is = leading_keyword_differs keyword.ConfigApplyParallelization at word is
same_keyword keyword.ConfigApplyDenseVertexSet at word is = leading_keyword_differs keyword.ConfigApplyDenseVertexSet at word is
same_keyword keyword.FuseApplyFunctions at word is = leading_keyword_differs keyword.FuseApplyFunctions at word is
same_keyword keyword.FuseFields at word is = leading_keyword_differs keyword.FuseFields at word is
same_keyword k at word is = keyword-injective k word is

-- the kind of a token whose terminal is a keyword
keyword_kind : (found : TokenKind) (bytes : List ℕ) (at : ℕ) (word : Keyword) → terminal_of found bytes at ≡ OfKeyword word → found ≡ kind.Keyword word
keyword_kind kind.Name bytes at word is = cc is
keyword_kind (kind.Number n) bytes at word is = cc is
keyword_kind kind.Label bytes at word is = cc is
keyword_kind kind.Text bytes at word is = cc is
keyword_kind (kind.Keyword k) bytes at word is = ap kind.Keyword (same_keyword k at word is)
keyword_kind (kind.Symbol s) bytes at word is = cc is

-- a token of another kind is not the keyword
pub no_keyword : (found : TokenKind) (bytes : List ℕ) (at : ℕ) (word : Keyword) (ws left : List Terminal) → ws ≡ terminal_of found bytes at ∷ left
    → found ≢ kind.Keyword word → (rest : List Terminal) → ws ≢ OfKeyword word ∷ rest
no_keyword found bytes at word ws left is differs rest same = differs (keyword_kind found bytes at word (first-injective (terminal_of found bytes at) (OfKeyword word) left rest (sym is ∙ same)))

without : (terminal : Terminal) (ws : List Terminal) (found : Option (List Terminal)) → after_terminal terminal ws ≡ found
    → ((rest : List Terminal) → ws ≢ terminal ∷ rest) → after_terminal terminal ws ≡ None
without terminal ws None is differs = is
without terminal ws (Some rest) is differs = absurd (differs rest (after_terminal-sound terminal ws rest is))

-- so nothing is after it
pub none_after : (found : TokenKind) (bytes : List ℕ) (at : ℕ) (word : Keyword) (ws left : List Terminal) → ws ≡ terminal_of found bytes at ∷ left
    → found ≢ kind.Keyword word → after_terminal (OfKeyword word) ws ≡ None
none_after found bytes at word ws left is differs = without (OfKeyword word) ws (after_terminal (OfKeyword word) ws) refl (no_keyword found bytes at word ws left is differs)

-- a token of the keyword is its terminal
pub is_keyword : (found : TokenKind) (bytes : List ℕ) (at : ℕ) (word : Keyword) (ws left : List Terminal) → ws ≡ terminal_of found bytes at ∷ left → found ≡ kind.Keyword word
    → ((at : ℕ) → keyword_terminal word at ≡ OfKeyword word) → ws ≡ OfKeyword word ∷ left
is_keyword found bytes at word ws left is same plain = is ∙ ap (λ k. terminal_of k bytes at ∷ left) same ∙ ap (λ v. v ∷ left) (plain at)

same_terminal-same : (word : Keyword) → same_terminal (OfKeyword word) (OfKeyword word) ≡ true
same_terminal-same word = (bytes_eq-Decides (keyword_spelling word) (keyword_spelling word)).1 refl

-- so what follows it is after it
pub some_after : (found : TokenKind) (bytes : List ℕ) (at : ℕ) (word : Keyword) (ws left : List Terminal) → ws ≡ terminal_of found bytes at ∷ left → found ≡ kind.Keyword word
    → ((at : ℕ) → keyword_terminal word at ≡ OfKeyword word) → after_terminal (OfKeyword word) ws ≡ Some left
some_after found bytes at word ws left is same plain =
    ap (λ l. after_terminal (OfKeyword word) l) (is_keyword found bytes at word ws left is same plain)
    ∙ ap (λ b. if b then Some left else None) (same_terminal-same word)
