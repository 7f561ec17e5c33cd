-- Laws of how keywords and symbols are spelled.
use Rattle.std.proofs.Common.{◌≡◌, ◌≢◌, ℕ, ◌<◌, ◌≤◌, ◌&&◌, Bool, true, false, List, [], ◌∷◌, ◌⊎◌, inl, inr, Option, Some, None, length, get_or, codes, refl, sym, ◌∙◌, ap, arith, if◌then◌else◌}
use Rattle.std.specs.Str.{bytes_eq}
use Rattle.std.proofs.lemmas.Bool.{and_parts, false≢true}
use Rattle.lexer.specs.declared.keyword.Keyword.{Keyword}
use Rattle.lexer.specs.declared.keyword.Keyword.TheVariants as keyword
use Rattle.lexer.specs.declared.symbol.Symbol.{Symbol}
use Rattle.lexer.specs.declared.symbol.Symbol.TheVariants as symbol
use Rattle.lexer.specs.Spelling.{Every, is_letter, is_word_byte, keyword_spelling, symbol_spelling}
use Rattle.lexer.specs.inside.Runs.{Class, Letter, Punctuation, class_of}
use Rattle.lexer.specs.declared.keyword.TheConstants.{KEYWORDS}
use Rattle.lexer.specs.inside.Spelling.{place_of}
use Rattle.lexer.specs.Tokens.{IsWord}

-- what a keyword is found by
unfoldable keyword_at : List ℕ → Option Keyword
keyword_at text = get_or KEYWORDS (place_of text) None

keyword_at-spelling : (word : Keyword) → keyword_at (keyword_spelling word) ≡ Some word
unfolding keyword_at
keyword_at-spelling keyword.Element = refl
keyword_at-spelling _ = refl

-- where no keyword stands at the place of a text, the text is none
pub none_at : (text : List ℕ) → get_or KEYWORDS (place_of text) None ≡ None → (word : Keyword) → text ≢ keyword_spelling word
unfolding keyword_at
none_at text none word same =
    let e : None ≡ Some word = sym none ∙ ap keyword_at same ∙ keyword_at-spelling word in
    cc

-- a text is no other keyword than the one at its place
pub other_at : (text : List ℕ) (found : Keyword) → get_or KEYWORDS (place_of text) None ≡ Some found → text ≢ keyword_spelling found
    → (word : Keyword) → text ≢ keyword_spelling word
unfolding keyword_at
other_at text found is other word same =
    let e : Some found ≡ Some word = sym is ∙ ap keyword_at same ∙ keyword_at-spelling word in
    let same_word : found ≡ word = cc in
    other (same ∙ ap keyword_spelling (sym same_word))

-- no two keywords are spelled alike
pub keyword_spelling-injective : (v w : Keyword) → keyword_spelling v ≡ keyword_spelling w → v ≡ w
keyword_spelling-injective v w same =
    let e : Some v ≡ Some w = sym (keyword_at-spelling v) ∙ ap keyword_at same ∙ keyword_at-spelling w in
    cc

-- what a symbol is found by
unfoldable symbol_at : List ℕ → Option Symbol
symbol_at text =
    if bytes_eq text (codes "(") then Some symbol.OpenParenthesis else
    if bytes_eq text (codes ")") then Some symbol.CloseParenthesis else
    if bytes_eq text (codes "[") then Some symbol.OpenBracket else
    if bytes_eq text (codes "]") then Some symbol.CloseBracket else
    if bytes_eq text (codes "{") then Some symbol.OpenBrace else
    if bytes_eq text (codes "}") then Some symbol.CloseBrace else
    if bytes_eq text (codes ",") then Some symbol.Comma else
    if bytes_eq text (codes ";") then Some symbol.Semicolon else
    if bytes_eq text (codes ":") then Some symbol.Colon else
    if bytes_eq text (codes ".") then Some symbol.Dot else
    if bytes_eq text (codes "=") then Some symbol.Assign else
    if bytes_eq text (codes "==") then Some symbol.Equal else
    if bytes_eq text (codes "!=") then Some symbol.NotEqual else
    if bytes_eq text (codes "<") then Some symbol.Less else
    if bytes_eq text (codes "<=") then Some symbol.LessOrEqual else
    if bytes_eq text (codes ">") then Some symbol.Greater else
    if bytes_eq text (codes ">=") then Some symbol.GreaterOrEqual else
    if bytes_eq text (codes "+") then Some symbol.Plus else
    if bytes_eq text (codes "-") then Some symbol.Minus else
    if bytes_eq text (codes "*") then Some symbol.Star else
    if bytes_eq text (codes "/") then Some symbol.Slash else
    if bytes_eq text (codes "%") then Some symbol.Percent else
    if bytes_eq text (codes "->") then Some symbol.Arrow else
    if bytes_eq text (codes "+=") then Some symbol.PlusAssign else
    if bytes_eq text (codes "min=") then Some symbol.MinAssign else
    if bytes_eq text (codes "max=") then Some symbol.MaxAssign else
    None

symbol_at-spelling : (s : Symbol) → symbol_at (symbol_spelling s) ≡ Some s
unfolding symbol_at
symbol_at-spelling symbol.OpenParenthesis = refl
symbol_at-spelling _ = refl

-- no two symbols are spelled alike
pub symbol_spelling-injective : (s t : Symbol) → symbol_spelling s ≡ symbol_spelling t → s ≡ t
symbol_spelling-injective s t same =
    let e : Some s ≡ Some t = sym (symbol_at-spelling s) ∙ ap symbol_at same ∙ symbol_at-spelling t in
    cc

-- a test on each byte
unfoldable every : (ℕ → Bool) → List ℕ → Bool
every test [] = true
every test (b ∷ bytes) = test b && every test bytes

every-Every : (test : ℕ → Bool) (bytes : List ℕ) → every test bytes ≡ true → Every test bytes
unfolding every
every-Every test [] passes = tt
every-Every test (b ∷ bytes) passes =
    let parts = and_parts (test b) (every test bytes) passes in
    (parts.0, every-Every test bytes parts.1)

-- a word, as a test
unfoldable is_word : List ℕ → Bool
is_word [] = false
is_word (b ∷ bytes) = is_letter b && every is_word_byte bytes

is_word-IsWord : (text : List ℕ) → is_word text ≡ true → IsWord text
unfolding is_word
is_word-IsWord [] word = false≢true word
is_word-IsWord (b ∷ bytes) word =
    let parts = and_parts (is_letter b) (every is_word_byte bytes) word in
    (parts.0, every-Every is_word_byte bytes parts.1)

is_word-spelling : (word : Keyword) → is_word (keyword_spelling word) ≡ true
unfolding is_word every
is_word-spelling keyword.Element = refl
is_word-spelling _ = refl

-- a keyword is a word
pub keyword_spelling-IsWord : (word : Keyword) → IsWord (keyword_spelling word)
keyword_spelling-IsWord word = is_word-IsWord (keyword_spelling word) (is_word-spelling word)

-- what a symbol is that begins with a byte of this class
abbrev pub SymbolShape : Class → List ℕ → Type 0
SymbolShape Letter text = (text ≡ codes "min=") ⊎ (text ≡ codes "max=")
SymbolShape Punctuation text = (0 < length text) × (length text ≤ 2)
SymbolShape _ text = ⊥

pub symbol_spelling-SymbolShape : (s : Symbol) → SymbolShape (class_of (get_or (symbol_spelling s) 0 0)) (symbol_spelling s)
symbol_spelling-SymbolShape symbol.MinAssign = inl refl
symbol_spelling-SymbolShape symbol.MaxAssign = inr refl
symbol_spelling-SymbolShape _ = (omega arith, omega arith)
