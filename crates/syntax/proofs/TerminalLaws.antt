-- Laws of reading single terminals.
use Rattle.std.proofs.Common.{◌≡◌, refl, sym, ◌∙◌, ap, Bool, true, false, List, [], ◌∷◌, ◌++◌, Option, Some, None, if◌then◌else◌}
use Rattle.std.proofs.lemmas.Slice.Eq.{bytes_eq-Decides}
use Rattle.std.proofs.lemmas.Bool.{false≢true}
use Rattle.lexer.specs.Spelling.{keyword_spelling, symbol_spelling}
use Rattle.lexer.proofs.SpellingLaws.{keyword_spelling-injective, symbol_spelling-injective}
use Rattle.syntax.specs.Terminals.{Terminal, OfKeyword, OfSymbol}
use Rattle.syntax.specs.Nesting.{◌>>=◌}
use Rattle.syntax.specs.SourceReading.{same_terminal, after_terminal, after_terminals}

-- what a step gave, where both steps gave something
pub bind_some : {A B : Type 0} (read : Option A) (next : A → Option B) (b : B) → (read >>= next) ≡ Some b → (a : A) × (read ≡ Some a) × (next a ≡ Some b)
bind_some None next b is = cc is
bind_some (Some a) next b is = (a, refl, is)

-- terminals without text and place are the same where the test says so
same_terminal-sound : (v w : Terminal) → same_terminal v w ≡ true → v ≡ w
same_terminal-sound (OfKeyword a) (OfKeyword b) is = ap OfKeyword (keyword_spelling-injective a b ((bytes_eq-Decides (keyword_spelling a) (keyword_spelling b)).0 is))
same_terminal-sound (OfSymbol a) (OfSymbol b) is = ap OfSymbol (symbol_spelling-injective a b ((bytes_eq-Decides (symbol_spelling a) (symbol_spelling b)).0 is))
same_terminal-sound (OfKeyword a) _ is = absurd (false≢true is)
same_terminal-sound (OfSymbol a) _ is = absurd (false≢true is)
same_terminal-sound _ _ is = absurd (false≢true is)

after-sound : (terminal w : Terminal) (rest left : List Terminal) (same : Bool) → same_terminal terminal w ≡ same → (if same then Some rest else None) ≡ Some left → w ∷ rest ≡ terminal ∷ left
after-sound terminal w rest left true is found =
    let e : terminal ≡ w = same_terminal-sound terminal w is in
    let f : rest ≡ left = cc found in
    sym (ap (λ v. v ∷ rest) e) ∙ ap (λ r. terminal ∷ r) f
after-sound terminal w rest left false is found = cc found

-- what is after a terminal
pub after_terminal-sound : (terminal : Terminal) (ws rest : List Terminal) → after_terminal terminal ws ≡ Some rest → ws ≡ terminal ∷ rest
after_terminal-sound terminal [] rest is = cc is
after_terminal-sound terminal (w ∷ ws) rest is = after-sound terminal w ws rest (same_terminal terminal w) refl is

pub after_terminals-sound : (terminals ws rest : List Terminal) → after_terminals terminals ws ≡ Some rest → ws ≡ terminals ++ rest
after_terminals-sound [] ws rest is = cc is
after_terminals-sound (terminal ∷ terminals) ws rest is =
    let a = bind_some (after_terminal terminal ws) (after_terminals terminals) rest is in
    after_terminal-sound terminal ws a.0 a.1 ∙ ap (λ r. terminal ∷ r) (after_terminals-sound terminals a.0 rest a.2)
