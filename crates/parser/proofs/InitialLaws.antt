-- What reading an initial value comes to, by its first terminals.
use Rattle.std.proofs.Common.{◌≡◌, refl, sym, ap, ◌∙◌, true, List, [], ◌∷◌, Option, Some}
use Rattle.std.proofs.lemmas.Bool.{false≢true}
use Rattle.lexer.specs.declared.keyword.Keyword.{Keyword}
use Rattle.lexer.specs.declared.keyword.Keyword.TheVariants as keyword
use Rattle.lexer.specs.declared.symbol.Symbol.TheVariants as symbol
use Rattle.syntax.specs.Terminals.{Terminal, Identifier, Name, OfKeyword, OfSymbol}
use Rattle.syntax.specs.ExpressionReading.{Reader}
use Rattle.syntax.specs.Nesting.{◌>>=◌}
use Rattle.syntax.specs.SourceTrees.{EndsTree, InitialTree, ApplyModified}
use Rattle.syntax.specs.SourceReading.{after_terminal, after_terminals, closed_by, name_reader, ends_at, method_at, modified_at, initial_at, named_initial}
use Rattle.syntax.proofs.TerminalLaws.{after_terminal-sound, after_terminals-sound}
use Rattle.parser.specs.inside.Fronts.{is_called, called_terminal, begins_call, name_pair_at, modified_by, call_by}
use Rattle.parser.proofs.Steps.{bind_bind, bind_same, after_terminals-append}

-- the names after the parenthesis that `applyModified` opens
abbrev names_by : Identifier → EndsTree → Reader InitialTree
names_by name ends ws =
    name_reader ws >>= λ f. after_terminal (OfSymbol symbol.Comma) f.1 >>= λ b. name_reader b >>= λ v.
    closed_by (OfSymbol symbol.CloseParenthesis ∷ []) (ApplyModified name ends f.0 v.0, v.1)

names_are : (name : Identifier) (ends : EndsTree) (ws : List Terminal)
    → (name_pair_at ws >>= λ p. Some (ApplyModified name ends p.0.0 p.0.1, p.1)) ≡ (after_terminal (OfSymbol symbol.OpenParenthesis) ws >>= names_by name ends)
names_are name ends ws =
    bind_bind (after_terminal (OfSymbol symbol.OpenParenthesis) ws) _ _ _ (λ a.
    bind_bind (name_reader a) _ _ _ (λ f.
    bind_bind (after_terminal (OfSymbol symbol.Comma) f.1) _ _ _ (λ b.
    bind_bind (name_reader b) _ _ _ (λ v.
    bind_bind (after_terminal (OfSymbol symbol.CloseParenthesis) v.1) _ _ (λ c. Some (ApplyModified name ends f.0 v.0, c)) (λ c. refl)
    ∙ sym (bind_bind (after_terminal (OfSymbol symbol.CloseParenthesis) v.1) _ _ (λ c. Some (ApplyModified name ends f.0 v.0, c)) (λ c. refl))))))

modified_is : (name : Identifier) (ws : List Terminal) → modified_at name ws ≡ modified_by name ws
modified_is name ws =
    bind_same (ends_at ws) _ _ (λ e.
    after_terminals-append (OfSymbol symbol.Dot ∷ OfKeyword keyword.ApplyModified ∷ []) (OfSymbol symbol.OpenParenthesis) e.1 (names_by name e.0)
    ∙ bind_same (after_terminals (OfSymbol symbol.Dot ∷ OfKeyword keyword.ApplyModified ∷ []) e.1) _ _ (λ a. sym (names_are name e.0 a)))

named_call : (name : Identifier) (ws : List Terminal) (method : Option Keyword) → is_called method ≡ true → named_initial name ws method ≡ call_by name ws method
named_call name ws (Some keyword.GetVertices) is = refl
named_call name ws (Some keyword.GetOutDegrees) is = refl
named_call name ws (Some keyword.Filter) is = refl
named_call name ws (Some keyword.From) is = modified_is name ws
named_call name ws (Some keyword.To) is = modified_is name ws
named_call name ws (Some keyword.ApplyModified) is = modified_is name ws
named_call name ws _ is = absurd (false≢true is)

pub call_is : (ws : List Terminal) (name : Identifier) (rest : List Terminal) → begins_call ws ≡ true → name_reader ws ≡ Some (name, rest)
    → initial_at ws ≡ call_by name rest (method_at rest)
call_is (Name n ∷ ws) name rest begins is = named_call n ws (method_at ws) begins ∙ ap (λ x. call_by x.0 x.1 (method_at x.1)) (same_pair n name ws rest is)
  where
    same_pair : (m n : Identifier) (ws rest : List Terminal) → ◌≡◌ {A = Option (Identifier × List Terminal)} (Some (m, ws)) (Some (n, rest)) → ◌≡◌ {A = Identifier × List Terminal} (m, ws) (n, rest)
    same_pair m n ws rest is = cc is
call_is _ name rest begins is = absurd (false≢true begins)

pub method_after : (ws rest : List Terminal) → after_terminal (OfSymbol symbol.Dot) ws ≡ Some rest → is_called (method_at ws) ≡ called_terminal rest
method_after ws rest is = ap (λ w. is_called (method_at w)) (after_terminal-sound (OfSymbol symbol.Dot) ws rest is) ∙ go rest
  where
    go : (rest : List Terminal) → is_called (method_at (OfSymbol symbol.Dot ∷ rest)) ≡ called_terminal rest
    go (OfKeyword terminal ∷ rest) = refl
    go _ = refl

pub call_by_method : (name : Identifier) (ws : List Terminal) (method : Keyword) (rest : List Terminal) → after_terminals (OfSymbol symbol.Dot ∷ OfKeyword method ∷ []) ws ≡ Some rest
    → call_by name ws (method_at ws) ≡ call_by name ws (Some method)
call_by_method name ws method rest is = ap (λ w. call_by name ws (method_at w)) (after_terminals-sound (OfSymbol symbol.Dot ∷ OfKeyword method ∷ []) ws rest is)
