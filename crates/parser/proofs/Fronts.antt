-- That one terminal is or is not the first.
use Rattle.std.proofs.Common.{◌≡◌, ◌≢◌, refl, List, ◌∷◌, None}
use Rattle.lexer.specs.declared.keyword.Keyword.TheVariants as keyword
use Rattle.lexer.specs.declared.symbol.Symbol.TheVariants as symbol
use Rattle.syntax.specs.Terminals.{Terminal, OfKeyword, OfSymbol}
use Rattle.syntax.specs.ExpressionReading.{after_or, after_and, after_open_bracket, after_close_bracket, after_open_parenthesis, after_close_parenthesis, after_dot, after_size}

pub none_or : (ws : List Terminal) → ((rest : List Terminal) → ws ≢ OfKeyword keyword.Or ∷ rest) → after_or ws ≡ None
none_or (OfKeyword keyword.Or ∷ rest) other = absurd (other rest refl)
none_or _ other = refl

pub none_and : (ws : List Terminal) → ((rest : List Terminal) → ws ≢ OfKeyword keyword.And ∷ rest) → after_and ws ≡ None
none_and (OfKeyword keyword.And ∷ rest) other = absurd (other rest refl)
none_and _ other = refl

pub none_open_bracket : (ws : List Terminal) → ((rest : List Terminal) → ws ≢ OfSymbol symbol.OpenBracket ∷ rest) → after_open_bracket ws ≡ None
none_open_bracket (OfSymbol symbol.OpenBracket ∷ rest) other = absurd (other rest refl)
none_open_bracket _ other = refl

pub none_close_bracket : (ws : List Terminal) → ((rest : List Terminal) → ws ≢ OfSymbol symbol.CloseBracket ∷ rest) → after_close_bracket ws ≡ None
none_close_bracket (OfSymbol symbol.CloseBracket ∷ rest) other = absurd (other rest refl)
none_close_bracket _ other = refl

pub none_open_parenthesis : (ws : List Terminal) → ((rest : List Terminal) → ws ≢ OfSymbol symbol.OpenParenthesis ∷ rest) → after_open_parenthesis ws ≡ None
none_open_parenthesis (OfSymbol symbol.OpenParenthesis ∷ rest) other = absurd (other rest refl)
none_open_parenthesis _ other = refl

pub none_close_parenthesis : (ws : List Terminal) → ((rest : List Terminal) → ws ≢ OfSymbol symbol.CloseParenthesis ∷ rest) → after_close_parenthesis ws ≡ None
none_close_parenthesis (OfSymbol symbol.CloseParenthesis ∷ rest) other = absurd (other rest refl)
none_close_parenthesis _ other = refl

pub none_dot : (ws : List Terminal) → ((rest : List Terminal) → ws ≢ OfSymbol symbol.Dot ∷ rest) → after_dot ws ≡ None
none_dot (OfSymbol symbol.Dot ∷ rest) other = absurd (other rest refl)
none_dot _ other = refl

pub none_size : (ws : List Terminal) → ((rest : List Terminal) → ws ≢ OfKeyword keyword.GetVertexSetSize ∷ rest) → after_size ws ≡ None
none_size (OfKeyword keyword.GetVertexSetSize ∷ rest) other = absurd (other rest refl)
none_size _ other = refl
