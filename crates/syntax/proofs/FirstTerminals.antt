-- Operators at the front of terminals.
use Rattle.std.proofs.Common.{◌≡◌, refl, sym, ◌∙◌, ap, List, ◌∷◌, ◌++◌, Option, Some, None}
use Rattle.std.proofs.lemmas.List.{append_assoc}
use Rattle.lexer.specs.declared.keyword.Keyword.TheVariants as keyword
use Rattle.lexer.specs.declared.symbol.Symbol.TheVariants as symbol
use Rattle.syntax.specs.declared.operators.Addition.{Addition}
use Rattle.syntax.specs.declared.operators.Addition.TheVariants as additions
use Rattle.syntax.specs.declared.operators.Multiplication.{Multiplication}
use Rattle.syntax.specs.declared.operators.Multiplication.TheVariants as multiplications
use Rattle.syntax.specs.declared.operators.Prefix.{Prefix}
use Rattle.syntax.specs.declared.operators.Prefix.TheVariants as prefixes
use Rattle.syntax.specs.declared.operators.Relation.{Relation}
use Rattle.syntax.specs.declared.operators.Relation.TheVariants as relations
use Rattle.syntax.specs.Terminals.{Terminal, OfKeyword, OfSymbol}
use Rattle.syntax.specs.SourceTrees.{ExpressionTree, ConjunctionTree, ComparisonTree, SumTree, TermTree, UnaryTree, PrimaryTree, LastConjunction, ConjunctionThen, LastComparison, ComparisonThen}
use Rattle.syntax.specs.SourceTrees.{OneSum, TwoSums, LastTerm, TermThen, LastUnary, UnaryThen, Bare, Signed, Variable}
use Rattle.syntax.specs.ExpressionSpelling.{addition_terminal, multiplication_terminal, relation_terminal, prefix_terminal}
use Rattle.syntax.specs.ExpressionEnds.{EndsExpression, EndsConjunction, EndsComparison, EndsSum, EndsTerm, EndsUnary, EndsPrimary, IsExpressionEnd}
use Rattle.syntax.specs.ExpressionReading.{addition, multiplication, relation, prefix, after_or, after_and, after_open_bracket, after_dot}

-- an operator that is found is the first terminal
abbrev pub FrontAt : {O : Type 0} → (O → Terminal) → List Terminal → Option (O × List Terminal) → Type 0
FrontAt terminal ws None = Unit {0}
FrontAt terminal ws (Some o) = ws ≡ terminal o.0 ∷ o.1

abbrev pub TerminalAt : Terminal → List Terminal → Option (List Terminal) → Type 0
TerminalAt w ws None = Unit {0}
TerminalAt w ws (Some after) = ws ≡ w ∷ after

pub addition_at : (ws : List Terminal) → FrontAt addition_terminal ws (addition ws)
addition_at (OfSymbol symbol.Plus ∷ rest) = refl
addition_at (OfSymbol symbol.Minus ∷ rest) = refl
addition_at _ = tt

pub multiplication_at : (ws : List Terminal) → FrontAt multiplication_terminal ws (multiplication ws)
multiplication_at (OfSymbol symbol.Star ∷ rest) = refl
multiplication_at (OfSymbol symbol.Slash ∷ rest) = refl
multiplication_at (OfSymbol symbol.Percent ∷ rest) = refl
multiplication_at _ = tt

pub relation_at : (ws : List Terminal) → FrontAt relation_terminal ws (relation ws)
relation_at (OfSymbol symbol.Equal ∷ rest) = refl
relation_at (OfSymbol symbol.NotEqual ∷ rest) = refl
relation_at (OfSymbol symbol.Less ∷ rest) = refl
relation_at (OfSymbol symbol.LessOrEqual ∷ rest) = refl
relation_at (OfSymbol symbol.Greater ∷ rest) = refl
relation_at (OfSymbol symbol.GreaterOrEqual ∷ rest) = refl
relation_at _ = tt

pub prefix_at : (ws : List Terminal) → FrontAt prefix_terminal ws (prefix ws)
prefix_at (OfSymbol symbol.Minus ∷ rest) = refl
prefix_at (OfKeyword keyword.Not ∷ rest) = refl
prefix_at _ = tt

pub or_at : (ws : List Terminal) → TerminalAt (OfKeyword keyword.Or) ws (after_or ws)
or_at (OfKeyword keyword.Or ∷ rest) = refl
or_at _ = tt

pub and_at : (ws : List Terminal) → TerminalAt (OfKeyword keyword.And) ws (after_and ws)
and_at (OfKeyword keyword.And ∷ rest) = refl
and_at _ = tt

-- the terminal of an operator is found
pub addition_found : (o : Addition) (ws : List Terminal) → addition (addition_terminal o ∷ ws) ≡ Some (o, ws)
addition_found additions.Plus ws = refl
addition_found additions.Minus ws = refl

pub multiplication_found : (o : Multiplication) (ws : List Terminal) → multiplication (multiplication_terminal o ∷ ws) ≡ Some (o, ws)
multiplication_found multiplications.Times ws = refl
multiplication_found multiplications.Divide ws = refl
multiplication_found multiplications.Remainder ws = refl

pub relation_found : (o : Relation) (ws : List Terminal) → relation (relation_terminal o ∷ ws) ≡ Some (o, ws)
relation_found relations.Equal ws = refl
relation_found relations.NotEqual ws = refl
relation_found relations.Less ws = refl
relation_found relations.LessOrEqual ws = refl
relation_found relations.Greater ws = refl
relation_found relations.GreaterOrEqual ws = refl

pub prefix_found : (o : Prefix) (ws : List Terminal) → prefix (prefix_terminal o ∷ ws) ≡ Some (o, ws)
prefix_found prefixes.Minus ws = refl
prefix_found prefixes.Not ws = refl

-- where each level ends
pub ends_primary : (p : PrimaryTree) (rest : List Terminal) → after_open_bracket rest ≡ None → after_dot rest ≡ None → EndsPrimary p rest
ends_primary (Variable name) rest bracket dot = (bracket, dot)
ends_primary _ rest bracket dot = tt

pub ends_unary : (u : UnaryTree) (rest : List Terminal) → after_open_bracket rest ≡ None → after_dot rest ≡ None → EndsUnary u rest
ends_unary (Bare p) rest bracket dot = ends_primary p rest bracket dot
ends_unary (Signed sign u) rest bracket dot = ends_unary u rest bracket dot

pub ends_term : (t : TermTree) (rest : List Terminal) → after_open_bracket rest ≡ None → after_dot rest ≡ None → multiplication rest ≡ None → EndsTerm t rest
ends_term (LastUnary u) rest bracket dot multiplies = (ends_unary u rest bracket dot, multiplies)
ends_term (UnaryThen u o others) rest bracket dot multiplies = ends_term others rest bracket dot multiplies

pub ends_sum : (s : SumTree) (rest : List Terminal) → after_open_bracket rest ≡ None → after_dot rest ≡ None → multiplication rest ≡ None → addition rest ≡ None → EndsSum s rest
ends_sum (LastTerm t) rest bracket dot multiplies adds = (ends_term t rest bracket dot multiplies, adds)
ends_sum (TermThen t o others) rest bracket dot multiplies adds = ends_sum others rest bracket dot multiplies adds

pub ends_comparison : (c : ComparisonTree) (rest : List Terminal) → after_open_bracket rest ≡ None → after_dot rest ≡ None → multiplication rest ≡ None → addition rest ≡ None → relation rest ≡ None
    → EndsComparison c rest
ends_comparison (OneSum s) rest bracket dot multiplies adds relates = (ends_sum s rest bracket dot multiplies adds, relates)
ends_comparison (TwoSums left o right) rest bracket dot multiplies adds relates = ends_sum right rest bracket dot multiplies adds

pub ends_conjunction : (c : ConjunctionTree) (rest : List Terminal) → after_open_bracket rest ≡ None → after_dot rest ≡ None → multiplication rest ≡ None → addition rest ≡ None → relation rest ≡ None
    → after_and rest ≡ None → EndsConjunction c rest
ends_conjunction (LastComparison c) rest bracket dot multiplies adds relates conjoins = (ends_comparison c rest bracket dot multiplies adds relates, conjoins)
ends_conjunction (ComparisonThen c others) rest bracket dot multiplies adds relates conjoins = ends_conjunction others rest bracket dot multiplies adds relates conjoins

pub ends_expression : (e : ExpressionTree) (rest : List Terminal) → IsExpressionEnd rest → EndsExpression e rest
ends_expression (LastConjunction c) rest end = (ends_conjunction c rest end.bracket end.dot end.multiplies end.adds end.relates end.conjoins, end.disjoins)
ends_expression (ConjunctionThen c others) rest end = ends_expression others rest end

-- the operator of a level ends the level below it
pub multiplication_ends : (o : Multiplication) (u : UnaryTree) (ws : List Terminal) → EndsUnary u (multiplication_terminal o ∷ ws)
multiplication_ends multiplications.Times u ws = ends_unary u (OfSymbol symbol.Star ∷ ws) refl refl
multiplication_ends multiplications.Divide u ws = ends_unary u (OfSymbol symbol.Slash ∷ ws) refl refl
multiplication_ends multiplications.Remainder u ws = ends_unary u (OfSymbol symbol.Percent ∷ ws) refl refl

pub addition_ends : (o : Addition) (t : TermTree) (ws : List Terminal) → EndsTerm t (addition_terminal o ∷ ws)
addition_ends additions.Plus t ws = ends_term t (OfSymbol symbol.Plus ∷ ws) refl refl refl
addition_ends additions.Minus t ws = ends_term t (OfSymbol symbol.Minus ∷ ws) refl refl refl

pub relation_ends : (o : Relation) (s : SumTree) (ws : List Terminal) → EndsSum s (relation_terminal o ∷ ws)
relation_ends relations.Equal s ws = ends_sum s (OfSymbol symbol.Equal ∷ ws) refl refl refl refl
relation_ends relations.NotEqual s ws = ends_sum s (OfSymbol symbol.NotEqual ∷ ws) refl refl refl refl
relation_ends relations.Less s ws = ends_sum s (OfSymbol symbol.Less ∷ ws) refl refl refl refl
relation_ends relations.LessOrEqual s ws = ends_sum s (OfSymbol symbol.LessOrEqual ∷ ws) refl refl refl refl
relation_ends relations.Greater s ws = ends_sum s (OfSymbol symbol.Greater ∷ ws) refl refl refl refl
relation_ends relations.GreaterOrEqual s ws = ends_sum s (OfSymbol symbol.GreaterOrEqual ∷ ws) refl refl refl refl

pub and_ends : (c : ComparisonTree) (ws : List Terminal) → EndsComparison c (OfKeyword keyword.And ∷ ws)
and_ends c ws = ends_comparison c (OfKeyword keyword.And ∷ ws) refl refl refl refl refl

pub or_ends : (c : ConjunctionTree) (ws : List Terminal) → EndsConjunction c (OfKeyword keyword.Or ∷ ws)
or_ends c ws = ends_conjunction c (OfKeyword keyword.Or ∷ ws) refl refl refl refl refl refl

pub bracket_ends : (e : ExpressionTree) (ws : List Terminal) → EndsExpression e (OfSymbol symbol.CloseBracket ∷ ws)
bracket_ends e ws = ends_expression e (OfSymbol symbol.CloseBracket ∷ ws)
    (record { bracket = refl; dot = refl; multiplies = refl; adds = refl; relates = refl; conjoins = refl; disjoins = refl })

pub parenthesis_ends : (e : ExpressionTree) (ws : List Terminal) → EndsExpression e (OfSymbol symbol.CloseParenthesis ∷ ws)
parenthesis_ends e ws = ends_expression e (OfSymbol symbol.CloseParenthesis ∷ ws)
    (record { bracket = refl; dot = refl; multiplies = refl; adds = refl; relates = refl; conjoins = refl; disjoins = refl })

-- what stands before a terminal, the terminal and what is after it
pub joined : (ws p ws' q rest : List Terminal) (w : Terminal) (mid : List Terminal) → ws ≡ p ++ mid → mid ≡ w ∷ ws' → ws' ≡ q ++ rest → ws ≡ (p ++ w ∷ q) ++ rest
joined ws p ws' q rest w mid before is after =
    before ∙ ap (λ z. p ++ z) (is ∙ ap (λ z. w ∷ z) after) ∙ sym (append_assoc p (w ∷ q) rest)

pub parted : (ws p q rest : List Terminal) (w : Terminal) → ws ≡ (p ++ w ∷ q) ++ rest → ws ≡ p ++ (w ∷ (q ++ rest))
parted ws p q rest w whole = whole ∙ append_assoc p (w ∷ q) rest
