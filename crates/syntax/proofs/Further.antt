-- Where an expression does not end, another goes on.
use Rattle.std.proofs.Common.{◌≡◌, refl, sym, ◌∙◌, ap, pos, ◌⊎◌, inl, inr, List, [], ◌∷◌, ◌++◌, Option, Some, None}
use Rattle.std.proofs.lemmas.List.{append_assoc}
use Rattle.lexer.specs.declared.keyword.Keyword.TheVariants as keyword
use Rattle.lexer.specs.declared.symbol.Symbol.TheVariants as symbol
use Rattle.syntax.specs.declared.operators.Addition.{Addition}
use Rattle.syntax.specs.declared.operators.Multiplication.{Multiplication}
use Rattle.syntax.specs.declared.operators.Relation.{Relation}
use Rattle.syntax.specs.Terminals.{Terminal, OfKeyword, OfSymbol, Identifier}
use Rattle.syntax.specs.SourceTrees.{ExpressionTree, ConjunctionTree, ComparisonTree, SumTree, TermTree, UnaryTree, PrimaryTree, LastConjunction, ConjunctionThen, LastComparison, ComparisonThen}
use Rattle.syntax.specs.SourceTrees.{OneSum, TwoSums, LastTerm, TermThen, LastUnary, UnaryThen, Bare, Signed, Literal, Truth, Variable, Entry, Size, Parentheses}
use Rattle.syntax.specs.ExpressionSpelling.{addition_terminal, multiplication_terminal, relation_terminal, prefix_terminal, expression_terminals, conjunction_terminals, comparison_terminals}
use Rattle.syntax.specs.ExpressionSpelling.{sum_terminals, term_terminals, unary_terminals, primary_terminals}
use Rattle.syntax.specs.ExpressionEnds.{EndsExpression, EndsConjunction, EndsComparison, EndsSum, EndsTerm, EndsUnary, EndsPrimary}
use Rattle.syntax.specs.ExpressionReading.{addition, multiplication, relation, after_or, after_and, after_open_bracket, after_dot}
use Rattle.syntax.proofs.FirstTerminals.{FrontAt, TerminalAt, addition_at, multiplication_at, relation_at, or_at, and_at}
use Rattle.syntax.proofs.Operands.{open_bracket_at, dot_at}

-- another has its terminals, then this one, and then more
abbrev pub Longer : {A : Type 0} → (A → List Terminal) → A → Terminal → Type 0
Longer {A = A} spelled x w = (longer : A) × (more : List Terminal) × (spelled longer ≡ spelled x ++ w ∷ more)

-- some tree of each level
abbrev one_unary : UnaryTree
one_unary = Bare (Literal (pos 0))

abbrev one_term : TermTree
one_term = LastUnary one_unary

abbrev one_sum : SumTree
one_sum = LastTerm one_term

abbrev one_comparison : ComparisonTree
one_comparison = OneSum one_sum

abbrev one_conjunction : ConjunctionTree
one_conjunction = LastComparison one_comparison

abbrev one_expression : ExpressionTree
one_expression = LastConjunction one_conjunction

first_same : (w v : Terminal) (rest after : List Terminal) → w ∷ rest ≡ v ∷ after → w ≡ v
first_same w v rest after is = cc

-- an operator and an operand go on
onto : {A : Type 0} (spelled : A → List Terminal) (x longer : A) (w v : Terminal) (rest after more : List Terminal)
    → w ∷ rest ≡ v ∷ after → spelled longer ≡ spelled x ++ v ∷ more → Longer spelled x w
onto spelled x longer w v rest after more is terminals =
    (longer, more, terminals ∙ ap (λ u. spelled x ++ u ∷ more) (sym (first_same w v rest after is)))

-- what goes on goes on after what stands before it
carried : (p q q' : List Terminal) (v w : Terminal) (more : List Terminal) → q' ≡ q ++ w ∷ more → p ++ v ∷ q' ≡ (p ++ v ∷ q) ++ w ∷ more
carried p q q' v w more is = ap (λ z. p ++ v ∷ z) is ∙ sym (append_assoc p (v ∷ q) (w ∷ more))

named_goes : (name : Identifier) (w : Terminal) (rest : List Terminal) (bracket dot : Option (List Terminal))
    → after_open_bracket (w ∷ rest) ≡ bracket → TerminalAt (OfSymbol symbol.OpenBracket) (w ∷ rest) bracket
    → after_dot (w ∷ rest) ≡ dot → TerminalAt (OfSymbol symbol.Dot) (w ∷ rest) dot
    → EndsPrimary (Variable name) (w ∷ rest) ⊎ Longer primary_terminals (Variable name) w
named_goes name w rest (Some after) dot is front is' front' =
    inr (onto primary_terminals (Variable name) (Entry name one_expression) w (OfSymbol symbol.OpenBracket) rest after
    (expression_terminals one_expression ++ OfSymbol symbol.CloseBracket ∷ []) front refl)
named_goes name w rest None (Some after) is front is' front' =
    inr (onto primary_terminals (Variable name) (Size name) w (OfSymbol symbol.Dot) rest after
    (OfKeyword keyword.GetVertexSetSize ∷ OfSymbol symbol.OpenParenthesis ∷ OfSymbol symbol.CloseParenthesis ∷ []) front' refl)
named_goes name w rest None None is front is' front' = inl (is, is')

primary_goes : (p : PrimaryTree) (w : Terminal) (rest : List Terminal) → EndsPrimary p (w ∷ rest) ⊎ Longer primary_terminals p w
primary_goes (Variable name) w rest =
    named_goes name w rest (after_open_bracket (w ∷ rest)) (after_dot (w ∷ rest)) refl (open_bracket_at (w ∷ rest)) refl (dot_at (w ∷ rest))
primary_goes (Literal n) w rest = inl tt
primary_goes (Truth b) w rest = inl tt
primary_goes (Entry name index) w rest = inl tt
primary_goes (Size name) w rest = inl tt
primary_goes (Parentheses inside) w rest = inl tt

-- either side by another
either : {P Q R S : Type 0} → P ⊎ Q → (P → R ⊎ S) → (Q → S) → R ⊎ S
either (inl p) f g = f p
either (inr q) f g = inr (g q)

unary_goes : (u : UnaryTree) (w : Terminal) (rest : List Terminal) → EndsUnary u (w ∷ rest) ⊎ Longer unary_terminals u w
unary_goes (Bare p) w rest = either (primary_goes p w rest) (λ ends. inl ends) (λ y. (Bare y.0, y.1, y.2))
unary_goes (Signed sign u) w rest = either (unary_goes u w rest) (λ ends. inl ends) (λ y. (Signed sign y.0, y.1, ap (λ z. prefix_terminal sign ∷ z) y.2))

term_goes_on : (u : UnaryTree) (w : Terminal) (rest : List Terminal) (m : Option (Multiplication × List Terminal)) → multiplication (w ∷ rest) ≡ m → FrontAt multiplication_terminal (w ∷ rest) m
    → EndsUnary u (w ∷ rest) → EndsTerm (LastUnary u) (w ∷ rest) ⊎ Longer term_terminals (LastUnary u) w
term_goes_on u w rest None is front ends = inl (ends, is)
term_goes_on u w rest (Some o) is front ends =
    inr (onto term_terminals (LastUnary u) (UnaryThen u o.0 one_term) w (multiplication_terminal o.0) rest o.1 (term_terminals one_term) front refl)

term_goes : (t : TermTree) (w : Terminal) (rest : List Terminal) → EndsTerm t (w ∷ rest) ⊎ Longer term_terminals t w
term_goes (LastUnary u) w rest =
    either (unary_goes u w rest) (term_goes_on u w rest (multiplication (w ∷ rest)) refl (multiplication_at (w ∷ rest))) (λ y. (LastUnary y.0, y.1, y.2))
term_goes (UnaryThen u o others) w rest =
    either (term_goes others w rest) (λ ends. inl ends)
    (λ y. (UnaryThen u o y.0, y.1, carried (unary_terminals u) (term_terminals others) (term_terminals y.0) (multiplication_terminal o) w y.1 y.2))

sum_goes_on : (t : TermTree) (w : Terminal) (rest : List Terminal) (m : Option (Addition × List Terminal)) → addition (w ∷ rest) ≡ m → FrontAt addition_terminal (w ∷ rest) m
    → EndsTerm t (w ∷ rest) → EndsSum (LastTerm t) (w ∷ rest) ⊎ Longer sum_terminals (LastTerm t) w
sum_goes_on t w rest None is front ends = inl (ends, is)
sum_goes_on t w rest (Some o) is front ends =
    inr (onto sum_terminals (LastTerm t) (TermThen t o.0 one_sum) w (addition_terminal o.0) rest o.1 (sum_terminals one_sum) front refl)

sum_goes : (s : SumTree) (w : Terminal) (rest : List Terminal) → EndsSum s (w ∷ rest) ⊎ Longer sum_terminals s w
sum_goes (LastTerm t) w rest =
    either (term_goes t w rest) (sum_goes_on t w rest (addition (w ∷ rest)) refl (addition_at (w ∷ rest))) (λ y. (LastTerm y.0, y.1, y.2))
sum_goes (TermThen t o others) w rest =
    either (sum_goes others w rest) (λ ends. inl ends)
    (λ y. (TermThen t o y.0, y.1, carried (term_terminals t) (sum_terminals others) (sum_terminals y.0) (addition_terminal o) w y.1 y.2))

comparison_goes_on : (s : SumTree) (w : Terminal) (rest : List Terminal) (m : Option (Relation × List Terminal)) → relation (w ∷ rest) ≡ m → FrontAt relation_terminal (w ∷ rest) m
    → EndsSum s (w ∷ rest) → EndsComparison (OneSum s) (w ∷ rest) ⊎ Longer comparison_terminals (OneSum s) w
comparison_goes_on s w rest None is front ends = inl (ends, is)
comparison_goes_on s w rest (Some o) is front ends =
    inr (onto comparison_terminals (OneSum s) (TwoSums s o.0 one_sum) w (relation_terminal o.0) rest o.1 (sum_terminals one_sum) front refl)

comparison_goes : (c : ComparisonTree) (w : Terminal) (rest : List Terminal) → EndsComparison c (w ∷ rest) ⊎ Longer comparison_terminals c w
comparison_goes (OneSum s) w rest =
    either (sum_goes s w rest) (comparison_goes_on s w rest (relation (w ∷ rest)) refl (relation_at (w ∷ rest))) (λ y. (OneSum y.0, y.1, y.2))
comparison_goes (TwoSums left o right) w rest =
    either (sum_goes right w rest) (λ ends. inl ends)
    (λ y. (TwoSums left o y.0, y.1, carried (sum_terminals left) (sum_terminals right) (sum_terminals y.0) (relation_terminal o) w y.1 y.2))

conjunction_goes_on : (c : ComparisonTree) (w : Terminal) (rest : List Terminal) (m : Option (List Terminal)) → after_and (w ∷ rest) ≡ m → TerminalAt (OfKeyword keyword.And) (w ∷ rest) m
    → EndsComparison c (w ∷ rest) → EndsConjunction (LastComparison c) (w ∷ rest) ⊎ Longer conjunction_terminals (LastComparison c) w
conjunction_goes_on c w rest None is front ends = inl (ends, is)
conjunction_goes_on c w rest (Some after) is front ends =
    inr (onto conjunction_terminals (LastComparison c) (ComparisonThen c one_conjunction) w (OfKeyword keyword.And) rest after (conjunction_terminals one_conjunction) front refl)

conjunction_goes : (c : ConjunctionTree) (w : Terminal) (rest : List Terminal) → EndsConjunction c (w ∷ rest) ⊎ Longer conjunction_terminals c w
conjunction_goes (LastComparison c) w rest =
    either (comparison_goes c w rest) (conjunction_goes_on c w rest (after_and (w ∷ rest)) refl (and_at (w ∷ rest))) (λ y. (LastComparison y.0, y.1, y.2))
conjunction_goes (ComparisonThen c others) w rest =
    either (conjunction_goes others w rest) (λ ends. inl ends)
    (λ y. (ComparisonThen c y.0, y.1, carried (comparison_terminals c) (conjunction_terminals others) (conjunction_terminals y.0) (OfKeyword keyword.And) w y.1 y.2))

expression_goes_on : (c : ConjunctionTree) (w : Terminal) (rest : List Terminal) (m : Option (List Terminal)) → after_or (w ∷ rest) ≡ m → TerminalAt (OfKeyword keyword.Or) (w ∷ rest) m
    → EndsConjunction c (w ∷ rest) → EndsExpression (LastConjunction c) (w ∷ rest) ⊎ Longer expression_terminals (LastConjunction c) w
expression_goes_on c w rest None is front ends = inl (ends, is)
expression_goes_on c w rest (Some after) is front ends =
    inr (onto expression_terminals (LastConjunction c) (ConjunctionThen c one_expression) w (OfKeyword keyword.Or) rest after (expression_terminals one_expression) front refl)

expression_goes : (e : ExpressionTree) (w : Terminal) (rest : List Terminal) → EndsExpression e (w ∷ rest) ⊎ Longer expression_terminals e w
expression_goes (LastConjunction c) w rest =
    either (conjunction_goes c w rest) (expression_goes_on c w rest (after_or (w ∷ rest)) refl (or_at (w ∷ rest))) (λ y. (LastConjunction y.0, y.1, y.2))
expression_goes (ConjunctionThen c others) w rest =
    either (expression_goes others w rest) (λ ends. inl ends)
    (λ y. (ConjunctionThen c y.0, y.1, carried (conjunction_terminals c) (expression_terminals others) (expression_terminals y.0) (OfKeyword keyword.Or) w y.1 y.2))

refuted : {P Q : Type 0} → P ⊎ Q → (P → ⊥) → Q
refuted (inl p) never = absurd (never p)
refuted (inr q) never = q

-- where an expression does not end, another has its terminals and the terminal after them
pub some_longer : (e : ExpressionTree) (w : Terminal) (rest : List Terminal) → (EndsExpression e (w ∷ rest) → ⊥) → Longer expression_terminals e w
some_longer e w rest unended = refuted (expression_goes e w rest) unended
