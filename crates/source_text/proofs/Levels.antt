-- The terminals of a level of expressions: its first operand, and then each other after its operator.
use Rattle.std.proofs.Common.{◌≡◌, List, [], ◌∷◌, ◌++◌, map, refl, ◌∙◌, ap, append_assoc}
use Rattle.lexer.specs.declared.keyword.Keyword.TheVariants as keyword
use Rattle.syntax.specs.declared.operators.Addition.{Addition}
use Rattle.syntax.specs.declared.operators.Multiplication.{Multiplication}
use Rattle.syntax.specs.declared.operators.Prefix.{Prefix}
use Rattle.syntax.specs.declared.expression.Unary.{Unary}
use Rattle.syntax.specs.declared.expression.Term.{Term}
use Rattle.syntax.specs.declared.expression.Comparison.{Comparison}
use Rattle.syntax.specs.declared.expression.Conjunction.{Conjunction}
use Rattle.syntax.specs.ExpressionViews.{signed_operand, conjunction_from, expression_from, sum_from, term_from, unary_of}
use Rattle.syntax.specs.inside.ExpressionViews.{comparison_of, conjunction_of, term_of}
use Rattle.syntax.specs.ExpressionSpelling.{addition_terminal, comparison_terminals, conjunction_terminals, expression_terminals, multiplication_terminal, prefix_terminal, primary_terminals}
use Rattle.syntax.specs.ExpressionSpelling.{sum_terminals, term_terminals, unary_terminals}
use Rattle.syntax.specs.SourceTrees.{ConjunctionTree, ComparisonTree, TermTree, UnaryTree, PrimaryTree, Bare}
use Rattle.syntax.specs.Terminals.{Terminal, OfKeyword}
use Rattle.syntax.specs.SourceSpelling.{each_before}
use Rattle.source_text.specs.inside.Written.{signs_before}

abbrev pub or_before : Conjunction → List Terminal → List Terminal
or_before c rest = OfKeyword keyword.Or ∷ (conjunction_terminals (conjunction_of c) ++ rest)

abbrev pub and_before : Comparison → List Terminal → List Terminal
and_before c rest = OfKeyword keyword.And ∷ (comparison_terminals (comparison_of c) ++ rest)

abbrev pub added_before : Addition × Term → List Terminal → List Terminal
added_before m rest = addition_terminal m.0 ∷ (term_terminals (term_of m.1) ++ rest)

abbrev pub multiplied_before : Multiplication × Unary → List Terminal → List Terminal
multiplied_before m rest = multiplication_terminal m.0 ∷ (unary_terminals (unary_of m.1) ++ rest)

pub expression_split : (first : ConjunctionTree) (more : List Conjunction) (rest : List Terminal)
    → expression_terminals (expression_from first (map conjunction_of more)) ++ rest ≡ conjunction_terminals first ++ each_before or_before more rest
expression_split first [] rest = refl
expression_split first (c ∷ more) rest =
    append_assoc (conjunction_terminals first) (OfKeyword keyword.Or ∷ expression_terminals (expression_from (conjunction_of c) (map conjunction_of more))) rest
    ∙ ap (λ t. conjunction_terminals first ++ OfKeyword keyword.Or ∷ t) (expression_split (conjunction_of c) more rest)

pub conjunction_split : (first : ComparisonTree) (more : List Comparison) (rest : List Terminal)
    → conjunction_terminals (conjunction_from first (map comparison_of more)) ++ rest ≡ comparison_terminals first ++ each_before and_before more rest
conjunction_split first [] rest = refl
conjunction_split first (c ∷ more) rest =
    append_assoc (comparison_terminals first) (OfKeyword keyword.And ∷ conjunction_terminals (conjunction_from (comparison_of c) (map comparison_of more))) rest
    ∙ ap (λ t. comparison_terminals first ++ OfKeyword keyword.And ∷ t) (conjunction_split (comparison_of c) more rest)

pub sum_split : (first : TermTree) (more : List (Addition × Term)) (rest : List Terminal)
    → sum_terminals (sum_from first (map (λ m. (m.0, term_of m.1)) more)) ++ rest ≡ term_terminals first ++ each_before added_before more rest
sum_split first [] rest = refl
sum_split first (m ∷ more) rest =
    append_assoc (term_terminals first) (addition_terminal m.0 ∷ sum_terminals (sum_from (term_of m.1) (map (λ m. (m.0, term_of m.1)) more))) rest
    ∙ ap (λ t. term_terminals first ++ addition_terminal m.0 ∷ t) (sum_split (term_of m.1) more rest)

pub term_split : (first : UnaryTree) (more : List (Multiplication × Unary)) (rest : List Terminal)
    → term_terminals (term_from first (map (λ m. (m.0, unary_of m.1)) more)) ++ rest ≡ unary_terminals first ++ each_before multiplied_before more rest
term_split first [] rest = refl
term_split first (m ∷ more) rest =
    append_assoc (unary_terminals first) (multiplication_terminal m.0 ∷ term_terminals (term_from (unary_of m.1) (map (λ m. (m.0, unary_of m.1)) more))) rest
    ∙ ap (λ t. unary_terminals first ++ multiplication_terminal m.0 ∷ t) (term_split (unary_of m.1) more rest)

pub unary_split : (signs : List Prefix) (p : PrimaryTree) (rest : List Terminal)
    → unary_terminals (signed_operand signs (Bare p)) ++ rest ≡ signs_before signs (primary_terminals p ++ rest)
unary_split [] p rest = refl
unary_split (sign ∷ signs) p rest = ap (λ t. prefix_terminal sign ∷ t) (unary_split signs p rest)
