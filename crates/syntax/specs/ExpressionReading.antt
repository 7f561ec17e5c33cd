-- Reading terminals from the left: a reader answers with a tree and the terminals after it. Depth is how many parentheses and brackets
-- may be nested. The laws of `laws` say what reading gives in terms of the grammar.
use Rattle.std.specs.Prelude.{[], ℕ, zero, suc, Bool, true, false, List, ◌∷◌, length, Option, Some, None}
use Rattle.lexer.specs.declared.keyword.Keyword.{Keyword}
use Rattle.lexer.specs.declared.keyword.Keyword.TheVariants as keyword
use Rattle.lexer.specs.declared.symbol.Symbol.TheVariants as symbol
use Rattle.syntax.specs.declared.operators.Addition.{Addition}
use Rattle.syntax.specs.declared.operators.Multiplication.{Multiplication}
use Rattle.syntax.specs.declared.operators.Prefix.{Prefix}
use Rattle.syntax.specs.declared.operators.Relation.{Relation}
use Rattle.syntax.specs.Terminals.{Terminal, Name, Number, OfKeyword, OfSymbol, Identifier}
use Rattle.syntax.specs.SourceTrees.{ExpressionTree, ConjunctionTree, ComparisonTree, SumTree, TermTree, UnaryTree, PrimaryTree, OneSum, TwoSums, Bare, Signed}
use Rattle.syntax.specs.SourceTrees.{Literal, Truth, Variable, Entry, Size, Parentheses}
use Rattle.syntax.specs.ExpressionViews.{expression_from, conjunction_from, sum_from, term_from}
use Rattle.syntax.specs.Nesting.{◌>>=◌}
use Rattle.syntax.specs.declared.operators.Addition.TheVariants as additions
use Rattle.syntax.specs.declared.operators.Multiplication.TheVariants as multiplications
use Rattle.syntax.specs.declared.operators.Prefix.TheVariants as prefixs
use Rattle.syntax.specs.declared.operators.Relation.TheVariants as relations

abbrev pub Reader : Type 0 → Type 0
Reader A = List Terminal → Option (A × List Terminal)

-- the operator of a level at the front, and the terminals after it
abbrev pub addition : List Terminal → Option (Addition × List Terminal)
addition (OfSymbol symbol.Plus ∷ rest) = Some (additions.Plus, rest)
addition (OfSymbol symbol.Minus ∷ rest) = Some (additions.Minus, rest)
addition _ = None

abbrev pub multiplication : List Terminal → Option (Multiplication × List Terminal)
multiplication (OfSymbol symbol.Star ∷ rest) = Some (multiplications.Times, rest)
multiplication (OfSymbol symbol.Slash ∷ rest) = Some (multiplications.Divide, rest)
multiplication (OfSymbol symbol.Percent ∷ rest) = Some (multiplications.Remainder, rest)
multiplication _ = None

abbrev pub relation : List Terminal → Option (Relation × List Terminal)
relation (OfSymbol symbol.Equal ∷ rest) = Some (relations.Equal, rest)
relation (OfSymbol symbol.NotEqual ∷ rest) = Some (relations.NotEqual, rest)
relation (OfSymbol symbol.Less ∷ rest) = Some (relations.Less, rest)
relation (OfSymbol symbol.LessOrEqual ∷ rest) = Some (relations.LessOrEqual, rest)
relation (OfSymbol symbol.Greater ∷ rest) = Some (relations.Greater, rest)
relation (OfSymbol symbol.GreaterOrEqual ∷ rest) = Some (relations.GreaterOrEqual, rest)
relation _ = None

abbrev pub prefix : List Terminal → Option (Prefix × List Terminal)
prefix (OfSymbol symbol.Minus ∷ rest) = Some (prefixs.Minus, rest)
prefix (OfKeyword keyword.Not ∷ rest) = Some (prefixs.Not, rest)
prefix _ = None

abbrev pub truth_of : Keyword → Option Bool
truth_of keyword.True = Some true
truth_of keyword.False = Some false
truth_of _ = None

-- the terminals after one terminal
abbrev pub after_or : List Terminal → Option (List Terminal)
after_or (OfKeyword keyword.Or ∷ rest) = Some rest
after_or _ = None

abbrev pub after_and : List Terminal → Option (List Terminal)
after_and (OfKeyword keyword.And ∷ rest) = Some rest
after_and _ = None

abbrev pub after_open_bracket : List Terminal → Option (List Terminal)
after_open_bracket (OfSymbol symbol.OpenBracket ∷ rest) = Some rest
after_open_bracket _ = None

abbrev pub after_close_bracket : List Terminal → Option (List Terminal)
after_close_bracket (OfSymbol symbol.CloseBracket ∷ rest) = Some rest
after_close_bracket _ = None

abbrev pub after_open_parenthesis : List Terminal → Option (List Terminal)
after_open_parenthesis (OfSymbol symbol.OpenParenthesis ∷ rest) = Some rest
after_open_parenthesis _ = None

abbrev pub after_close_parenthesis : List Terminal → Option (List Terminal)
after_close_parenthesis (OfSymbol symbol.CloseParenthesis ∷ rest) = Some rest
after_close_parenthesis _ = None

abbrev pub after_dot : List Terminal → Option (List Terminal)
after_dot (OfSymbol symbol.Dot ∷ rest) = Some rest
after_dot _ = None

abbrev pub after_size : List Terminal → Option (List Terminal)
after_size (OfKeyword keyword.GetVertexSetSize ∷ rest) = Some rest
after_size _ = None

-- As many links as there are, one after the other. A link is none where nothing at the front begins one. The fuel bounds how
-- many there are.
module _ {L : Type 0} (link : List Terminal → Option (Option (L × List Terminal))) where
  abbrev pub linked : Reader (List L) → List Terminal → Option (Option (L × List Terminal)) → Option (List L × List Terminal)
  linked others ws None = Some ([], ws)
  linked others ws (Some None) = None
  linked others ws (Some (Some x)) = others x.1 >>= λ y. Some (x.0 ∷ y.0, y.1)

  abbrev pub links_by : ℕ → Reader (List L)
  links_by zero ws = None
  links_by (suc fuel) ws = linked (links_by fuel) ws (link ws)

-- an item and the links after it
abbrev pub chain_by : {A L C : Type 0} → Reader A → (List Terminal → Option (Option (L × List Terminal))) → (A → List L → C) → Reader C
chain_by item link make ws = item ws >>= λ x. links_by link (suc (length x.1)) x.1 >>= λ y. Some (make x.0 y.0, y.1)

-- an operator and the operand after it
abbrev pub operand_by : {A O : Type 0} → Reader A → Option (O × List Terminal) → Option (Option ((O × A) × List Terminal))
operand_by item None = None
operand_by item (Some o) = Some (item o.1 >>= λ x. Some ((o.0, x.0), x.1))

-- the operand after a terminal
abbrev pub after_by : {A : Type 0} → Reader A → Option (List Terminal) → Option (Option (A × List Terminal))
after_by item None = None
after_by item (Some after) = Some (item after)

-- signs and then a primary; the fuel bounds how many signs there are
abbrev pub signed_by : Reader PrimaryTree → Reader UnaryTree → List Terminal → Option (Prefix × List Terminal) → Option (UnaryTree × List Terminal)
signed_by p others ws None = p ws >>= λ x. Some (Bare x.0, x.1)
signed_by p others ws (Some sign) = others sign.1 >>= λ x. Some (Signed sign.0 x.0, x.1)

abbrev pub signs_by : Reader PrimaryTree → ℕ → Reader UnaryTree
signs_by p zero ws = None
signs_by p (suc fuel) ws = signed_by p (signs_by p fuel) ws (prefix ws)

abbrev pub unary_by : Reader PrimaryTree → Reader UnaryTree
unary_by p ws = signs_by p (suc (length ws)) ws

abbrev pub term_by : Reader UnaryTree → Reader TermTree
term_by u = chain_by u (λ ws. operand_by u (multiplication ws)) term_from

abbrev pub sum_by : Reader TermTree → Reader SumTree
sum_by t = chain_by t (λ ws. operand_by t (addition ws)) sum_from

abbrev pub compared_by : Reader SumTree → SumTree → List Terminal → Option (Relation × List Terminal) → Option (ComparisonTree × List Terminal)
compared_by s left rest None = Some (OneSum left, rest)
compared_by s left rest (Some o) = s o.1 >>= λ x. Some (TwoSums left o.0 x.0, x.1)

abbrev pub comparison_by : Reader SumTree → Reader ComparisonTree
comparison_by s ws = s ws >>= λ x. compared_by s x.0 x.1 (relation x.1)

abbrev pub conjunction_by : Reader ComparisonTree → Reader ConjunctionTree
conjunction_by c = chain_by c (λ ws. after_by c (after_and ws)) conjunction_from

abbrev pub expression_by : Reader ConjunctionTree → Reader ExpressionTree
expression_by c = chain_by c (λ ws. after_by c (after_or ws)) expression_from

-- the terminals after the call of a size
abbrev pub after_size_call : List Terminal → Option (List Terminal)
after_size_call ws = after_size ws >>= λ call. after_open_parenthesis call >>= after_close_parenthesis

-- what a name begins: a bracket or a dot after it decides
abbrev pub name_begins : Reader ExpressionTree → Identifier → List Terminal → Option (List Terminal) → Option (List Terminal)
    → Option (PrimaryTree × List Terminal)
name_begins e name rest (Some after) dot = e after >>= λ x. after_close_bracket x.1 >>= λ behind. Some (Entry name x.0, behind)
name_begins e name rest None (Some after) = after_size_call after >>= λ behind. Some (Size name, behind)
name_begins e name rest None None = Some (Variable name, rest)

abbrev pub primary_by : Reader ExpressionTree → Reader PrimaryTree
primary_by e (Number n ∷ rest) = Some (Literal n, rest)
primary_by e (Name name ∷ rest) = name_begins e name rest (after_open_bracket rest) (after_dot rest)
primary_by e (OfKeyword terminal ∷ rest) = truth_of terminal >>= λ b. Some (Truth b, rest)
primary_by e (OfSymbol symbol.OpenParenthesis ∷ rest) = e rest >>= λ x. after_close_parenthesis x.1 >>= λ behind. Some (Parentheses x.0, behind)
primary_by e _ = None

-- no expression, where no more may be opened
abbrev pub no_expression : Reader ExpressionTree
no_expression ws = None

abbrev pub primary_at : ℕ → Reader PrimaryTree
primary_at zero = primary_by no_expression
primary_at (suc depth) = primary_by (expression_by (conjunction_by (comparison_by (sum_by (term_by (unary_by (primary_at depth)))))))

abbrev pub unary_at : ℕ → Reader UnaryTree
unary_at depth = unary_by (primary_at depth)

abbrev pub term_at : ℕ → Reader TermTree
term_at depth = term_by (unary_at depth)

abbrev pub sum_at : ℕ → Reader SumTree
sum_at depth = sum_by (term_at depth)

abbrev pub comparison_at : ℕ → Reader ComparisonTree
comparison_at depth = comparison_by (sum_at depth)

abbrev pub conjunction_at : ℕ → Reader ConjunctionTree
conjunction_at depth = conjunction_by (comparison_at depth)

abbrev pub expression_at : ℕ → Reader ExpressionTree
expression_at depth = expression_by (conjunction_at depth)
