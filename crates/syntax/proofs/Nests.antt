-- Where the nesting of its terminals stays within the limit, a tree is no deeper than readers go.
use Rattle.std.proofs.Common.{◌≡◌, refl, ◌∙◌, ap, subst, arith, List, [], ◌∷◌, ◌++◌, ℕ, suc, ◌≤◌, ◌+◌, true, false}
use Rattle.lexer.specs.declared.keyword.Keyword.TheVariants as keyword
use Rattle.lexer.specs.declared.symbol.Symbol.TheVariants as symbol
use Rattle.syntax.specs.declared.operators.Addition.{Addition}
use Rattle.syntax.specs.declared.operators.Addition.TheVariants as addition
use Rattle.syntax.specs.declared.operators.Multiplication.{Multiplication}
use Rattle.syntax.specs.declared.operators.Multiplication.TheVariants as multiplication
use Rattle.syntax.specs.declared.operators.Prefix.{Prefix}
use Rattle.syntax.specs.declared.operators.Prefix.TheVariants as prefix
use Rattle.syntax.specs.declared.operators.Relation.{Relation}
use Rattle.syntax.specs.declared.operators.Relation.TheVariants as relation
use Rattle.syntax.specs.Terminals.{Terminal, OfKeyword, OfSymbol}
use Rattle.syntax.specs.SourceTrees.{ExpressionTree, ConjunctionTree, ComparisonTree, SumTree, TermTree, UnaryTree, PrimaryTree, LastConjunction, ConjunctionThen, LastComparison, ComparisonThen}
use Rattle.syntax.specs.SourceTrees.{OneSum, TwoSums, LastTerm, TermThen, LastUnary, UnaryThen, Bare, Signed, Literal, Truth, Variable, Entry, Size, Parentheses}
use Rattle.syntax.specs.ExpressionDepth.{expression_depth, conjunction_depth, comparison_depth, sum_depth, term_depth, unary_depth, primary_depth}
use Rattle.syntax.specs.ExpressionSpelling.{expression_terminals, conjunction_terminals, comparison_terminals, sum_terminals, term_terminals, unary_terminals, primary_terminals, addition_terminal}
use Rattle.syntax.specs.ExpressionSpelling.{multiplication_terminal, relation_terminal, prefix_terminal}
use Rattle.syntax.specs.inside.Nesting.{nesting}
use Rattle.syntax.specs.Nesting.{nesting_after, StaysWithin}

nesting-append : (n : ℕ) (ws rest : List Terminal) → nesting n (ws ++ rest) ≡ nesting (nesting n ws) rest
nesting-append n [] rest = refl
nesting-append n (w ∷ ws) rest = nesting-append (nesting_after w n) ws rest

pub within-front : (most n : ℕ) (ws rest : List Terminal) → StaysWithin most n (ws ++ rest) → StaysWithin most n ws
within-front most n [] rest within = tt
within-front most n (w ∷ ws) rest within = (within.0, within-front most (nesting_after w n) ws rest within.1)

pub within-behind : (most n : ℕ) (ws rest : List Terminal) → StaysWithin most n (ws ++ rest) → StaysWithin most (nesting n ws) rest
within-behind most n [] rest within = within
within-behind most n (w ∷ ws) rest within = within-behind most (nesting_after w n) ws rest within.1

-- operators do not nest
relation_flat : (r : Relation) (n : ℕ) → nesting_after (relation_terminal r) n ≡ n
relation_flat relation.Equal n = refl
relation_flat _ n = refl

addition_flat : (a : Addition) (n : ℕ) → nesting_after (addition_terminal a) n ≡ n
addition_flat addition.Plus n = refl
addition_flat _ n = refl

multiplication_flat : (m : Multiplication) (n : ℕ) → nesting_after (multiplication_terminal m) n ≡ n
multiplication_flat multiplication.Times n = refl
multiplication_flat _ n = refl

prefix_flat : (p : Prefix) (n : ℕ) → nesting_after (prefix_terminal p) n ≡ n
prefix_flat prefix.Minus n = refl
prefix_flat _ n = refl

-- after two parts of which each closes what it opens, with a flat terminal between them
balanced-two : (front back : List Terminal) (w : Terminal) (n : ℕ) → ((m : ℕ) → nesting m front ≡ m) → ((m : ℕ) → nesting m back ≡ m) → nesting_after w n ≡ n
    → nesting n (front ++ w ∷ back) ≡ n
balanced-two front back w n one two flat =
    nesting-append n front (w ∷ back) ∙ ap (λ m. nesting m (w ∷ back)) (one n) ∙ ap (λ m. nesting m back) flat ∙ two n

mutual
  pub expression_balanced : (e : ExpressionTree) (n : ℕ) → nesting n (expression_terminals e) ≡ n
  expression_balanced (LastConjunction c) n = conjunction_balanced c n
  expression_balanced (ConjunctionThen c others) n =
      balanced-two (conjunction_terminals c) (expression_terminals others) (OfKeyword keyword.Or) n (conjunction_balanced c) (expression_balanced others) refl

  conjunction_balanced : (c : ConjunctionTree) (n : ℕ) → nesting n (conjunction_terminals c) ≡ n
  conjunction_balanced (LastComparison c) n = comparison_balanced c n
  conjunction_balanced (ComparisonThen c others) n =
      balanced-two (comparison_terminals c) (conjunction_terminals others) (OfKeyword keyword.And) n (comparison_balanced c) (conjunction_balanced others) refl

  comparison_balanced : (c : ComparisonTree) (n : ℕ) → nesting n (comparison_terminals c) ≡ n
  comparison_balanced (OneSum s) n = sum_balanced s n
  comparison_balanced (TwoSums left r right) n =
      balanced-two (sum_terminals left) (sum_terminals right) (relation_terminal r) n (sum_balanced left) (sum_balanced right) (relation_flat r n)

  sum_balanced : (s : SumTree) (n : ℕ) → nesting n (sum_terminals s) ≡ n
  sum_balanced (LastTerm t) n = term_balanced t n
  sum_balanced (TermThen t a others) n =
      balanced-two (term_terminals t) (sum_terminals others) (addition_terminal a) n (term_balanced t) (sum_balanced others) (addition_flat a n)

  term_balanced : (t : TermTree) (n : ℕ) → nesting n (term_terminals t) ≡ n
  term_balanced (LastUnary u) n = unary_balanced u n
  term_balanced (UnaryThen u m others) n =
      balanced-two (unary_terminals u) (term_terminals others) (multiplication_terminal m) n (unary_balanced u) (term_balanced others) (multiplication_flat m n)

  unary_balanced : (u : UnaryTree) (n : ℕ) → nesting n (unary_terminals u) ≡ n
  unary_balanced (Bare p) n = primary_balanced p n
  unary_balanced (Signed sign u) n = ap (λ m. nesting m (unary_terminals u)) (prefix_flat sign n) ∙ unary_balanced u n

  primary_balanced : (p : PrimaryTree) (n : ℕ) → nesting n (primary_terminals p) ≡ n
  primary_balanced (Literal k) n = refl
  primary_balanced (Truth true) n = refl
  primary_balanced (Truth false) n = refl
  primary_balanced (Variable name) n = refl
  primary_balanced (Entry name index) n =
      nesting-append (suc n) (expression_terminals index) (OfSymbol symbol.CloseBracket ∷ []) ∙ ap (λ m. nesting m (OfSymbol symbol.CloseBracket ∷ [])) (expression_balanced index (suc n))
  primary_balanced (Size name) n = refl
  primary_balanced (Parentheses inside) n =
      nesting-append (suc n) (expression_terminals inside) (OfSymbol symbol.CloseParenthesis ∷ []) ∙ ap (λ m. nesting m (OfSymbol symbol.CloseParenthesis ∷ [])) (expression_balanced inside (suc n))

module _ (most : ℕ) where
  -- two parts stay within the limit where both do together
  within-two : (front back : List Terminal) (w : Terminal) (n : ℕ) → ((m : ℕ) → nesting m front ≡ m) → nesting_after w n ≡ n → StaysWithin most n (front ++ w ∷ back)
      → StaysWithin most n front × StaysWithin most n back
  within-two front back w n one flat within =
      let behind = subst (λ m. StaysWithin most m (w ∷ back)) (one n) (within-behind most n front (w ∷ back) within) in
      (within-front most n front (w ∷ back) within, subst (λ m. StaysWithin most m back) flat behind.1)

  mutual
    pub expression_deep : (e : ExpressionTree) (n : ℕ) → n ≤ most → StaysWithin most n (expression_terminals e) → n + expression_depth e ≤ most
    expression_deep (LastConjunction c) n fits within = conjunction_deep c n fits within
    expression_deep (ConjunctionThen c others) n fits within =
        let parts = within-two (conjunction_terminals c) (expression_terminals others) (OfKeyword keyword.Or) n (conjunction_balanced c) refl within in
        omega (arith, conjunction_deep c n fits parts.0, expression_deep others n fits parts.1)

    conjunction_deep : (c : ConjunctionTree) (n : ℕ) → n ≤ most → StaysWithin most n (conjunction_terminals c) → n + conjunction_depth c ≤ most
    conjunction_deep (LastComparison c) n fits within = comparison_deep c n fits within
    conjunction_deep (ComparisonThen c others) n fits within =
        let parts = within-two (comparison_terminals c) (conjunction_terminals others) (OfKeyword keyword.And) n (comparison_balanced c) refl within in
        omega (arith, comparison_deep c n fits parts.0, conjunction_deep others n fits parts.1)

    comparison_deep : (c : ComparisonTree) (n : ℕ) → n ≤ most → StaysWithin most n (comparison_terminals c) → n + comparison_depth c ≤ most
    comparison_deep (OneSum s) n fits within = sum_deep s n fits within
    comparison_deep (TwoSums left r right) n fits within =
        let parts = within-two (sum_terminals left) (sum_terminals right) (relation_terminal r) n (sum_balanced left) (relation_flat r n) within in
        omega (arith, sum_deep left n fits parts.0, sum_deep right n fits parts.1)

    sum_deep : (s : SumTree) (n : ℕ) → n ≤ most → StaysWithin most n (sum_terminals s) → n + sum_depth s ≤ most
    sum_deep (LastTerm t) n fits within = term_deep t n fits within
    sum_deep (TermThen t a others) n fits within =
        let parts = within-two (term_terminals t) (sum_terminals others) (addition_terminal a) n (term_balanced t) (addition_flat a n) within in
        omega (arith, term_deep t n fits parts.0, sum_deep others n fits parts.1)

    term_deep : (t : TermTree) (n : ℕ) → n ≤ most → StaysWithin most n (term_terminals t) → n + term_depth t ≤ most
    term_deep (LastUnary u) n fits within = unary_deep u n fits within
    term_deep (UnaryThen u m others) n fits within =
        let parts = within-two (unary_terminals u) (term_terminals others) (multiplication_terminal m) n (unary_balanced u) (multiplication_flat m n) within in
        omega (arith, unary_deep u n fits parts.0, term_deep others n fits parts.1)

    unary_deep : (u : UnaryTree) (n : ℕ) → n ≤ most → StaysWithin most n (unary_terminals u) → n + unary_depth u ≤ most
    unary_deep (Bare p) n fits within = primary_deep p n fits within
    unary_deep (Signed sign u) n fits within = unary_deep u n fits (subst (λ m. StaysWithin most m (unary_terminals u)) (prefix_flat sign n) within.1)

    primary_deep : (p : PrimaryTree) (n : ℕ) → n ≤ most → StaysWithin most n (primary_terminals p) → n + primary_depth p ≤ most
    primary_deep (Literal k) n fits within = omega arith
    primary_deep (Truth b) n fits within = omega arith
    primary_deep (Variable name) n fits within = omega arith
    primary_deep (Entry name index) n fits within =
        omega (arith, expression_deep index (suc n) within.1.0 (within-front most (suc n) (expression_terminals index) (OfSymbol symbol.CloseBracket ∷ []) within.1.1))
    primary_deep (Size name) n fits within = omega arith
    primary_deep (Parentheses inside) n fits within =
        omega (arith, expression_deep inside (suc n) within.0 (within-front most (suc n) (expression_terminals inside) (OfSymbol symbol.CloseParenthesis ∷ []) within.1))
