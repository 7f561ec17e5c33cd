-- Terminals that are those of a tree but for their offsets are those of a tree.
use Rattle.std.proofs.Common.{◌≡◌, ℕ, ◌&&◌, Bool, true, false, List, [], ◌∷◌, ◌++◌, map, refl, sym, ◌∙◌, ap, append_assoc}
use Rattle.std.proofs.lemmas.Bool.{and_parts, false≢true}
use Rattle.lexer.specs.declared.keyword.Keyword.{Keyword}
use Rattle.lexer.specs.declared.keyword.Keyword.TheVariants as keyword
use Rattle.lexer.specs.declared.symbol.Symbol.TheVariants as symbol
use Rattle.syntax.specs.declared.operators.Addition.{Addition}
use Rattle.syntax.specs.declared.operators.Addition.TheVariants as addition
use Rattle.syntax.specs.declared.operators.Multiplication.{Multiplication}
use Rattle.syntax.specs.declared.operators.Multiplication.TheVariants as multiplication
use Rattle.syntax.specs.declared.operators.Prefix.{Prefix}
use Rattle.syntax.specs.declared.operators.Prefix.TheVariants as prefix
use Rattle.syntax.specs.declared.operators.Relation.{Relation}
use Rattle.syntax.specs.declared.operators.Relation.TheVariants as relation
use Rattle.syntax.specs.Terminals.{Terminal, Identifier, Name, Number, Label, Text, LeadingKeyword, OfKeyword, OfSymbol}
use Rattle.syntax.specs.SourceTrees.{ExpressionTree, ConjunctionTree, ComparisonTree, SumTree, TermTree, UnaryTree, PrimaryTree, LastConjunction, ConjunctionThen, LastComparison, ComparisonThen}
use Rattle.syntax.specs.SourceTrees.{OneSum, TwoSums, LastTerm, TermThen, LastUnary, UnaryThen, Bare, Signed, Literal, Truth, Variable, Entry, Size, Parentheses}
use Rattle.syntax.specs.ExpressionSpelling.{addition_terminal, multiplication_terminal, relation_terminal, prefix_terminal, truth_terminal, expression_terminals, conjunction_terminals}
use Rattle.syntax.specs.ExpressionSpelling.{comparison_terminals, sum_terminals, term_terminals, unary_terminals, primary_terminals}
use Rattle.source_text.specs.Text.{bare, AreAlike}

-- a terminal that has no offset
abbrev pub is_fixed : Terminal → Bool
is_fixed (Number n) = true
is_fixed (Text bytes) = true
is_fixed (OfKeyword terminal) = true
is_fixed (OfSymbol symbol) = true
is_fixed _ = false

abbrev pub all_fixed : List Terminal → Bool
all_fixed [] = true
all_fixed (w ∷ ws) = is_fixed w && all_fixed ws

fixed_back : (w v : Terminal) → is_fixed v ≡ true → bare w ≡ bare v → w ≡ v
fixed_back (Number n) (Number m) fixed same = same
fixed_back (Text a) (Text b) fixed same = same
fixed_back (OfKeyword a) (OfKeyword b) fixed same = same
fixed_back (OfSymbol a) (OfSymbol b) fixed same = same
fixed_back w (Name b) fixed same = absurd (false≢true fixed)
fixed_back w (Label b) fixed same = absurd (false≢true fixed)
fixed_back w (LeadingKeyword b at) fixed same = absurd (false≢true fixed)
fixed_back _ _ fixed same = cc (same)

name_back : (w : Terminal) (i : Identifier) → bare w ≡ bare (Name i) → (j : Identifier) × (w ≡ Name j)
name_back (Name j) i same = (j, refl)
name_back _ i same = cc (same)

label_back : (w : Terminal) (i : Identifier) → bare w ≡ bare (Label i) → (j : Identifier) × (w ≡ Label j)
label_back (Label j) i same = (j, refl)
label_back _ i same = cc (same)

opening_back : (w : Terminal) (terminal : Keyword) (at : ℕ) → bare w ≡ bare (LeadingKeyword terminal at) → (to : ℕ) × (w ≡ LeadingKeyword terminal to)
opening_back (LeadingKeyword other to) terminal at same = let e : other ≡ terminal = cc (same) in (to, ap (λ k. LeadingKeyword k to) e)
opening_back _ terminal at same = cc (same)

-- the first terminal, and the others
first_back : (v : Terminal) (rest ws : List Terminal) → AreAlike ws (v ∷ rest) → (w : Terminal) × (others : List Terminal) × (ws ≡ w ∷ others) × (bare w ≡ bare v) × AreAlike others rest
first_back v rest [] same = cc (same)
first_back v rest (w ∷ ws) same = (w, ws, refl, cc (same), cc (same))

pub take_fixed : (terminals rest ws : List Terminal) → all_fixed terminals ≡ true → AreAlike ws (terminals ++ rest) → (others : List Terminal) × (ws ≡ terminals ++ others) × AreAlike others rest
take_fixed [] rest ws fixed same = (ws, refl, same)
take_fixed (v ∷ terminals) rest ws fixed same =
    let parts = and_parts (is_fixed v) (all_fixed terminals) fixed in
    let first = first_back v (terminals ++ rest) ws same in
    let more = take_fixed terminals rest first.1 parts.1 first.4 in
    (more.0, first.2 ∙ ap (λ w. w ∷ first.1) (fixed_back first.0 v parts.0 (first.3)) ∙ ap (λ o. v ∷ o) (more.1), more.2)

pub take_name : (i : Identifier) (rest ws : List Terminal) → AreAlike ws (Name i ∷ rest) → (j : Identifier) × (others : List Terminal) × (ws ≡ Name j ∷ others) × AreAlike others rest
take_name i rest ws same =
    let first = first_back (Name i) rest ws same in
    let back = name_back first.0 i (first.3) in
    (back.0, first.1, first.2 ∙ ap (λ w. w ∷ first.1) (back.1), first.4)

pub take_label : (i : Identifier) (rest ws : List Terminal) → AreAlike ws (Label i ∷ rest) → (j : Identifier) × (others : List Terminal) × (ws ≡ Label j ∷ others) × AreAlike others rest
take_label i rest ws same =
    let first = first_back (Label i) rest ws same in
    let back = label_back first.0 i (first.3) in
    (back.0, first.1, first.2 ∙ ap (λ w. w ∷ first.1) (back.1), first.4)

pub take_leading_keyword : (terminal : Keyword) (at : ℕ) (rest ws : List Terminal) → AreAlike ws (LeadingKeyword terminal at ∷ rest)
    → (to : ℕ) × (others : List Terminal) × (ws ≡ LeadingKeyword terminal to ∷ others)
    × AreAlike others rest
take_leading_keyword terminal at rest ws same =
    let first = first_back (LeadingKeyword terminal at) rest ws same in
    let back = opening_back first.0 terminal at (first.3) in
    (back.0, first.1, first.2 ∙ ap (λ w. w ∷ first.1) (back.1), first.4)

-- terminals that begin as those of a tree do, but for offsets, begin as those of a tree
abbrev pub Moves : {A : Type 0} → (A → List Terminal → List Terminal) → A → Type 0
Moves {A = A} before a = (rest ws : List Terminal) → AreAlike ws (before a rest) → (b : A) × (others : List Terminal) × (ws ≡ before b others) × AreAlike others rest

abbrev pub MovesTerminals : {A : Type 0} → (A → List Terminal) → A → Type 0
MovesTerminals {A = A} terminals a = (rest ws : List Terminal) → AreAlike ws (terminals a ++ rest) → (b : A) × (others : List Terminal) × (ws ≡ terminals b ++ others) × AreAlike others rest

-- two trees with a terminal between them
moves_pair : {A B : Type 0} (left_terminals : A → List Terminal) (right_terminals : B → List Terminal) (op : Terminal) (a : A) (b : B) → is_fixed op ≡ true → MovesTerminals left_terminals a
    → MovesTerminals right_terminals b
    → (rest ws : List Terminal) → AreAlike ws ((left_terminals a ++ op ∷ right_terminals b) ++ rest)
    → (x : A) × (y : B) × (others : List Terminal) × (ws ≡ (left_terminals x ++ op ∷ right_terminals y) ++ others) × AreAlike others rest
moves_pair left_terminals right_terminals op a b fixed left right rest ws same =
    let l = left (op ∷ (right_terminals b ++ rest)) ws (same ∙ ap (map bare) (append_assoc (left_terminals a) (op ∷ right_terminals b) rest)) in
    let o = take_fixed (op ∷ []) (right_terminals b ++ rest) l.1 (ap (λ t. t && true) fixed) l.3 in
    let r = right rest o.0 o.2 in
    (l.0, r.0, r.1, l.2 ∙ ap (λ t. left_terminals l.0 ++ t) (o.1) ∙ ap (λ t. left_terminals l.0 ++ op ∷ t) (r.2) ∙ sym (append_assoc (left_terminals l.0) (op ∷ right_terminals r.0) r.1), r.3)

fixed_addition : (o : Addition) → is_fixed (addition_terminal o) ≡ true
fixed_addition addition.Plus = refl
fixed_addition addition.Minus = refl

fixed_multiplication : (o : Multiplication) → is_fixed (multiplication_terminal o) ≡ true
fixed_multiplication multiplication.Times = refl
fixed_multiplication _ = refl

fixed_relation : (o : Relation) → is_fixed (relation_terminal o) ≡ true
fixed_relation relation.Equal = refl
fixed_relation _ = refl

fixed_prefix : (o : Prefix) → is_fixed (prefix_terminal o) ≡ true
fixed_prefix prefix.Minus = refl
fixed_prefix prefix.Not = refl

fixed_truth : (b : Bool) → is_fixed (truth_terminal b) ≡ true
fixed_truth true = refl
fixed_truth false = refl

mutual
  pub move_expression : (e : ExpressionTree) → MovesTerminals expression_terminals e
  move_expression (LastConjunction c) rest ws same = let m = move_conjunction c rest ws same in (LastConjunction m.0, m.1, m.2, m.3)
  move_expression (ConjunctionThen c e) rest ws same =
      let m = moves_pair conjunction_terminals expression_terminals (OfKeyword keyword.Or) c e refl (move_conjunction c) (move_expression e) rest ws same in
      (ConjunctionThen m.0 m.1, m.2, m.3, m.4)

  move_conjunction : (e : ConjunctionTree) → MovesTerminals conjunction_terminals e
  move_conjunction (LastComparison c) rest ws same = let m = move_comparison c rest ws same in (LastComparison m.0, m.1, m.2, m.3)
  move_conjunction (ComparisonThen c e) rest ws same =
      let m = moves_pair comparison_terminals conjunction_terminals (OfKeyword keyword.And) c e refl (move_comparison c) (move_conjunction e) rest ws same in
      (ComparisonThen m.0 m.1, m.2, m.3, m.4)

  move_comparison : (e : ComparisonTree) → MovesTerminals comparison_terminals e
  move_comparison (OneSum s) rest ws same = let m = move_sum s rest ws same in (OneSum m.0, m.1, m.2, m.3)
  move_comparison (TwoSums l r s) rest ws same =
      let m = moves_pair sum_terminals sum_terminals (relation_terminal r) l s (fixed_relation r) (move_sum l) (move_sum s) rest ws same in
      (TwoSums m.0 r m.1, m.2, m.3, m.4)

  move_sum : (e : SumTree) → MovesTerminals sum_terminals e
  move_sum (LastTerm t) rest ws same = let m = move_term t rest ws same in (LastTerm m.0, m.1, m.2, m.3)
  move_sum (TermThen t o s) rest ws same =
      let m = moves_pair term_terminals sum_terminals (addition_terminal o) t s (fixed_addition o) (move_term t) (move_sum s) rest ws same in
      (TermThen m.0 o m.1, m.2, m.3, m.4)

  move_term : (e : TermTree) → MovesTerminals term_terminals e
  move_term (LastUnary u) rest ws same = let m = move_unary u rest ws same in (LastUnary m.0, m.1, m.2, m.3)
  move_term (UnaryThen u o t) rest ws same =
      let m = moves_pair unary_terminals term_terminals (multiplication_terminal o) u t (fixed_multiplication o) (move_unary u) (move_term t) rest ws same in
      (UnaryThen m.0 o m.1, m.2, m.3, m.4)

  move_unary : (e : UnaryTree) → MovesTerminals unary_terminals e
  move_unary (Bare p) rest ws same = let m = move_primary p rest ws same in (Bare m.0, m.1, m.2, m.3)
  move_unary (Signed sign u) rest ws same =
      let o = take_fixed (prefix_terminal sign ∷ []) (unary_terminals u ++ rest) ws (ap (λ t. t && true) (fixed_prefix sign)) same in
      let m = move_unary u rest o.0 o.2 in
      (Signed sign m.0, m.1, o.1 ∙ ap (λ t. prefix_terminal sign ∷ t) (m.2), m.3)

  move_primary : (e : PrimaryTree) → MovesTerminals primary_terminals e
  move_primary (Literal n) rest ws same = let o = take_fixed (Number n ∷ []) rest ws refl same in (Literal n, o.0, o.1, o.2)
  move_primary (Truth b) rest ws same = let o = take_fixed (truth_terminal b ∷ []) rest ws (ap (λ t. t && true) (fixed_truth b)) same in (Truth b, o.0, o.1, o.2)
  move_primary (Variable name) rest ws same = let n = take_name name rest ws same in (Variable n.0, n.1, n.2, n.3)
  move_primary (Entry name index) rest ws same =
      let behind : List Terminal = OfSymbol symbol.CloseBracket ∷ rest in
      let n = take_name name (OfSymbol symbol.OpenBracket ∷ ((expression_terminals index ++ OfSymbol symbol.CloseBracket ∷ []) ++ rest)) ws same in
      let o = take_fixed (OfSymbol symbol.OpenBracket ∷ []) ((expression_terminals index ++ OfSymbol symbol.CloseBracket ∷ []) ++ rest) n.1 refl n.3 in
      let m = move_expression index behind o.0 (o.2 ∙ ap (map bare) (append_assoc (expression_terminals index) (OfSymbol symbol.CloseBracket ∷ []) rest)) in
      let z = take_fixed (OfSymbol symbol.CloseBracket ∷ []) rest m.1 refl m.3 in (
        Entry n.0 m.0,
        z.0,
        n.2 ∙ ap (λ t. Name n.0 ∷ t) (o.1) ∙ ap (λ t. Name n.0 ∷ OfSymbol symbol.OpenBracket ∷ t) (m.2)
            ∙ ap (λ t. Name n.0 ∷ OfSymbol symbol.OpenBracket ∷ (expression_terminals m.0 ++ t)) (z.1)
            ∙ ap (λ t. Name n.0 ∷ OfSymbol symbol.OpenBracket ∷ t) (sym (append_assoc (expression_terminals m.0) (OfSymbol symbol.CloseBracket ∷ []) z.0)),
        z.2,
      )
  move_primary (Size name) rest ws same =
      let n = take_name name (OfSymbol symbol.Dot ∷ OfKeyword keyword.GetVertexSetSize ∷ OfSymbol symbol.OpenParenthesis ∷ OfSymbol symbol.CloseParenthesis ∷ rest) ws same in
      let o = take_fixed (OfSymbol symbol.Dot ∷ OfKeyword keyword.GetVertexSetSize ∷ OfSymbol symbol.OpenParenthesis ∷ OfSymbol symbol.CloseParenthesis ∷ []) rest n.1 refl n.3 in
      (Size n.0, o.0, n.2 ∙ ap (λ t. Name n.0 ∷ t) (o.1), o.2)
  move_primary (Parentheses inside) rest ws same =
      let behind : List Terminal = OfSymbol symbol.CloseParenthesis ∷ rest in
      let o = take_fixed (OfSymbol symbol.OpenParenthesis ∷ []) ((expression_terminals inside ++ OfSymbol symbol.CloseParenthesis ∷ []) ++ rest) ws refl same in
      let m = move_expression inside behind o.0 (o.2 ∙ ap (map bare) (append_assoc (expression_terminals inside) (OfSymbol symbol.CloseParenthesis ∷ []) rest)) in
      let z = take_fixed (OfSymbol symbol.CloseParenthesis ∷ []) rest m.1 refl m.3 in (
        Parentheses m.0,
        z.0,
        o.1 ∙ ap (λ t. OfSymbol symbol.OpenParenthesis ∷ t) (m.2)
            ∙ ap (λ t. OfSymbol symbol.OpenParenthesis ∷ (expression_terminals m.0 ++ t)) (z.1)
            ∙ ap (λ t. OfSymbol symbol.OpenParenthesis ∷ t) (sym (append_assoc (expression_terminals m.0) (OfSymbol symbol.CloseParenthesis ∷ []) z.0)),
        z.2,
      )
