-- The terminals of a source without its offsets are its terminals without theirs.
use Rattle.std.proofs.Common.{◌≡◌, ℕ, Bool, true, false, List, [], ◌∷◌, ◌++◌, map, Option, Some, None, option_map, refl, ◌∙◌, ap}
use Rattle.lexer.specs.declared.keyword.Keyword.TheVariants as keyword
use Rattle.lexer.specs.declared.symbol.Symbol.TheVariants as symbol
use Rattle.syntax.specs.declared.operators.Addition.{Addition}
use Rattle.syntax.specs.declared.operators.Addition.TheVariants as addition
use Rattle.syntax.specs.declared.operators.Multiplication.{Multiplication}
use Rattle.syntax.specs.declared.operators.Multiplication.TheVariants as multiplication
use Rattle.syntax.specs.declared.operators.Prefix.{Prefix}
use Rattle.syntax.specs.declared.operators.Prefix.TheVariants as prefix
use Rattle.syntax.specs.declared.operators.Relation.{Relation}
use Rattle.syntax.specs.declared.operators.Relation.TheVariants as relation
use Rattle.syntax.specs.Terminals.{Terminal, Identifier, Name, Text, LeadingKeyword, OfKeyword, OfSymbol}
use Rattle.syntax.specs.SourceTrees.{ExpressionTree, ConjunctionTree, ComparisonTree, SumTree, TermTree, UnaryTree, PrimaryTree, LastConjunction, ConjunctionThen, LastComparison, ComparisonThen}
use Rattle.syntax.specs.SourceTrees.{OneSum, TwoSums, LastTerm, TermThen, LastUnary, UnaryThen, Bare, Signed, Literal, Truth, Variable, Entry, Size, Parentheses, EndsTree, InitialTree, NewSet, Load}
use Rattle.syntax.specs.SourceTrees.{Vertices, OutDegrees, Filter, ApplyModified, Value, StatementKindTree, Declare, While, For, If, IfElse, Print, Assign, Reduce, SetEntry, ReduceEntry, AddVertex}
use Rattle.syntax.specs.SourceTrees.{Apply, BlockTree, Empty, Then, ParameterTree, DeclarationTree, Constant, Function, CallTree, ChainTree, SourceTree}
use Rattle.syntax.specs.ExpressionSpelling.{addition_terminal, multiplication_terminal, relation_terminal, prefix_terminal, truth_terminal, expression_terminals, conjunction_terminals}
use Rattle.syntax.specs.ExpressionSpelling.{comparison_terminals, sum_terminals, term_terminals, unary_terminals, primary_terminals}
use Rattle.syntax.specs.declared.declaration.DeclaredType.{DeclaredType}
use Rattle.syntax.specs.declared.declaration.DeclaredType.TheVariants as type
use Rattle.apply_options.specs.declared.reduction.Reduction.{Reduction}
use Rattle.apply_options.specs.declared.reduction.Reduction.TheVariants as reduction
use Rattle.syntax.specs.SourceSpelling.{each_before, type_terminals, reduction_terminal, argument_terminals, end_terminals, ends_before, initial_before, typed_before, assigned_before, label_terminals}
use Rattle.syntax.specs.SourceSpelling.{action_before, block_before, next_parameter_before, parameters_before, result_before, declaration_before, setting_keyword, next_text_before, call_before}
use Rattle.syntax.specs.SourceSpelling.{next_call_before, chain_before, schedule_before, source_terminals}
use Rattle.source_text.specs.Text.{bare}
use Rattle.source_text.specs.Bare.{bare_name, bare_expression, bare_conjunction, bare_comparison, bare_sum, bare_term, bare_unary, bare_primary, bare_ends, bare_initial, bare_parameter, bare_action}
use Rattle.source_text.specs.Bare.{bare_block, bare_declaration, bare_call, bare_chain, bare_source}

bare-append : (ws vs : List Terminal) → map bare (ws ++ vs) ≡ map bare ws ++ map bare vs
bare-append [] vs = refl
bare-append (w ∷ ws) vs = ap (λ o. bare w ∷ o) (bare-append ws vs)

bare_addition : (o : Addition) → bare (addition_terminal o) ≡ addition_terminal o
bare_addition addition.Plus = refl
bare_addition addition.Minus = refl

bare_multiplication : (o : Multiplication) → bare (multiplication_terminal o) ≡ multiplication_terminal o
bare_multiplication multiplication.Times = refl
bare_multiplication _ = refl

bare_relation : (o : Relation) → bare (relation_terminal o) ≡ relation_terminal o
bare_relation relation.Equal = refl
bare_relation _ = refl

bare_prefix : (o : Prefix) → bare (prefix_terminal o) ≡ prefix_terminal o
bare_prefix prefix.Minus = refl
bare_prefix prefix.Not = refl

bare_truth : (b : Bool) → bare (truth_terminal b) ≡ truth_terminal b
bare_truth true = refl
bare_truth false = refl

-- two trees with a terminal between them
bare_pair : (ls rs xs ys : List Terminal) (op terminal : Terminal) → map bare ls ≡ xs → bare op ≡ terminal → map bare rs ≡ ys → map bare (ls ++ op ∷ rs) ≡ xs ++ terminal ∷ ys
bare_pair ls rs xs ys op terminal left middle right =
    bare-append ls (op ∷ rs) ∙ ap (λ o. o ++ bare op ∷ map bare rs) left ∙ ap (λ w. xs ++ w ∷ map bare rs) middle ∙ ap (λ o. xs ++ terminal ∷ o) right

bare_closed : (ls xs : List Terminal) (op : Terminal) → map bare ls ≡ xs → map bare (ls ++ op ∷ []) ≡ xs ++ bare op ∷ []
bare_closed ls xs op left = bare-append ls (op ∷ []) ∙ ap (λ o. o ++ bare op ∷ []) left

mutual
  expressions_bare : (e : ExpressionTree) → map bare (expression_terminals e) ≡ expression_terminals (bare_expression e)
  expressions_bare (LastConjunction c) = conjunctions_bare c
  expressions_bare (ConjunctionThen c e) = bare_pair (conjunction_terminals c) (expression_terminals e) _ _ (OfKeyword keyword.Or) (OfKeyword keyword.Or) (conjunctions_bare c) refl
      (expressions_bare e)

  conjunctions_bare : (e : ConjunctionTree) → map bare (conjunction_terminals e) ≡ conjunction_terminals (bare_conjunction e)
  conjunctions_bare (LastComparison c) = comparisons_bare c
  conjunctions_bare (ComparisonThen c e) = bare_pair (comparison_terminals c) (conjunction_terminals e) _ _ (OfKeyword keyword.And) (OfKeyword keyword.And) (comparisons_bare c) refl
      (conjunctions_bare e)

  comparisons_bare : (e : ComparisonTree) → map bare (comparison_terminals e) ≡ comparison_terminals (bare_comparison e)
  comparisons_bare (OneSum s) = sums_bare s
  comparisons_bare (TwoSums l r s) = bare_pair (sum_terminals l) (sum_terminals s) _ _ (relation_terminal r) (relation_terminal r) (sums_bare l) (bare_relation r) (sums_bare s)

  sums_bare : (e : SumTree) → map bare (sum_terminals e) ≡ sum_terminals (bare_sum e)
  sums_bare (LastTerm t) = terms_bare t
  sums_bare (TermThen t o s) = bare_pair (term_terminals t) (sum_terminals s) _ _ (addition_terminal o) (addition_terminal o) (terms_bare t) (bare_addition o) (sums_bare s)

  terms_bare : (e : TermTree) → map bare (term_terminals e) ≡ term_terminals (bare_term e)
  terms_bare (LastUnary u) = unaries_bare u
  terms_bare (UnaryThen u o t) = bare_pair (unary_terminals u) (term_terminals t) _ _ (multiplication_terminal o) (multiplication_terminal o) (unaries_bare u) (bare_multiplication o) (terms_bare t)

  unaries_bare : (e : UnaryTree) → map bare (unary_terminals e) ≡ unary_terminals (bare_unary e)
  unaries_bare (Bare p) = primaries_bare p
  unaries_bare (Signed sign u) = ap (λ w. w ∷ map bare (unary_terminals u)) (bare_prefix sign) ∙ ap (λ o. prefix_terminal sign ∷ o) (unaries_bare u)

  primaries_bare : (e : PrimaryTree) → map bare (primary_terminals e) ≡ primary_terminals (bare_primary e)
  primaries_bare (Literal n) = refl
  primaries_bare (Truth b) = ap (λ w. w ∷ []) (bare_truth b)
  primaries_bare (Variable name) = refl
  primaries_bare (Entry name index) =
      ap (λ o. Name (bare_name name) ∷ OfSymbol symbol.OpenBracket ∷ o) (bare_closed (expression_terminals index) (expression_terminals (bare_expression index)) (OfSymbol symbol.CloseBracket)
      (expressions_bare index))
  primaries_bare (Size name) = refl
  primaries_bare (Parentheses inside) =
      ap (λ o. OfSymbol symbol.OpenParenthesis ∷ o) (bare_closed (expression_terminals inside) (expression_terminals (bare_expression inside)) (OfSymbol symbol.CloseParenthesis)
      (expressions_bare inside))

expression_bare : (e : ExpressionTree) (rest : List Terminal) → map bare (expression_terminals e ++ rest) ≡ expression_terminals (bare_expression e) ++ map bare rest
expression_bare e rest = bare-append (expression_terminals e) rest ∙ ap (λ o. o ++ map bare rest) (expressions_bare e)

type_bare : (d : DeclaredType) (rest : List Terminal) → map bare (type_terminals d ++ rest) ≡ type_terminals d ++ map bare rest
type_bare type.Int rest = refl
type_bare _ rest = refl

reduction_bare : (r : Reduction) (rest : List Terminal) → map bare (reduction_terminal r ∷ rest) ≡ reduction_terminal r ∷ map bare rest
reduction_bare reduction.Min rest = refl
reduction_bare _ rest = refl

-- the terminals of a tree before others
abbrev BareBefore : {A : Type 0} → (A → List Terminal → List Terminal) → (A → A) → A → Type 0
BareBefore before f a = (rest : List Terminal) → map bare (before a rest) ≡ before (f a) (map bare rest)

argument_bare : (name : Identifier) (rest : List Terminal) → map bare (argument_terminals name ++ rest) ≡ argument_terminals (bare_name name) ++ map bare rest
argument_bare name rest = refl

from_bare : (name : Option Identifier) (rest : List Terminal) → map bare (end_terminals (OfKeyword keyword.From) name ++ rest) ≡ end_terminals (OfKeyword keyword.From) (option_map bare_name name)
    ++ map bare rest
from_bare None rest = refl
from_bare (Some name) rest = ap (λ o. OfSymbol symbol.Dot ∷ OfKeyword keyword.From ∷ o) (argument_bare (name) (rest))

to_bare : (name : Option Identifier) (rest : List Terminal) → map bare (end_terminals (OfKeyword keyword.To) name ++ rest) ≡ end_terminals (OfKeyword keyword.To) (option_map bare_name name)
    ++ map bare rest
to_bare None rest = refl
to_bare (Some name) rest = ap (λ o. OfSymbol symbol.Dot ∷ OfKeyword keyword.To ∷ o) (argument_bare (name) (rest))

ends_bare : (ends : EndsTree) → BareBefore ends_before bare_ends ends
ends_bare ends rest = from_bare (ends.from) ((end_terminals (OfKeyword keyword.To) (ends.to) ++ (rest)))
    ∙ ap (λ o. (end_terminals (OfKeyword keyword.From) (option_map bare_name ends.from) ++ (o))) (to_bare (ends.to) (rest))

initial_bare : (initial : InitialTree) → BareBefore initial_before bare_initial initial
initial_bare (NewSet size) rest = refl
initial_bare (Load argument) rest = refl
initial_bare (Vertices edges) rest = refl
initial_bare (OutDegrees edges) rest = refl
initial_bare (Filter set test) rest = ap (λ o. Name (bare_name (set)) ∷ OfSymbol symbol.Dot ∷ OfKeyword keyword.Filter ∷ o) (argument_bare (test) (rest))
initial_bare (ApplyModified edges ends function vector) rest = ap (λ o. Name (bare_name (edges)) ∷ o)
    (ends_bare (ends) (OfSymbol symbol.Dot ∷ OfKeyword keyword.ApplyModified ∷ OfSymbol symbol.OpenParenthesis ∷ Name (function) ∷ OfSymbol symbol.Comma ∷ Name
    (vector) ∷ OfSymbol symbol.CloseParenthesis ∷ rest))
initial_bare (Value e) rest = expression_bare (e) (rest)

typed_bare : (p : ParameterTree) → BareBefore typed_before bare_parameter p
typed_bare p rest = ap (λ o. Name (bare_name (p.name)) ∷ OfSymbol symbol.Colon ∷ o) (type_bare (p.declared) (rest))

assigned_bare : (initial : InitialTree) → BareBefore assigned_before bare_initial initial
assigned_bare initial rest = ap (λ o. OfSymbol symbol.Assign ∷ o) (initial_bare (initial) (OfSymbol symbol.Semicolon ∷ rest))

label_bare : (label : Option Identifier) (rest : List Terminal) → map bare (label_terminals label ++ rest) ≡ label_terminals (option_map bare_name label) ++ map bare rest
label_bare None rest = refl
label_bare (Some label) rest = refl

mutual
  action_bare : (action : StatementKindTree) → BareBefore action_before bare_action action
  action_bare (Declare at p initial) rest = ap (λ o. LeadingKeyword (keyword.Var) 0 ∷ o) (typed_bare (p) ((assigned_before (initial) (rest))))
      ∙ ap (λ o. LeadingKeyword (keyword.Var) 0 ∷ (typed_before (bare_parameter p) (o))) (assigned_bare (initial) (rest))
  action_bare (While at test body) rest = ap (λ o. LeadingKeyword (keyword.While) 0 ∷ o) (expression_bare (test) ((block_before (body) (OfKeyword keyword.End ∷ rest))))
      ∙ ap (λ o. LeadingKeyword (keyword.While) 0 ∷ (expression_terminals (bare_expression (test)) ++ (o))) (block_bare (body) (OfKeyword keyword.End ∷ rest))
  action_bare (For at name first limit body) rest = ap (λ o. LeadingKeyword (keyword.For) 0 ∷ Name (bare_name (name)) ∷ OfKeyword keyword.In ∷ o)
      (expression_bare (first) (OfSymbol symbol.Colon ∷ (expression_terminals (limit) ++ ((block_before (body) (OfKeyword keyword.End ∷ rest))))))
      ∙ ap (λ o. LeadingKeyword (keyword.For) 0 ∷ Name (bare_name (name)) ∷ OfKeyword keyword.In ∷ (expression_terminals (bare_expression (first)) ++ (OfSymbol symbol.Colon ∷ o)))
      (expression_bare (limit) ((block_before (body) (OfKeyword keyword.End ∷ rest))))
      ∙ ap (λ o. LeadingKeyword (keyword.For) 0 ∷ Name (bare_name (name)) ∷ OfKeyword keyword.In ∷
      (expression_terminals (bare_expression (first)) ++ (OfSymbol symbol.Colon ∷ (expression_terminals (bare_expression (limit)) ++ (o))))) (block_bare (body) (OfKeyword keyword.End ∷ rest))
  action_bare (If at test body) rest = ap (λ o. LeadingKeyword (keyword.If) 0 ∷ o) (expression_bare (test) ((block_before (body) (OfKeyword keyword.End ∷ rest))))
      ∙ ap (λ o. LeadingKeyword (keyword.If) 0 ∷ (expression_terminals (bare_expression (test)) ++ (o))) (block_bare (body) (OfKeyword keyword.End ∷ rest))
  action_bare (IfElse at test body otherwise) rest = ap (λ o. LeadingKeyword (keyword.If) 0 ∷ o)
      (expression_bare (test) ((block_before (body) (OfKeyword keyword.Else ∷ (block_before (otherwise) (OfKeyword keyword.End ∷ rest))))))
      ∙ ap (λ o. LeadingKeyword (keyword.If) 0 ∷ (expression_terminals (bare_expression (test)) ++ (o)))
      (block_bare (body) (OfKeyword keyword.Else ∷ (block_before (otherwise) (OfKeyword keyword.End ∷ rest))))
      ∙ ap (λ o. LeadingKeyword (keyword.If) 0 ∷ (expression_terminals (bare_expression (test)) ++ ((block_before (bare_block body) (OfKeyword keyword.Else ∷ o)))))
      (block_bare (otherwise) (OfKeyword keyword.End ∷ rest))
  action_bare (Print at value) rest = ap (λ o. LeadingKeyword (keyword.Print) 0 ∷ o) (expression_bare (value) (OfSymbol symbol.Semicolon ∷ rest))
  action_bare (Assign name value) rest = ap (λ o. Name (bare_name (name)) ∷ o) (assigned_bare (value) (rest))
  action_bare (Reduce name reduction value) rest = ap (λ o. Name (bare_name (name)) ∷ o) (reduction_bare (reduction) ((expression_terminals (value) ++ (OfSymbol symbol.Semicolon ∷ rest))))
      ∙ ap (λ o. Name (bare_name (name)) ∷ (reduction_terminal (reduction) ∷ (o))) (expression_bare (value) (OfSymbol symbol.Semicolon ∷ rest))
  action_bare (SetEntry vector index value) rest = ap (λ o. Name (bare_name (vector)) ∷ OfSymbol symbol.OpenBracket ∷ o)
      (expression_bare (index) (OfSymbol symbol.CloseBracket ∷ OfSymbol symbol.Assign ∷ (expression_terminals (value) ++ (OfSymbol symbol.Semicolon ∷ rest))))
      ∙ ap (λ o. Name (bare_name (vector)) ∷ OfSymbol symbol.OpenBracket ∷ (expression_terminals (bare_expression (index)) ++ (OfSymbol symbol.CloseBracket ∷ OfSymbol symbol.Assign ∷ o)))
      (expression_bare (value) (OfSymbol symbol.Semicolon ∷ rest))
  action_bare (ReduceEntry vector index reduction value) rest = ap (λ o. Name (bare_name (vector)) ∷ OfSymbol symbol.OpenBracket ∷ o)
      (expression_bare (index) (OfSymbol symbol.CloseBracket ∷ (reduction_terminal (reduction) ∷ ((expression_terminals (value) ++ (OfSymbol symbol.Semicolon ∷ rest))))))
      ∙ ap (λ o. Name (bare_name (vector)) ∷ OfSymbol symbol.OpenBracket ∷ (expression_terminals (bare_expression (index)) ++ (OfSymbol symbol.CloseBracket ∷ o)))
      (reduction_bare (reduction) ((expression_terminals (value) ++ (OfSymbol symbol.Semicolon ∷ rest))))
      ∙ ap (λ o. Name (bare_name (vector)) ∷ OfSymbol symbol.OpenBracket ∷ (expression_terminals (bare_expression (index)) ++ (OfSymbol symbol.CloseBracket ∷ (reduction_terminal (reduction) ∷ (o)))))
      (expression_bare (value) (OfSymbol symbol.Semicolon ∷ rest))
  action_bare (AddVertex set vertex) rest = ap (λ o. Name (bare_name (set)) ∷ OfSymbol symbol.Dot ∷ OfKeyword keyword.AddVertex ∷ OfSymbol symbol.OpenParenthesis ∷ o)
      (expression_bare (vertex) (OfSymbol symbol.CloseParenthesis ∷ OfSymbol symbol.Semicolon ∷ rest))
  action_bare (Apply target ends function) rest = ap (λ o. Name (bare_name (target)) ∷ o)
      (ends_bare (ends) (OfSymbol symbol.Dot ∷ OfKeyword keyword.Apply ∷ (argument_terminals (function) ++ (OfSymbol symbol.Semicolon ∷ rest))))
      ∙ ap (λ o. Name (bare_name (target)) ∷ (ends_before (bare_ends ends) (OfSymbol symbol.Dot ∷ OfKeyword keyword.Apply ∷ o))) (argument_bare (function) (OfSymbol symbol.Semicolon ∷ rest))

  block_bare : (block : BlockTree) → BareBefore block_before bare_block block
  block_bare Empty rest = refl
  block_bare (Then label action others) rest = label_bare (label) ((action_before (action) ((block_before (others) (rest)))))
      ∙ ap (λ o. (label_terminals (option_map bare_name label) ++ (o))) (action_bare (action) ((block_before (others) (rest))))
      ∙ ap (λ o. (label_terminals (option_map bare_name label) ++ ((action_before (bare_action action) (o))))) (block_bare (others) (rest))

each_bare : {A : Type 0} (before : A → List Terminal → List Terminal) (f : A → A) → ((a : A) → BareBefore before f a) → (items : List A) → BareBefore (each_before before) (map f) items
each_bare before f every [] rest = refl
each_bare before f every (x ∷ items) rest = every x (each_before before items rest) ∙ ap (before (f x)) (each_bare before f every items rest)

next_parameter_bare : (p : ParameterTree) → BareBefore next_parameter_before bare_parameter p
next_parameter_bare p rest = ap (λ o. OfSymbol symbol.Comma ∷ o) (typed_bare (p) (rest))

parameters_bare : (ps : List ParameterTree) → BareBefore parameters_before (map bare_parameter) ps
parameters_bare [] rest = refl
parameters_bare (p ∷ ps) rest = typed_bare (p) ((each_before next_parameter_before (ps) (rest)))
    ∙ ap (λ o. (typed_before (bare_parameter p) (o))) (each_bare next_parameter_before bare_parameter next_parameter_bare (ps) (rest))

result_bare : (result : Option ParameterTree) → BareBefore result_before (option_map bare_parameter) result
result_bare None rest = refl
result_bare (Some p) rest = ap (λ o. OfSymbol symbol.Arrow ∷ o) (typed_bare (p) (rest))

declaration_bare : (d : DeclarationTree) → BareBefore declaration_before bare_declaration d
declaration_bare (Constant at p initial) rest = ap (λ o. LeadingKeyword (keyword.Const) 0 ∷ o) (typed_bare (p) ((assigned_before (initial) (rest))))
    ∙ ap (λ o. LeadingKeyword (keyword.Const) 0 ∷ (typed_before (bare_parameter p) (o))) (assigned_bare (initial) (rest))
declaration_bare (Function at name parameters result body) rest = ap (λ o. LeadingKeyword (keyword.Func) 0 ∷ Name (bare_name (name)) ∷ OfSymbol symbol.OpenParenthesis ∷ o)
    (parameters_bare (parameters) (OfSymbol symbol.CloseParenthesis ∷ (result_before (result) ((block_before (body) (OfKeyword keyword.End ∷ rest))))))
    ∙ ap (λ o. LeadingKeyword (keyword.Func) 0 ∷ Name (bare_name (name)) ∷ OfSymbol symbol.OpenParenthesis ∷ (parameters_before (map bare_parameter parameters) (OfSymbol symbol.CloseParenthesis ∷ o)))
    (result_bare (result) ((block_before (body) (OfKeyword keyword.End ∷ rest))))
    ∙ ap (λ o. LeadingKeyword (keyword.Func) 0 ∷ Name (bare_name (name)) ∷ OfSymbol symbol.OpenParenthesis ∷
    (parameters_before (map bare_parameter parameters) (OfSymbol symbol.CloseParenthesis ∷ (result_before (option_map bare_parameter result) (o))))) (block_bare (body) (OfKeyword keyword.End ∷ rest))

texts_bare : (texts : List (List ℕ)) (rest : List Terminal) → map bare (each_before next_text_before texts rest) ≡ each_before next_text_before texts (map bare rest)
texts_bare [] rest = refl
texts_bare (text ∷ texts) rest = ap (λ o. OfSymbol symbol.Comma ∷ Text text ∷ o) (texts_bare texts rest)

call_bare : (call : CallTree) → BareBefore call_before bare_call call
call_bare call rest =
    ap (λ o. LeadingKeyword (setting_keyword call.setting) 0 ∷ OfSymbol symbol.OpenParenthesis ∷ Text call.first ∷ o) (texts_bare (call.more) (OfSymbol symbol.CloseParenthesis ∷ rest))

next_call_bare : (call : CallTree) → BareBefore next_call_before bare_call call
next_call_bare call rest = ap (λ o. OfSymbol symbol.Arrow ∷ o) (call_bare (call) (rest))

chain_bare : (chain : ChainTree) → BareBefore chain_before bare_chain chain
chain_bare chain rest = ap (λ o. OfKeyword keyword.Program ∷ o) (next_call_bare (chain.first) ((each_before next_call_before (chain.more) (OfSymbol symbol.Semicolon ∷ rest))))
    ∙ ap (λ o. OfKeyword keyword.Program ∷ (next_call_before (bare_call chain.first) (o))) (each_bare next_call_before bare_call next_call_bare (chain.more) (OfSymbol symbol.Semicolon ∷ rest))

schedule_bare : (schedule : Option (List ChainTree)) → BareBefore schedule_before (option_map (map bare_chain)) schedule
schedule_bare None rest = refl
schedule_bare (Some chains) rest = ap (λ o. OfKeyword keyword.Schedule ∷ OfSymbol symbol.Colon ∷ o) (each_bare chain_before bare_chain chain_bare (chains) (rest))

pub source_bare : (source : SourceTree) → map bare (source_terminals source) ≡ source_terminals (bare_source source)
source_bare source =
    let elements : List Terminal = OfKeyword keyword.Element ∷ OfKeyword keyword.Vertex ∷ OfKeyword keyword.End ∷ OfKeyword keyword.Element ∷ OfKeyword keyword.Edge ∷ OfKeyword keyword.End ∷ [] in
    ap (λ o. elements ++ o) (each_bare declaration_before bare_declaration declaration_bare source.declarations (schedule_before source.schedule []))
    ∙ ap (λ o. elements ++ each_before declaration_before (map bare_declaration source.declarations) o) (schedule_bare source.schedule [])
