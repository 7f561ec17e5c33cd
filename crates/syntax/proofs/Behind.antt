-- What holds of the terminals of a tree and of those after it holds of those after it.
use Rattle.std.proofs.Common.{List, [], ◌∷◌, ◌++◌, Option, Some, None}
use Rattle.std.specs.List.{AllByRecursion}
use Rattle.lexer.specs.declared.keyword.Keyword.TheVariants as keyword
use Rattle.syntax.specs.Terminals.{Terminal, OfKeyword}
use Rattle.syntax.specs.SourceTrees.{ExpressionTree, EndsTree, InitialTree, NewSet, Load, Vertices, OutDegrees, Filter, ApplyModified, Value, StatementKindTree, Declare, While, For, If, IfElse, Print}
use Rattle.syntax.specs.SourceTrees.{Assign, Reduce, SetEntry, ReduceEntry, AddVertex, Apply, BlockTree, Empty, Then, ParameterTree, DeclarationTree, Constant, Function, CallTree, ChainTree}
use Rattle.syntax.specs.ExpressionSpelling.{expression_terminals}
use Rattle.syntax.specs.SourceSpelling.{action_before, assigned_before, block_before, call_before, chain_before, declaration_before, each_before, end_terminals, ended_before, ends_before}
use Rattle.syntax.specs.SourceSpelling.{initial_before, label_terminals, next_call_before, next_parameter_before, next_text_before, parameters_before, result_before, type_terminals, typed_before}

pub all_left : {A : Type 0} (P : A → Type 0) (xs ys : List A) → AllByRecursion P (xs ++ ys) → AllByRecursion P xs
all_left P [] ys all = tt
all_left P (x ∷ xs) ys all = (all.0, all_left P xs ys all.1)

pub all_right : {A : Type 0} (P : A → Type 0) (xs ys : List A) → AllByRecursion P (xs ++ ys) → AllByRecursion P ys
all_right P [] ys all = all
all_right P (x ∷ xs) ys all = all_right P xs ys all.1

pub all_both : {A : Type 0} (P : A → Type 0) (xs ys : List A) → AllByRecursion P xs → AllByRecursion P ys → AllByRecursion P (xs ++ ys)
all_both P [] ys first second = second
all_both P (x ∷ xs) ys first second = (first.0, all_both P xs ys first.1 second)

-- after trees of which this holds of each
pub each_after : {A : Type 0} (P : Terminal → Type 0) (before : A → List Terminal → List Terminal)
    → ((tree : A) (rest : List Terminal) → AllByRecursion P (before tree rest) → AllByRecursion P rest)
    → (trees : List A) (rest : List Terminal) → AllByRecursion P (each_before before trees rest) → AllByRecursion P rest
each_after P before behind [] rest all = all
each_after P before behind (tree ∷ others) rest all = each_after P before behind others rest (behind tree (each_before before others rest) all)

pub typed_after : (P : Terminal → Type 0) (p : ParameterTree) (rest : List Terminal) → AllByRecursion P (typed_before p rest) → AllByRecursion P rest
typed_after P p rest all = all_right P (type_terminals p.declared) rest all.1.1

pub ends_after : (P : Terminal → Type 0) (ends : EndsTree) (rest : List Terminal) → AllByRecursion P (ends_before ends rest) → AllByRecursion P rest
ends_after P ends rest all =
    let to = end_terminals (OfKeyword keyword.To) ends.to in
    all_right P to rest (all_right P (end_terminals (OfKeyword keyword.From) ends.from) (to ++ rest) all)

initial_after : (P : Terminal → Type 0) (initial : InitialTree) (rest : List Terminal) → AllByRecursion P (initial_before initial rest) → AllByRecursion P rest
initial_after P (NewSet size) rest all = all.1.1.1.1.1.1.1.1
initial_after P (Load argument) rest all = all.1.1.1.1.1.1.1
initial_after P (Vertices edges) rest all = all.1.1.1.1.1
initial_after P (OutDegrees edges) rest all = all.1.1.1.1.1
initial_after P (Filter set test) rest all = all.1.1.1.1.1.1
initial_after P (ApplyModified edges ends function vector) rest all = let behind = ends_after P ends _ all.1 in behind.1.1.1.1.1.1.1
initial_after P (Value e) rest all = all_right P (expression_terminals e) rest all

pub assigned_after : (P : Terminal → Type 0) (initial : InitialTree) (rest : List Terminal) → AllByRecursion P (assigned_before initial rest) → AllByRecursion P rest
assigned_after P initial rest all = let behind = initial_after P initial _ all.1 in behind.1

ended_after : (P : Terminal → Type 0) (e : ExpressionTree) (rest : List Terminal) → AllByRecursion P (ended_before e rest) → AllByRecursion P rest
ended_after P e rest all = let behind = all_right P (expression_terminals e) _ all in behind.1

mutual
  pub action_after : (P : Terminal → Type 0) (action : StatementKindTree) (rest : List Terminal) → AllByRecursion P (action_before action rest) → AllByRecursion P rest
  action_after P (Declare at p initial) rest all = assigned_after P initial rest (typed_after P p (assigned_before initial rest) all.1)
  action_after P (While at test body) rest all = let behind = block_behind P body (OfKeyword keyword.End ∷ rest) (all_right P (expression_terminals test) _ all.1) in behind.1
  action_after P (For at name first limit body) rest all =
      let second = all_right P (expression_terminals first) _ all.1.1.1 in
      let behind = block_behind P body (OfKeyword keyword.End ∷ rest) (all_right P (expression_terminals limit) _ second.1) in behind.1
  action_after P (If at test body) rest all = let behind = block_behind P body (OfKeyword keyword.End ∷ rest) (all_right P (expression_terminals test) _ all.1) in behind.1
  action_after P (IfElse at test body otherwise) rest all =
      let first = block_behind P body (OfKeyword keyword.Else ∷ block_before otherwise (OfKeyword keyword.End ∷ rest)) (all_right P (expression_terminals test) _ all.1) in
      let behind = block_behind P otherwise (OfKeyword keyword.End ∷ rest) first.1 in behind.1
  action_after P (Print at e) rest all = ended_after P e rest all.1
  action_after P (Assign name initial) rest all = assigned_after P initial rest all.1
  action_after P (Reduce name by e) rest all = ended_after P e rest all.1.1
  action_after P (SetEntry vector index e) rest all = let second = all_right P (expression_terminals index) _ all.1.1 in ended_after P e rest second.1.1
  action_after P (ReduceEntry vector index by e) rest all = let second = all_right P (expression_terminals index) _ all.1.1 in ended_after P e rest second.1.1
  action_after P (AddVertex set e) rest all = let behind = all_right P (expression_terminals e) _ all.1.1.1.1 in behind.1.1
  action_after P (Apply target ends function) rest all = let behind = ends_after P ends _ all.1 in behind.1.1.1.1.1.1

  pub block_behind : (P : Terminal → Type 0) (block : BlockTree) (rest : List Terminal) → AllByRecursion P (block_before block rest) → AllByRecursion P rest
  block_behind P Empty rest all = all
  block_behind P (Then label action others) rest all =
      block_behind P others rest (action_after P action (block_before others rest) (all_right P (label_terminals label) _ all))

pub parameters_after : (P : Terminal → Type 0) (parameters : List ParameterTree) (rest : List Terminal) → AllByRecursion P (parameters_before parameters rest) → AllByRecursion P rest
parameters_after P [] rest all = all
parameters_after P (p ∷ others) rest all =
    each_after P next_parameter_before (λ p rest all. typed_after P p rest all.1) others rest (typed_after P p (each_before next_parameter_before others rest) all)

pub result_after : (P : Terminal → Type 0) (result : Option ParameterTree) (rest : List Terminal) → AllByRecursion P (result_before result rest) → AllByRecursion P rest
result_after P None rest all = all
result_after P (Some p) rest all = typed_after P p rest all.1

pub declaration_after : (P : Terminal → Type 0) (x : DeclarationTree) (rest : List Terminal) → AllByRecursion P (declaration_before x rest) → AllByRecursion P rest
declaration_after P (Constant at p initial) rest all = assigned_after P initial rest (typed_after P p (assigned_before initial rest) all.1)
declaration_after P (Function at name parameters result body) rest all =
    let inside = parameters_after P parameters _ all.1.1.1 in
    let behind = block_behind P body (OfKeyword keyword.End ∷ rest) (result_after P result _ inside.1) in behind.1

call_after : (P : Terminal → Type 0) (call : CallTree) (rest : List Terminal) → AllByRecursion P (call_before call rest) → AllByRecursion P rest
call_after P call rest all = let behind = each_after P next_text_before (λ text rest all. all.1.1) call.more _ all.1.1.1 in behind.1

pub next_call_after : (P : Terminal → Type 0) (call : CallTree) (rest : List Terminal) → AllByRecursion P (next_call_before call rest) → AllByRecursion P rest
next_call_after P call rest all = call_after P call rest all.1

pub chain_after : (P : Terminal → Type 0) (chain : ChainTree) (rest : List Terminal) → AllByRecursion P (chain_before chain rest) → AllByRecursion P rest
chain_after P chain rest all =
    let behind = each_after P next_call_before (next_call_after P) chain.more _ (next_call_after P chain.first _ all.1) in behind.1
