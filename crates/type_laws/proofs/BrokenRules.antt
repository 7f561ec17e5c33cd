-- The faults of a source are the rules that it breaks, and the least of them is reported.
use Rattle.std.proofs.Common.{inl, inr, subst, ℕ, Bool, true, false, if◌then◌else◌, List, [], ◌∷◌, Option, Some, None, Ok, Err, ◌↔◌, refl}
use Rattle.std.specs.Prelude.{map}
use Rattle.std.specs.List.{AllByRecursion, Contains}
use Rattle.syntax.specs.Terminals.{Identifier}
use Rattle.syntax.specs.SourceTrees as tree
use Rattle.syntax.specs.SourceTrees.{ExpressionTree, ConjunctionTree, ComparisonTree, SumTree, TermTree, UnaryTree, PrimaryTree, StatementKindTree, BlockTree, DeclarationTree, EndsTree, InitialTree}
use Rattle.syntax.specs.SourceTrees.{ParameterTree, SourceTree}
use Rattle.typed_tree.specs.declared.expression.Endpoint.{Endpoint}
use Rattle.typed_tree.specs.declared.expression.Endpoint.TheVariants as endpoint
use Rattle.expression_types.specs.declared.fault.Fault.{Fault}
use Rattle.expression_types.specs.declared.fault.TypeRule.{TypeRule}
use Rattle.typed_tree.specs.ProgramTree.{ProgramTree}
use Rattle.expression_types.specs.Expression.{index_lacks_value}
use Rattle.expression_types.specs.Least.{IsAtMost}
use Rattle.expression_types.specs.ScopeTree.{ScopeTree}
use Rattle.initializer_types.specs.Checker.{CheckerTree, declared_in}
use Rattle.initializer_types.specs.DeclarationForms.{FunctionKindTree, MainKind, EdgeKind, VertexKind, FilterKind, NoKind, kind}
use Rattle.types.specs.Declaration.{DeclaredTree, declaration_typed, parameter}
use Rattle.types.specs.Program.{Checks, program_of}
use Rattle.expression_types.proofs.LeastLaws.{told_is_least}
use Rattle.type_laws.specs.BrokenRules.{Breaks, BreaksNoRule, BreaksRule, IsLeastBroken}
use Rattle.type_laws.specs.ExpressionParts as form
use Rattle.type_laws.specs.ExpressionParts.{Form, conjuncts_of, disjuncts_of, factors_of, summands_of}
use Rattle.type_laws.specs.SourceParts.{Part, Source, Declarations, Declaration, Parameters, MainBlock, MainStatement, FunctionBlock, FunctionStatement, Label, NewName, Initial, IntWanted, BoolWanted}
use Rattle.type_laws.specs.SourceParts.{VectorWanted, MainIndex, FunctionIndex, InExpression, body_part, initial_forms, name_before, parts_of}
use Rattle.type_laws.proofs.PartSplits.{splits}
use Rattle.type_laws.proofs.SplitFaults.{broken_is_fault, cons_cases, faults, none_contained, whole_breaks}
use Rattle.type_laws.specs.KeptRules.{KeepsRules}
use Rattle.type_laws.proofs.FaultlessSources.{source_keeps}
use Rattle.type_laws.proofs.KeptSources.{source_kept}
use Rattle.type_laws.proofs.Outcomes.{Outcome, one_outcome}

-- a fault of a part is a broken rule in it
abbrev IsBroken : Fault → Part → Type 0
IsBroken f part = Contains (faults part) f → Breaks f.at f.rule part

abbrev AreBroken : Fault → List Part → Type 0
AreBroken f all = AllByRecursion (IsBroken f) all

by_parts : (f : Fault) (part : Part) → AreBroken f (parts_of part) → IsBroken f part
by_parts f part all has = whole_breaks f part (splits part) all has

-- expressions
name_broken : (f : Fault) (scope : ScopeTree) (at : ℕ) (name : Identifier) → IsBroken f (InExpression scope at (form.Name name))
name_broken f scope at name = by_parts f (InExpression scope at (form.Name name)) tt

if_index_broken : (f : Fault) (scope : ScopeTree) (at : ℕ) (index : ExpressionTree) (lacks : Bool) → IsBroken f (InExpression scope at (form.Expression index))
    → AreBroken f (map (InExpression scope at) (if lacks then [] else form.Expression index ∷ []))
if_index_broken f scope at index true broken = tt
if_index_broken f scope at index false broken = (broken, tt)

index_from : (f : Fault) (scope : ScopeTree) (at : ℕ) (index : ExpressionTree) → IsBroken f (InExpression scope at (form.Expression index)) → IsBroken f (InExpression scope at (form.Index index))
index_from f scope at index broken = by_parts f (InExpression scope at (form.Index index)) (if_index_broken f scope at index (index_lacks_value scope.inside scope index) broken)

mutual
  disjuncts_broken : (f : Fault) (scope : ScopeTree) (at : ℕ) (e : ExpressionTree) → AreBroken f (map (InExpression scope at) (disjuncts_of e))
  disjuncts_broken f scope at (tree.LastConjunction c) = (by_parts f (InExpression scope at (form.Conjunction c)) (conjuncts_broken f scope at c), tt)
  disjuncts_broken f scope at (tree.ConjunctionThen c others) = (by_parts f (InExpression scope at (form.Conjunction c)) (conjuncts_broken f scope at c), disjuncts_broken f scope at others)

  conjuncts_broken : (f : Fault) (scope : ScopeTree) (at : ℕ) (c : ConjunctionTree) → AreBroken f (map (InExpression scope at) (conjuncts_of c))
  conjuncts_broken f scope at (tree.LastComparison c) = (comparison_broken f scope at c, tt)
  conjuncts_broken f scope at (tree.ComparisonThen c others) = (comparison_broken f scope at c, conjuncts_broken f scope at others)

  comparison_broken : (f : Fault) (scope : ScopeTree) (at : ℕ) (c : ComparisonTree) → IsBroken f (InExpression scope at (form.Comparison c))
  comparison_broken f scope at (tree.OneSum s) = by_parts f (InExpression scope at (form.Comparison (tree.OneSum s)))
      (by_parts f (InExpression scope at (form.Sum s)) (summands_broken f scope at s), tt)
  comparison_broken f scope at (tree.TwoSums left relation right) =
      by_parts f (InExpression scope at (form.Comparison (tree.TwoSums left relation right)))
      (by_parts f (InExpression scope at (form.Sum left)) (summands_broken f scope at left), (by_parts f (InExpression scope at (form.Sum right)) (summands_broken f scope at right), tt))

  summands_broken : (f : Fault) (scope : ScopeTree) (at : ℕ) (s : SumTree) → AreBroken f (map (InExpression scope at) (summands_of s))
  summands_broken f scope at (tree.LastTerm t) = (by_parts f (InExpression scope at (form.Term t)) (factors_broken f scope at t), tt)
  summands_broken f scope at (tree.TermThen t o others) = (by_parts f (InExpression scope at (form.Term t)) (factors_broken f scope at t), summands_broken f scope at others)

  factors_broken : (f : Fault) (scope : ScopeTree) (at : ℕ) (t : TermTree) → AreBroken f (map (InExpression scope at) (factors_of t))
  factors_broken f scope at (tree.LastUnary u) = (unary_broken f scope at u, tt)
  factors_broken f scope at (tree.UnaryThen u o others) = (unary_broken f scope at u, factors_broken f scope at others)

  unary_broken : (f : Fault) (scope : ScopeTree) (at : ℕ) (u : UnaryTree) → IsBroken f (InExpression scope at (form.Unary u))
  unary_broken f scope at (tree.Bare e) = by_parts f (InExpression scope at (form.Unary (tree.Bare e))) (primary_broken f scope at e, tt)
  unary_broken f scope at (tree.Signed sign u) = by_parts f (InExpression scope at (form.Unary (tree.Signed sign u))) (unary_broken f scope at u, tt)

  primary_broken : (f : Fault) (scope : ScopeTree) (at : ℕ) (e : PrimaryTree) → IsBroken f (InExpression scope at (form.Primary e))
  primary_broken f scope at (tree.Literal n) = by_parts f (InExpression scope at (form.Primary (tree.Literal n))) tt
  primary_broken f scope at (tree.Truth b) = by_parts f (InExpression scope at (form.Primary (tree.Truth b))) tt
  primary_broken f scope at (tree.Variable name) = by_parts f (InExpression scope at (form.Primary (tree.Variable name))) (name_broken f scope at name, tt)
  primary_broken f scope at (tree.Entry vector index) =
      by_parts f (InExpression scope at (form.Primary (tree.Entry vector index)))
      (name_broken f scope at vector, (index_from f scope at index (by_parts f (InExpression scope at (form.Expression index)) (disjuncts_broken f scope at index)), tt))
  primary_broken f scope at (tree.Size set) = by_parts f (InExpression scope at (form.Primary (tree.Size set))) (name_broken f scope at set, tt)
  primary_broken f scope at (tree.Parentheses inner) = by_parts f (InExpression scope at (form.Primary (tree.Parentheses inner)))
      (by_parts f (InExpression scope at (form.Expression inner)) (disjuncts_broken f scope at inner), tt)

expression_broken : (f : Fault) (scope : ScopeTree) (at : ℕ) (e : ExpressionTree) → IsBroken f (InExpression scope at (form.Expression e))
expression_broken f scope at e = by_parts f (InExpression scope at (form.Expression e)) (disjuncts_broken f scope at e)

index_broken : (f : Fault) (scope : ScopeTree) (at : ℕ) (index : ExpressionTree) → IsBroken f (InExpression scope at (form.Index index))
index_broken f scope at index = index_from f scope at index (expression_broken f scope at index)

int_broken : (f : Fault) (scope : ScopeTree) (at : ℕ) (e : ExpressionTree) → IsBroken f (IntWanted scope at e)
int_broken f scope at e = by_parts f (IntWanted scope at e) (expression_broken f scope at e, tt)

bool_broken : (f : Fault) (scope : ScopeTree) (at : ℕ) (e : ExpressionTree) → IsBroken f (BoolWanted scope at e)
bool_broken f scope at e = by_parts f (BoolWanted scope at e) (expression_broken f scope at e, tt)

vector_broken : (f : Fault) (scope : ScopeTree) (at : ℕ) (name : Identifier) → IsBroken f (VectorWanted scope at name)
vector_broken f scope at name = by_parts f (VectorWanted scope at name) (name_broken f scope at name, tt)

main_index_broken : (f : Fault) (scope : ScopeTree) (at : ℕ) (e : ExpressionTree) → IsBroken f (MainIndex scope at e)
main_index_broken f scope at e = by_parts f (MainIndex scope at e) (expression_broken f scope at e, tt)

function_index_broken : (f : Fault) (scope : ScopeTree) (at : ℕ) (e : ExpressionTree) → IsBroken f (FunctionIndex scope at e)
function_index_broken f scope at e = by_parts f (FunctionIndex scope at e) (index_broken f scope at e, tt)

new_broken : (f : Fault) (scope : ScopeTree) (name : Identifier) → IsBroken f (NewName scope name)
new_broken f scope name = by_parts f (NewName scope name) tt

-- initial values
before_broken : (f : Fault) (scope : ScopeTree) (at : ℕ) (o : Option Identifier) (others : List Form) → AreBroken f (map (InExpression scope at) others)
    → AreBroken f (map (InExpression scope at) (name_before o others))
before_broken f scope at None others all = all
before_broken f scope at (Some name) others all = (name_broken f scope at name, all)

forms_broken : (f : Fault) (c : CheckerTree) (at : ℕ) (x : InitialTree) → AreBroken f (map (InExpression c.scope at) (initial_forms x))
forms_broken f c at (tree.NewSet size) = tt
forms_broken f c at (tree.Load argument) = tt
forms_broken f c at (tree.Vertices edges) = (name_broken f c.scope at edges, tt)
forms_broken f c at (tree.OutDegrees edges) = (name_broken f c.scope at edges, tt)
forms_broken f c at (tree.Filter set test) = (name_broken f c.scope at set, (name_broken f c.scope at test, tt))
forms_broken f c at (tree.ApplyModified edges sides function vector) = (
  name_broken f c.scope at edges,
  before_broken f c.scope at sides.from _ (before_broken f c.scope at sides.to (form.Name function ∷ form.Name vector ∷ [])
      (name_broken f c.scope at function, (name_broken f c.scope at vector, tt))),
)
forms_broken f c at (tree.Value e) = (expression_broken f c.scope at e, tt)

initial_broken : (f : Fault) (c : CheckerTree) (at : ℕ) (x : InitialTree) → IsBroken f (Initial c at x)
initial_broken f c at x = by_parts f (Initial c at x) (forms_broken f c at x)

label_broken : (f : Fault) (c : CheckerTree) (label : Option Identifier) → IsBroken f (Label c label)
label_broken f c label = by_parts f (Label c label) tt

-- statements
mutual
  main_broken : (f : Fault) (c : CheckerTree) (action : StatementKindTree) → IsBroken f (MainStatement c action)
  main_broken f c (tree.Declare at p initial) = by_parts f (MainStatement c (tree.Declare at p initial)) (initial_broken f c at initial, (new_broken f c.scope p.name, tt))
  main_broken f c (tree.While at test body) = by_parts f (MainStatement c (tree.While at test body)) (bool_broken f c.scope at test, (main_block_broken f _ body, tt))
  main_broken f c (tree.For at name first limit body) =
      by_parts f (MainStatement c (tree.For at name first limit body)) (int_broken f c.scope at first, (int_broken f c.scope at limit, (new_broken f c.scope name, (main_block_broken f _ body, tt))))
  main_broken f c (tree.If at test body) = by_parts f (MainStatement c (tree.If at test body)) (bool_broken f c.scope at test, (main_block_broken f _ body, tt))
  main_broken f c (tree.IfElse at test body otherwise) =
      by_parts f (MainStatement c (tree.IfElse at test body otherwise)) (bool_broken f c.scope at test, (main_block_broken f _ body, (main_block_broken f _ otherwise, tt)))
  main_broken f c (tree.Print at e) = by_parts f (MainStatement c (tree.Print at e)) (expression_broken f c.scope at e, tt)
  main_broken f c (tree.Assign name initial) = by_parts f (MainStatement c (tree.Assign name initial)) (name_broken f c.scope name.at name, (initial_broken f c name.at initial, tt))
  main_broken f c (tree.Reduce name by e) = by_parts f (MainStatement c (tree.Reduce name by e)) (name_broken f c.scope name.at name, (expression_broken f c.scope name.at e, tt))
  main_broken f c (tree.SetEntry vector index e) =
      by_parts f (MainStatement c (tree.SetEntry vector index e)) (vector_broken f c.scope vector.at vector, (main_index_broken f c.scope vector.at index, (int_broken f c.scope vector.at e, tt)))
  main_broken f c (tree.ReduceEntry vector index by e) =
      by_parts f (MainStatement c (tree.ReduceEntry vector index by e)) (
        vector_broken f c.scope vector.at vector,
        (main_index_broken f c.scope vector.at index, (int_broken f c.scope vector.at e, tt)),
      )
  main_broken f c (tree.AddVertex set e) = by_parts f (MainStatement c (tree.AddVertex set e)) (name_broken f c.scope set.at set, (expression_broken f c.scope set.at e, tt))
  main_broken f c (tree.Apply target sides function) =
      by_parts f (MainStatement c (tree.Apply target sides function)) (
        name_broken f c.scope target.at target,
        before_broken f c.scope target.at sides.from _
            (before_broken f c.scope target.at sides.to (form.Name function ∷ []) (name_broken f c.scope target.at function, tt)),
      )

  main_block_broken : (f : Fault) (c : CheckerTree) (block : BlockTree) → IsBroken f (MainBlock c block)
  main_block_broken f c tree.Empty = by_parts f (MainBlock c tree.Empty) tt
  main_block_broken f c (tree.Then label action others) =
      by_parts f (MainBlock c (tree.Then label action others)) (label_broken f c label, (main_broken f _ action, (main_block_broken f _ others, tt)))

mutual
  function_broken : (f : Fault) (c : CheckerTree) (action : StatementKindTree) → IsBroken f (FunctionStatement c action)
  function_broken f c (tree.Declare at p initial) = by_parts f (FunctionStatement c (tree.Declare at p initial)) (initial_broken f c at initial, (new_broken f c.scope p.name, tt))
  function_broken f c (tree.While at test body) = by_parts f (FunctionStatement c (tree.While at test body)) (bool_broken f c.scope at test, (function_block_broken f _ body, tt))
  function_broken f c (tree.For at name first limit body) =
      by_parts f (FunctionStatement c (tree.For at name first limit body)) (
        int_broken f c.scope at first,
        (int_broken f c.scope at limit, (new_broken f c.scope name, (function_block_broken f _ body, tt))),
      )
  function_broken f c (tree.If at test body) = by_parts f (FunctionStatement c (tree.If at test body)) (bool_broken f c.scope at test, (function_block_broken f _ body, tt))
  function_broken f c (tree.IfElse at test body otherwise) =
      by_parts f (FunctionStatement c (tree.IfElse at test body otherwise)) (bool_broken f c.scope at test, (function_block_broken f _ body, (function_block_broken f _ otherwise, tt)))
  function_broken f c (tree.Print at e) = by_parts f (FunctionStatement c (tree.Print at e)) tt
  function_broken f c (tree.Assign name initial) = by_parts f (FunctionStatement c (tree.Assign name initial)) (name_broken f c.scope name.at name, (initial_broken f c name.at initial, tt))
  function_broken f c (tree.Reduce name by e) = by_parts f (FunctionStatement c (tree.Reduce name by e)) (name_broken f c.scope name.at name, (expression_broken f c.scope name.at e, tt))
  function_broken f c (tree.SetEntry vector index e) =
      by_parts f (FunctionStatement c (tree.SetEntry vector index e)) (
        vector_broken f c.scope vector.at vector,
        (function_index_broken f c.scope vector.at index, (int_broken f c.scope vector.at e, tt)),
      )
  function_broken f c (tree.ReduceEntry vector index by e) =
      by_parts f (FunctionStatement c (tree.ReduceEntry vector index by e)) (
        vector_broken f c.scope vector.at vector,
        (function_index_broken f c.scope vector.at index, (int_broken f c.scope vector.at e, tt)),
      )
  function_broken f c (tree.AddVertex set e) = by_parts f (FunctionStatement c (tree.AddVertex set e)) (name_broken f c.scope set.at set, (expression_broken f c.scope set.at e, tt))
  function_broken f c (tree.Apply target sides function) =
      by_parts f (FunctionStatement c (tree.Apply target sides function)) (
        name_broken f c.scope target.at target,
        before_broken f c.scope target.at sides.from _
            (before_broken f c.scope target.at sides.to (form.Name function ∷ []) (name_broken f c.scope target.at function, tt)),
      )

  function_block_broken : (f : Fault) (c : CheckerTree) (block : BlockTree) → IsBroken f (FunctionBlock c block)
  function_block_broken f c tree.Empty = by_parts f (FunctionBlock c tree.Empty) tt
  function_block_broken f c (tree.Then label action others) =
      by_parts f (FunctionBlock c (tree.Then label action others)) (label_broken f c label, (function_broken f _ action, (function_block_broken f _ others, tt)))

-- declarations
parameters_broken : (f : Fault) (weighted : Bool) (k : FunctionKindTree) (c : CheckerTree) (p : Endpoint) (vs : List ParameterTree) (result : Option ParameterTree)
    → IsBroken f (Parameters weighted k c p vs result)
parameters_broken f weighted k c p [] None = by_parts f (Parameters weighted k c p [] None) tt
parameters_broken f weighted k c p [] (Some result) = by_parts f (Parameters weighted k c p [] (Some result)) (new_broken f c.scope result.name, tt)
parameters_broken f weighted k c p (v ∷ others) result =
    by_parts f (Parameters weighted k c p (v ∷ others) result) (
      new_broken f c.scope v.name,
      (parameters_broken f weighted k (declared_in c v.name (parameter weighted p v.declared)).value endpoint.Destination others result, tt),
    )

body_broken : (f : Fault) (k : FunctionKindTree) (c : CheckerTree) (body : BlockTree) → IsBroken f (body_part k c body)
body_broken f (MainKind fits) c body = main_block_broken f c body
body_broken f (EdgeKind weighted) c body = function_block_broken f c body
body_broken f VertexKind c body = function_block_broken f c body
body_broken f FilterKind c body = function_block_broken f c body
body_broken f NoKind c body = function_block_broken f c body

declaration_broken : (f : Fault) (d : DeclaredTree) (x : DeclarationTree) → IsBroken f (Declaration d x)
declaration_broken f d (tree.Constant at p initial) = by_parts f (Declaration d (tree.Constant at p initial)) (initial_broken f d.checker at initial, (new_broken f d.checker.scope p.name, tt))
declaration_broken f d (tree.Function at name ps result body) =
    by_parts f (Declaration d (tree.Function at name ps result body))
    (parameters_broken f _ _ _ _ ps result, (body_broken f (kind name.bytes ps result) _ body, (new_broken f d.checker.scope name, tt)))

declarations_broken : (f : Fault) (d : DeclaredTree) (xs : List DeclarationTree) → IsBroken f (Declarations d xs)
declarations_broken f d [] = by_parts f (Declarations d []) tt
declarations_broken f d (x ∷ others) = by_parts f (Declarations d (x ∷ others)) (declaration_broken f d x, (declarations_broken f (declaration_typed d x).value others, tt))

pub fault_is_broken : (source : SourceTree) (length : ℕ) (f : Fault) → Contains (program_of source length).faults f → BreaksRule source length f.at f.rule
fault_is_broken s length f has = by_parts f (Source s length) (declarations_broken f _ s.declarations, tt) has

pub broken_rule_is_fault : (source : SourceTree) (length at : ℕ) (r : TypeRule) → BreaksRule source length at r → Contains (program_of source length).faults (record { at = at; rule = r })
broken_rule_is_fault s length at r breaks = broken_is_fault splits at r (Source s length) breaks

-- of all of several faults, one of them
at_most_one : (f g : Fault) (all : List Fault) → AllByRecursion (IsAtMost f) all → Contains all g → IsAtMost f g
at_most_one f g [] every has = absurd (none_contained g has)
at_most_one f g (x ∷ others) every has = elim (cons_cases x others g has) [
  | inl same ↦ subst (λ g. IsAtMost f g) same every.0
  | inr there ↦ at_most_one f g others every.1 there
]

pub reported_is_least : (source : SourceTree) (length : ℕ) (f : Fault) → Checks source length (Err f) → IsLeastBroken source length f.at f.rule
reported_is_least s length f reported =
    let least = told_is_least (program_of s length).faults f reported in
    record {
      broken = fault_is_broken s length f least.0;
      least = λ at r breaks. at_most_one f (record { at = at; rule = r }) (program_of s length).faults least.1 (broken_rule_is_fault s length at r breaks);
    }

pub none_broken : (source : SourceTree) (length : ℕ) (program : ProgramTree) → Checks source length (Ok program) → BreaksNoRule source length
none_broken s length program checks at r breaks =
    none_contained (record { at = at; rule = r }) (subst (λ fs. Contains fs (record { at = at; rule = r })) checks.0 (broken_rule_is_fault s length at r breaks))

-- a source that breaks no rule has a program, so it keeps the rules; and the other way round
by_outcome : (source : SourceTree) (length : ℕ) → BreaksNoRule source length → Outcome source length → KeepsRules source
by_outcome s length none (inl program) = source_keeps s length program.1.0
by_outcome s length none (inr f) = let reported = reported_is_least s length f.0 f.1 in absurd (none f.0.at f.0.rule reported.broken)

pub unbroken_is_kept : (source : SourceTree) (length : ℕ) → BreaksNoRule source length ↔ KeepsRules source
unbroken_is_kept s length =
    (λ none. by_outcome s length none (one_outcome s length), λ keeps. none_broken s length (program_of s length).value (source_kept s length keeps, refl))
