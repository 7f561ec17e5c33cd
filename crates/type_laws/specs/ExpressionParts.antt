-- The parts of each form of expression, their faults, and which forms are faulty.
use Rattle.std.specs.Prelude.{ℕ, Bool, false, ◌||◌, if◌then◌else◌, List, [], ◌∷◌, ◌++◌}
use Rattle.syntax.specs.Terminals.{Identifier}
use Rattle.syntax.specs.SourceTrees as tree
use Rattle.syntax.specs.SourceTrees.{ExpressionTree, ConjunctionTree, ComparisonTree, SumTree, TermTree, UnaryTree, PrimaryTree}
use Rattle.expression_types.specs.declared.fault.Fault.{Fault}
use Rattle.expression_types.specs.Expression.{comparison_value, conjunction_value, index_lacks_value, index_value, primary_value, sum_value, term_value}
use Rattle.expression_types.specs.Expression.{unary_value, used_name, value_of}
use Rattle.expression_types.specs.ScopeTree.{ScopeTree}
use Rattle.expression_types.specs.ValueTree.{is_error}
use Rattle.initializer_types.specs.Initial.{names_error}

-- an expression at each level of the grammar, the index of an entry, and a name in an expression
pub data Form : Type 0 where
  Expression : ExpressionTree → Form
  Conjunction : ConjunctionTree → Form
  Comparison : ComparisonTree → Form
  Sum : SumTree → Form
  Term : TermTree → Form
  Unary : UnaryTree → Form
  Primary : PrimaryTree → Form
  Index : ExpressionTree → Form
  Name : Identifier → Form

-- the operands of one level, from the left
abbrev pub disjuncts_of : ExpressionTree → List Form
disjuncts_of (tree.LastConjunction c) = Conjunction c ∷ []
disjuncts_of (tree.ConjunctionThen c others) = Conjunction c ∷ disjuncts_of others

abbrev pub conjuncts_of : ConjunctionTree → List Form
conjuncts_of (tree.LastComparison c) = Comparison c ∷ []
conjuncts_of (tree.ComparisonThen c others) = Comparison c ∷ conjuncts_of others

abbrev pub summands_of : SumTree → List Form
summands_of (tree.LastTerm t) = Term t ∷ []
summands_of (tree.TermThen t operator others) = Term t ∷ summands_of others

abbrev pub factors_of : TermTree → List Form
factors_of (tree.LastUnary u) = Unary u ∷ []
factors_of (tree.UnaryThen u operator others) = Unary u ∷ factors_of others

-- The parts of a form, from the left. In a function of a user an index that is the bare name of a thing without a value has no part.
abbrev pub parts : ScopeTree → Form → List Form
parts scope (Expression e) = disjuncts_of e
parts scope (Conjunction c) = conjuncts_of c
parts scope (Comparison (tree.OneSum s)) = Sum s ∷ []
parts scope (Comparison (tree.TwoSums left relation right)) = Sum left ∷ Sum right ∷ []
parts scope (Sum s) = summands_of s
parts scope (Term t) = factors_of t
parts scope (Unary (tree.Bare e)) = Primary e ∷ []
parts scope (Unary (tree.Signed sign u)) = Unary u ∷ []
parts scope (Primary (tree.Literal n)) = []
parts scope (Primary (tree.Truth b)) = []
parts scope (Primary (tree.Variable name)) = Name name ∷ []
parts scope (Primary (tree.Entry vector index)) = Name vector ∷ Index index ∷ []
parts scope (Primary (tree.Size set)) = Name set ∷ []
parts scope (Primary (tree.Parentheses inside)) = Expression inside ∷ []
parts scope (Index index) = if index_lacks_value scope.inside scope index then [] else Expression index ∷ []
parts scope (Name name) = []

-- the faults of a form in a scope, in a statement at this offset
abbrev pub form_faults : ScopeTree → ℕ → Form → List Fault
form_faults scope at (Expression e) = (value_of scope at e).faults
form_faults scope at (Conjunction c) = (conjunction_value scope at c).faults
form_faults scope at (Comparison c) = (comparison_value scope at c).faults
form_faults scope at (Sum s) = (sum_value scope at s).faults
form_faults scope at (Term t) = (term_value scope at t).faults
form_faults scope at (Unary u) = (unary_value scope at u).faults
form_faults scope at (Primary e) = (primary_value scope at e).faults
form_faults scope at (Index index) = (index_value scope at index).faults
form_faults scope at (Name name) = (used_name scope name).faults

-- it has a fault, or a name in it has a faulty declaration
abbrev pub is_faulty : ScopeTree → ℕ → Form → Bool
is_faulty scope at (Expression e) = is_error (value_of scope at e).value
is_faulty scope at (Conjunction c) = is_error (conjunction_value scope at c).value
is_faulty scope at (Comparison c) = is_error (comparison_value scope at c).value
is_faulty scope at (Sum s) = is_error (sum_value scope at s).value
is_faulty scope at (Term t) = is_error (term_value scope at t).value
is_faulty scope at (Unary u) = is_error (unary_value scope at u).value
is_faulty scope at (Primary e) = is_error (primary_value scope at e).value
is_faulty scope at (Index index) = is_error (index_value scope at index).value
is_faulty scope at (Name name) = names_error (used_name scope name).value

-- the faults of several forms, from the left
abbrev pub faults_of_all : ScopeTree → ℕ → List Form → List Fault
faults_of_all scope at [] = []
faults_of_all scope at (form ∷ others) = form_faults scope at form ++ faults_of_all scope at others

-- one of several forms is faulty
abbrev pub any_faulty : ScopeTree → ℕ → List Form → Bool
any_faulty scope at [] = false
any_faulty scope at (form ∷ others) = is_faulty scope at form || any_faulty scope at others
