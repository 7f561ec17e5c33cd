-- The typed tree of an expression and its faults, one equation for each rule of the grammar. All faults but those of names are at the
-- first token of the statement or declaration around the expression.
use Rattle.std.specs.Prelude.{ℕ, Bool, false, if◌then◌else◌, is_some, not, Option, Some, None}
use Rattle.syntax.specs.declared.operators.Addition.{Addition}
use Rattle.syntax.specs.declared.operators.Multiplication.{Multiplication}
use Rattle.syntax.specs.Terminals.{Identifier}
use Rattle.syntax.specs.SourceTrees.{ExpressionTree, ConjunctionTree, ComparisonTree, SumTree, TermTree, UnaryTree, PrimaryTree, LastConjunction}
use Rattle.syntax.specs.SourceTrees.{ConjunctionThen, LastComparison, ComparisonThen, OneSum, TwoSums, LastTerm, TermThen, LastUnary, UnaryThen, Bare, Signed}
use Rattle.syntax.specs.SourceTrees.{Literal, Truth, Variable, Entry, Size, Parentheses}
use Rattle.typed_tree.specs.declared.expression.Connective.TheVariants as connective
use Rattle.typed_tree.specs.declared.expression.VarRef.{VarRef}
use Rattle.typed_tree.specs.IntExpressionTree as integer
use Rattle.typed_tree.specs.BoolExpressionTree as condition
use Rattle.expression_types.specs.declared.fault.TypeRule.TheVariants as rule
use Rattle.expression_types.specs.declared.scope.Entity.{Entity}
use Rattle.expression_types.specs.declared.scope.Entity.TheVariants as entity
use Rattle.expression_types.specs.declared.scope.Inside.{Inside}
use Rattle.expression_types.specs.declared.scope.Inside.TheVariants as inside
use Rattle.expression_types.specs.BareNames.{lone_name}
use Rattle.expression_types.specs.ScopeTree.{found, ScopeTree}
use Rattle.expression_types.specs.Faults.{WithFaults, sure, fault_at, ◌>>=◌}
use Rattle.expression_types.specs.ValueTree.{ValueTree, Integer, Condition, ErrorValue, is_error, named_value, named_vector, entity_set}
use Rattle.expression_types.specs.Operators.{addition_operator, multiplied, given_or_fault, unless_faulty, IntegersTree, ConditionsTree, first_integer}
use Rattle.expression_types.specs.Operators.{first_condition, beside_integer, beside_condition, grouped_integers, grouped_conditions, related_value}
use Rattle.expression_types.specs.Operators.{signed_value, entry_value}

-- what a used name is: it has to be visible
abbrev pub used_as : Identifier → Option Entity → WithFaults Entity
used_as name None = fault_at name.at rule.UnknownName entity.Error
used_as name (Some e) = sure e

abbrev pub used_name : ScopeTree → Identifier → WithFaults Entity
used_name scope name = used_as name (found name.bytes scope.visible)

-- the value of a name
abbrev pub name_value : ScopeTree → ℕ → Identifier → WithFaults ValueTree
name_value scope at name = used_name scope name >>= λ e. given_or_fault at rule.WrongType (named_value e)

-- the index of a vector, none where the name is faulty or no vector
abbrev pub vector_at : ℕ → Option ℕ → WithFaults (Option ℕ)
vector_at at None = fault_at at rule.WrongType None
vector_at at (Some index) = sure (Some index)

abbrev pub as_vector : ℕ → Entity → WithFaults (Option ℕ)
as_vector at entity.Error = sure None
as_vector at e = vector_at at (named_vector e)

abbrev pub vector_index : ScopeTree → ℕ → Identifier → WithFaults (Option ℕ)
vector_index scope at name = used_name scope name >>= as_vector at

-- The entry of what a name is at an index. If the index is faulty, it is no fault that the name is no vector.
abbrev pub entry_of : Inside → ℕ → Entity → ValueTree → WithFaults ValueTree
entry_of inside at e index = unless_faulty (is_error index) (as_vector at e) >>= λ vector. entry_value inside at vector index

-- how many members a vertex set has
abbrev pub size_of : ℕ → Option VarRef → WithFaults ValueTree
size_of at None = fault_at at rule.WrongType ErrorValue
size_of at (Some slot) = sure (Integer (integer.SetSize slot))

abbrev pub as_size : ℕ → Entity → WithFaults ValueTree
as_size at entity.Error = sure ErrorValue
as_size at e = size_of at (entity_set e)

abbrev pub size_value : ScopeTree → ℕ → Identifier → WithFaults ValueTree
size_value scope at name = used_name scope name >>= as_size at

-- What an index of a function may be the name of and has no value: the edges, a vector or a function. It is no vertex.
abbrev pub lacks_value : Option Entity → Bool
lacks_value None = false
lacks_value (Some e) = not (is_some (named_value e))

abbrev pub name_lacks_value : ScopeTree → Option Identifier → Bool
name_lacks_value scope None = false
name_lacks_value scope (Some name) = lacks_value (found name.bytes scope.visible)

abbrev pub index_lacks_value : Inside → ScopeTree → ExpressionTree → Bool
index_lacks_value inside.Main scope index = false
index_lacks_value inside.EdgeFunction scope index = name_lacks_value scope (lone_name index)
index_lacks_value inside.VertexFunction scope index = name_lacks_value scope (lone_name index)
index_lacks_value inside.Filter scope index = name_lacks_value scope (lone_name index)

abbrev pub no_vertex : ValueTree
no_vertex = Condition (condition.Literal false)

-- an index, whose value as an expression is given
abbrev pub index_as : ScopeTree → ExpressionTree → WithFaults ValueTree → WithFaults ValueTree
index_as scope index value = if index_lacks_value scope.inside scope index then sure no_vertex else value

abbrev mutual
  pub value_of : ScopeTree → ℕ → ExpressionTree → WithFaults ValueTree
  value_of scope at (LastConjunction c) = conjunction_value scope at c
  value_of scope at (ConjunctionThen c others) =
      conjunction_value scope at c >>= λ v. disjuncts scope at (first_condition v) others >>= grouped_conditions at

  -- the conjunctions after the first `or`, after what is on its left
  pub disjuncts : ScopeTree → ℕ → ConditionsTree → ExpressionTree → WithFaults ConditionsTree
  disjuncts scope at left (LastConjunction c) =
      conjunction_value scope at c >>= λ v. sure (beside_condition connective.Or left (first_condition v))
  disjuncts scope at left (ConjunctionThen c others) =
      conjunction_value scope at c >>= λ v. disjuncts scope at (beside_condition connective.Or left (first_condition v)) others

  pub conjunction_value : ScopeTree → ℕ → ConjunctionTree → WithFaults ValueTree
  conjunction_value scope at (LastComparison c) = comparison_value scope at c
  conjunction_value scope at (ComparisonThen c others) =
      comparison_value scope at c >>= λ v. conjuncts scope at (first_condition v) others >>= grouped_conditions at

  pub conjuncts : ScopeTree → ℕ → ConditionsTree → ConjunctionTree → WithFaults ConditionsTree
  conjuncts scope at left (LastComparison c) =
      comparison_value scope at c >>= λ v. sure (beside_condition connective.And left (first_condition v))
  conjuncts scope at left (ComparisonThen c others) =
      comparison_value scope at c >>= λ v. conjuncts scope at (beside_condition connective.And left (first_condition v)) others

  pub comparison_value : ScopeTree → ℕ → ComparisonTree → WithFaults ValueTree
  comparison_value scope at (OneSum s) = sum_value scope at s
  comparison_value scope at (TwoSums left relation right) =
      sum_value scope at left >>= λ a. sum_value scope at right >>= λ b. given_or_fault at rule.WrongType (related_value relation a b)

  pub sum_value : ScopeTree → ℕ → SumTree → WithFaults ValueTree
  sum_value scope at (LastTerm t) = term_value scope at t
  sum_value scope at (TermThen t o others) =
      term_value scope at t >>= λ v. summands scope at (first_integer v) o others >>= grouped_integers at

  -- the terms after the first operator, after what is on its left
  pub summands : ScopeTree → ℕ → IntegersTree → Addition → SumTree → WithFaults IntegersTree
  summands scope at left o (LastTerm t) =
      term_value scope at t >>= λ v. sure (beside_integer (addition_operator o) left (first_integer v))
  summands scope at left o (TermThen t p others) =
      term_value scope at t >>= λ v. summands scope at (beside_integer (addition_operator o) left (first_integer v)) p others

  pub term_value : ScopeTree → ℕ → TermTree → WithFaults ValueTree
  term_value scope at (LastUnary u) = unary_value scope at u
  term_value scope at (UnaryThen u o others) =
      unary_value scope at u >>= λ v. factors scope at (first_integer v) o others >>= grouped_integers at

  pub factors : ScopeTree → ℕ → IntegersTree → Multiplication → TermTree → WithFaults IntegersTree
  factors scope at left o (LastUnary u) =
      unary_value scope at u >>= λ v. sure (beside_integer (multiplied o) left (first_integer v))
  factors scope at left o (UnaryThen u p others) =
      unary_value scope at u >>= λ v. factors scope at (beside_integer (multiplied o) left (first_integer v)) p others

  pub unary_value : ScopeTree → ℕ → UnaryTree → WithFaults ValueTree
  unary_value scope at (Bare p) = primary_value scope at p
  unary_value scope at (Signed sign u) = unary_value scope at u >>= λ v. given_or_fault at rule.WrongType (signed_value sign v)

  pub primary_value : ScopeTree → ℕ → PrimaryTree → WithFaults ValueTree
  primary_value scope at (Literal n) = sure (Integer (integer.Number n))
  primary_value scope at (Truth b) = sure (Condition (condition.Literal b))
  primary_value scope at (Variable name) = name_value scope at name
  primary_value scope at (Entry name index) =
      used_name scope name >>= λ e. index_as scope index (value_of scope at index) >>= λ v. entry_of scope.inside at e v
  primary_value scope at (Size name) = size_value scope at name
  primary_value scope at (Parentheses inside) = value_of scope at inside

-- the value of an index
abbrev pub index_value : ScopeTree → ℕ → ExpressionTree → WithFaults ValueTree
index_value scope at index = index_as scope index (value_of scope at index)
