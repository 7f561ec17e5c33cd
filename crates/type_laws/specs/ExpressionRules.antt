-- The rules that a form of expression breaks itself, and their faults: one case for each rule and each form that can break it.
use Rattle.std.specs.Prelude.{ℕ, Bool, true, false, not, ◌&&◌, ◌||◌, if◌then◌else◌, is_some, List, [], ◌∷◌}
use Rattle.syntax.specs.declared.operators.Prefix.{Prefix}
use Rattle.syntax.specs.declared.operators.Prefix.TheVariants as prefix
use Rattle.syntax.specs.declared.operators.Relation.{Relation}
use Rattle.syntax.specs.declared.operators.Relation.TheVariants as relation
use Rattle.syntax.specs.SourceTrees as tree
use Rattle.expression_types.specs.declared.fault.Fault.{Fault}
use Rattle.expression_types.specs.declared.fault.TypeRule.{TypeRule}
use Rattle.expression_types.specs.declared.fault.TypeRule.TheVariants as rule
use Rattle.expression_types.specs.declared.scope.Inside.{Inside}
use Rattle.expression_types.specs.declared.scope.Inside.TheVariants as inside
use Rattle.expression_types.specs.Expression.{comparison_value, conjunction_value, index_value, primary_value, sum_value, term_value, unary_value, used_name}
use Rattle.expression_types.specs.Expression.{value_of}
use Rattle.expression_types.specs.ScopeTree.{found, ScopeTree}
use Rattle.expression_types.specs.ValueTree.{ValueTree, Integer, Condition, Vertex, Set, ErrorValue, as_condition, as_integer, as_vertex, condition_reads_entry}
use Rattle.expression_types.specs.ValueTree.{entity_set, named_value, named_vector, reads_entry}
use Rattle.type_laws.specs.ExpressionParts.{Form, Expression, Conjunction, Comparison, Sum, Term, Unary, Primary, Index, Name, any_faulty, parts}

-- the value of a form; a name alone has none
abbrev pub form_value : ScopeTree → ℕ → Form → ValueTree
form_value scope at (Expression e) = (value_of scope at e).value
form_value scope at (Conjunction c) = (conjunction_value scope at c).value
form_value scope at (Comparison c) = (comparison_value scope at c).value
form_value scope at (Sum s) = (sum_value scope at s).value
form_value scope at (Term t) = (term_value scope at t).value
form_value scope at (Unary u) = (unary_value scope at u).value
form_value scope at (Primary e) = (primary_value scope at e).value
form_value scope at (Index index) = (index_value scope at index).value
form_value scope at (Name name) = ErrorValue

-- an int, or a vertex, which reads as its number
abbrev pub is_int : ValueTree → Bool
is_int v = is_some (as_integer v)

abbrev pub is_bool : ValueTree → Bool
is_bool v = is_some (as_condition v)

abbrev pub all_ints : ScopeTree → ℕ → List Form → Bool
all_ints scope at [] = true
all_ints scope at (form ∷ others) = is_int (form_value scope at form) && all_ints scope at others

abbrev pub all_bools : ScopeTree → ℕ → List Form → Bool
all_bools scope at [] = true
all_bools scope at (form ∷ others) = is_bool (form_value scope at form) && all_bools scope at others

-- `==` and `!=` take two ints or two bools, the other relations two ints
abbrev pub takes : Relation → (left right : ValueTree) → Bool
takes relation.Equal a b = is_int a && is_int b || is_bool a && is_bool b
takes relation.NotEqual a b = is_int a && is_int b || is_bool a && is_bool b
takes relation.Less a b = is_int a && is_int b
takes relation.LessOrEqual a b = is_int a && is_int b
takes relation.Greater a b = is_int a && is_int b
takes relation.GreaterOrEqual a b = is_int a && is_int b

-- `-` takes an int, `not` a bool
abbrev pub takes_sign : Prefix → ValueTree → Bool
takes_sign prefix.Minus v = is_int v
takes_sign prefix.Not v = is_bool v

-- an index in main is an int
abbrev pub takes_index : Inside → ValueTree → Bool
takes_index inside.Main v = is_int v
takes_index inside.EdgeFunction v = true
takes_index inside.VertexFunction v = true
takes_index inside.Filter v = true

abbrev pub holds_entry : ValueTree → Bool
holds_entry (Integer e) = reads_entry e
holds_entry (Condition c) = condition_reads_entry c
holds_entry (Vertex p) = false
holds_entry (Set slot) = false
holds_entry ErrorValue = false

-- an index in main holds no entry, and one in a function is a vertex of it
abbrev pub may_be_index : Inside → ValueTree → Bool
may_be_index inside.Main v = not (holds_entry v)
may_be_index inside.EdgeFunction v = is_some (as_vertex v)
may_be_index inside.VertexFunction v = is_some (as_vertex v)
may_be_index inside.Filter v = is_some (as_vertex v)

-- 221: a used name is visible
abbrev pub breaks_visibility : ScopeTree → Form → Bool
breaks_visibility scope (Name name) = not (is_some (found name.bytes scope.visible))
breaks_visibility scope _ = false

-- 223: operands are of the type that the operator takes; a name in an expression has a value, one before an index is a vector, and one
-- before `getVertexSetSize` a set
abbrev pub breaks_types : ScopeTree → ℕ → Form → Bool
breaks_types scope at (Expression (tree.LastConjunction c)) = false
breaks_types scope at (Expression (tree.ConjunctionThen c others)) = not (all_bools scope at (parts scope (Expression (tree.ConjunctionThen c others))))
breaks_types scope at (Conjunction (tree.LastComparison c)) = false
breaks_types scope at (Conjunction (tree.ComparisonThen c others)) = not (all_bools scope at (parts scope (Conjunction (tree.ComparisonThen c others))))
breaks_types scope at (Comparison (tree.OneSum s)) = false
breaks_types scope at (Comparison (tree.TwoSums left relation right)) = not (takes relation (form_value scope at (Sum left)) (form_value scope at (Sum right)))
breaks_types scope at (Sum (tree.LastTerm t)) = false
breaks_types scope at (Sum (tree.TermThen t operator others)) = not (all_ints scope at (parts scope (Sum (tree.TermThen t operator others))))
breaks_types scope at (Term (tree.LastUnary u)) = false
breaks_types scope at (Term (tree.UnaryThen u operator others)) = not (all_ints scope at (parts scope (Term (tree.UnaryThen u operator others))))
breaks_types scope at (Unary (tree.Bare e)) = false
breaks_types scope at (Unary (tree.Signed sign u)) = not (takes_sign sign (form_value scope at (Unary u)))
breaks_types scope at (Primary (tree.Literal n)) = false
breaks_types scope at (Primary (tree.Truth b)) = false
breaks_types scope at (Primary (tree.Variable name)) = not (is_some (named_value (used_name scope name).value))
breaks_types scope at (Primary (tree.Entry vector index)) =
    not (is_some (named_vector (used_name scope vector).value) && takes_index scope.inside (form_value scope at (Index index)))
breaks_types scope at (Primary (tree.Size set)) = not (is_some (entity_set (used_name scope set).value))
breaks_types scope at (Primary (tree.Parentheses inside)) = false
breaks_types scope at (Index index) = false
breaks_types scope at (Name name) = false

-- 226: an entry of a vector is read at an index that may be there
abbrev pub breaks_indexes : ScopeTree → ℕ → Form → Bool
breaks_indexes scope at (Primary (tree.Entry vector index)) =
    is_some (named_vector (used_name scope vector).value) && not (may_be_index scope.inside (form_value scope at (Index index)))
breaks_indexes scope at _ = false

-- a form without a faulty part breaks a rule; the other rules are of statements, of declarations and of the whole text
abbrev pub form_breaks : ScopeTree → ℕ → Form → TypeRule → Bool
form_breaks scope at form rule.UnknownName = breaks_visibility scope form
form_breaks scope at form rule.Redeclared = false
form_breaks scope at form rule.WrongType = breaks_types scope at form
form_breaks scope at form rule.NotReduction = false
form_breaks scope at form rule.MixedReductions = false
form_breaks scope at form rule.WrongIndex = breaks_indexes scope at form
form_breaks scope at form rule.PrintOutsideMain = false
form_breaks scope at form rule.NoMain = false
form_breaks scope at form rule.BadLabel = false

-- by their numbers
abbrev pub all_rules : List TypeRule
all_rules = rule.UnknownName ∷ rule.Redeclared ∷ rule.WrongType ∷ rule.NotReduction ∷ rule.MixedReductions ∷ rule.WrongIndex ∷ rule.PrintOutsideMain ∷
    rule.NoMain ∷ rule.BadLabel ∷ []

-- a broken rule is a fault at the name, or at the offset of the statement
abbrev pub place_of : ℕ → Form → ℕ
place_of at (Name name) = name.at
place_of at _ = at

abbrev pub broken_form_rules : ScopeTree → ℕ → Form → List TypeRule → List Fault
broken_form_rules scope at form [] = []
broken_form_rules scope at form (r ∷ others) =
    if form_breaks scope at form r then record {
      at = place_of at form;
      rule =
          r;
    } ∷ broken_form_rules scope at form others else broken_form_rules scope at form others

-- the faults that a form has itself: none if a part is faulty
abbrev pub own_faults : ScopeTree → ℕ → Form → List Fault
own_faults scope at form = if any_faulty scope at (parts scope form) then [] else broken_form_rules scope at form all_rules
