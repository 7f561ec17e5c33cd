-- Words with spaces between them, and the words of expressions of `main`, operands first.
use Rattle.std.specs.Prelude.{ℕ, Bool, true, false, List, [], ◌∷◌, ◌++◌, Option, Some, None, codes, slice_get, slice_index_or}
use Rattle.std.specs.Fmt.{signed_decimal}
use Rattle.typed_tree.specs.declared.expression.ComparisonOperator.{ComparisonOperator}
use Rattle.typed_tree.specs.declared.expression.Connective.{Connective}
use Rattle.typed_tree.specs.declared.expression.Operator.{Operator}
use Rattle.typed_tree.specs.declared.program.Vector.{Vector}
use Rattle.typed_tree.specs.IntExpressionTree.{IntExpressionTree}
use Rattle.typed_tree.specs.BoolExpressionTree.{BoolExpressionTree}
use Rattle.typed_tree.specs.ProgramTree.{ProgramTree}
use Rattle.typed_tree.specs.declared.expression.ComparisonOperator.TheVariants as comparison
use Rattle.typed_tree.specs.declared.expression.Connective.TheVariants as connective
use Rattle.typed_tree.specs.declared.expression.Operator.TheVariants as operator
use Rattle.typed_tree.specs.IntExpressionTree as integer
use Rattle.typed_tree.specs.BoolExpressionTree as condition

-- the name at an index, without a byte where there is none
abbrev pub program_name_at : ProgramTree → ℕ → List ℕ
program_name_at p index = slice_index_or p.names index []

abbrev pub name_of : ProgramTree → Option Vector → List ℕ
name_of p None = []
name_of p (Some vector) = program_name_at p vector.name

abbrev pub vector_name_at : ProgramTree → ℕ → List ℕ
vector_name_at p index = name_of p (slice_get p.vectors index)

abbrev pub operator_word : Operator → List ℕ
operator_word operator.Add = codes "+"
operator_word operator.Subtract = codes "-"
operator_word operator.Multiply = codes "*"
operator_word operator.Divide = codes "/"
operator_word operator.Remainder = codes "%"

abbrev pub comparison_word : ComparisonOperator → List ℕ
comparison_word comparison.Equal = codes "=="
comparison_word comparison.NotEqual = codes "!="
comparison_word comparison.Less = codes "<"
comparison_word comparison.LessOrEqual = codes "<="
comparison_word comparison.Greater = codes ">"
comparison_word comparison.GreaterOrEqual = codes ">="

abbrev pub connective_word : Connective → List ℕ
connective_word connective.And = codes "and"
connective_word connective.Or = codes "or"
connective_word connective.Equal = codes "=="
connective_word connective.NotEqual = codes "!="

abbrev pub truth_word : Bool → List ℕ
truth_word true = codes "true"
truth_word false = codes "false"

-- the entry of a vector, after its index; the size of a set
abbrev pub entry_word : ProgramTree → (vector : ℕ) → List ℕ
entry_word p vector = vector_name_at p vector ++ codes "@"

abbrev pub size_word : ProgramTree → (name : ℕ) → List ℕ
size_word p name = program_name_at p name ++ codes "#"

-- an expression of type int; what only functions have is named too
abbrev pub integer_words : ProgramTree → IntExpressionTree → List (List ℕ)
integer_words p (integer.Number n) = signed_decimal n ∷ []
integer_words p (integer.Constant name n) = program_name_at p name ∷ []
integer_words p (integer.Variable slot) = program_name_at p slot.name ∷ []
integer_words p (integer.Parameter at) = codes "vertex" ∷ []
integer_words p integer.Weight = codes "weight" ∷ []
integer_words p (integer.EntryAt vector at) = entry_word p vector ∷ []
integer_words p (integer.Entry vector index) = integer_words p index ++ entry_word p vector ∷ []
integer_words p (integer.SetSize slot) = size_word p slot.name ∷ []
integer_words p (integer.Negative e) = integer_words p e ++ codes "neg" ∷ []
integer_words p (integer.Arithmetic operator a b) = integer_words p a ++ integer_words p b ++ operator_word operator ∷ []

-- and one of type bool
abbrev pub condition_words : ProgramTree → BoolExpressionTree → List (List ℕ)
condition_words p (condition.Literal b) = truth_word b ∷ []
condition_words p (condition.Constant name b) = program_name_at p name ∷ []
condition_words p (condition.Variable slot) = program_name_at p slot.name ∷ []
condition_words p (condition.Not c) = condition_words p c ++ codes "not" ∷ []
condition_words p (condition.Compare comparison a b) = integer_words p a ++ integer_words p b ++ comparison_word comparison ∷ []
condition_words p (condition.Connect connective a b) = condition_words p a ++ condition_words p b ++ connective_word connective ∷ []

-- words with a space between
abbrev pub spaced_words : List (List ℕ) → List ℕ
spaced_words [] = []
spaced_words (w ∷ []) = w
spaced_words (w ∷ v ∷ ws) = w ++ 32 ∷ spaced_words (v ∷ ws)

-- words with a space after each
abbrev pub spaced : List (List ℕ) → List ℕ
spaced [] = []
spaced (w ∷ ws) = w ++ 32 ∷ spaced ws

-- the words of an expression as one word
abbrev pub bracketed : List (List ℕ) → List ℕ
bracketed ws = 91 ∷ spaced_words ws ++ 93 ∷ []
