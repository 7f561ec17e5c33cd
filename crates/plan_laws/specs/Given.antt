-- Facts of what the machine knows: all that an expression of `main` speaks of.
use Rattle.std.specs.Prelude.{◌≡◌, ◌≢◌, ℕ, pos, FitsSigned, false, List, length, None, slice_get, slice_index_or}
use Rattle.std.specs.Int.{cast_signed, w64}
use Rattle.std.specs.List.{AllByRecursion}
use Rattle.typed_tree.specs.IntExpressionTree as integer
use Rattle.typed_tree.specs.IntExpressionTree.{IntExpressionTree}
use Rattle.typed_tree.specs.BoolExpressionTree as condition
use Rattle.typed_tree.specs.BoolExpressionTree.{BoolExpressionTree}
use Rattle.typed_tree.specs.ProgramTree.{ProgramTree}
use Rattle.algorithm_meaning.specs.State.{StateValue}
use Rattle.algorithm_meaning.specs.Value.{entry, members_of}
use Rattle.plan_text.specs.Expressions.{program_name_at, vector_name_at}
use Rattle.decimal.specs.Numbers.{integer_of}
use Rattle.plan_laws.specs.Machine.{StackValue, Number, Truth, Names, operators, last_byte}

-- the word is taken for a name: it is no number and no operator, and does not end as an entry (64, `@`) or as a size (35, `#`) does
pub record IsPlain (word : List ℕ) : Type 0 where
  pub entry : last_byte word ≢ 64
  pub size : last_byte word ≢ 35
  pub number : integer_of word ≡ None
  pub operator : AllByRecursion (λ o. word ≢ o.0) operators

-- a name that has this value
pub record IsNamed (names : Names) (word : List ℕ) (value : StackValue) : Type 0 where
  pub plain : IsPlain word
  pub gives : names.value word ≡ value

-- What the expression speaks of has for the machine the value that it has in the state. What only functions have is none of main's.
abbrev pub IntegerIsGiven : ProgramTree → Names → StateValue → IntExpressionTree → Type 0
IntegerIsGiven p names s (integer.Number n) = FitsSigned w64 n
IntegerIsGiven p names s (integer.Constant name n) = IsNamed names (program_name_at p name) (Number n)
IntegerIsGiven p names s (integer.Variable slot) = IsNamed names (program_name_at p slot.name) (Number (slice_index_or s.scope.integers slot.index (pos 0)))
IntegerIsGiven p names s (integer.Parameter at) = ⊥
IntegerIsGiven p names s integer.Weight = ⊥
IntegerIsGiven p names s (integer.EntryAt vector at) = ⊥
IntegerIsGiven p names s (integer.Entry vector index) =
    ((v : ℕ) → names.entry (vector_name_at p vector) v ≡ entry s.vectors vector v) × IntegerIsGiven p names s index
IntegerIsGiven p names s (integer.SetSize slot) =
    names.size (program_name_at p slot.name) ≡ cast_signed w64 (length (members_of (slice_get s.sets slot.index)))
IntegerIsGiven p names s (integer.Negative e) = IntegerIsGiven p names s e
IntegerIsGiven p names s (integer.Arithmetic operator a b) = IntegerIsGiven p names s a × IntegerIsGiven p names s b

abbrev pub ConditionIsGiven : ProgramTree → Names → StateValue → BoolExpressionTree → Type 0
ConditionIsGiven p names s (condition.Literal b) = Unit {0}
ConditionIsGiven p names s (condition.Constant name b) = IsNamed names (program_name_at p name) (Truth b)
ConditionIsGiven p names s (condition.Variable slot) = IsNamed names (program_name_at p slot.name) (Truth (slice_index_or s.scope.conditions slot.index false))
ConditionIsGiven p names s (condition.Not c) = ConditionIsGiven p names s c
ConditionIsGiven p names s (condition.Compare comparison a b) = IntegerIsGiven p names s a × IntegerIsGiven p names s b
ConditionIsGiven p names s (condition.Connect connective a b) = ConditionIsGiven p names s a × ConditionIsGiven p names s b
