-- Words of an expression, read by hand: from left to right, with a stack of values.
use Rattle.std.specs.Prelude.{ℕ, ℤ, Bool, true, false, not, if◌then◌else◌, ◌==◌, List, [], ◌∷◌, Option, Some, None, codes, option_and_then}
use Rattle.std.specs.Map.{lookup}
use Rattle.std.specs.Str.{bytes_eq}
use Rattle.typed_tree.specs.declared.expression.Operator.TheVariants as operator
use Rattle.typed_tree.specs.declared.expression.ComparisonOperator.TheVariants as comparison
use Rattle.typed_tree.specs.declared.expression.Connective.TheVariants as connective
use Rattle.algorithm_meaning.specs.Arithmetic.{arithmetic, compared, connected, negative}
use Rattle.algorithm_meaning.specs.Stand.{vertex_number}
use Rattle.decimal.specs.Numbers.{integer_of}

-- what is on the stack
pub data StackValue : Type 0 where
  Number : ℤ → StackValue
  Truth : Bool → StackValue

-- The stack, its top first; nothing where the reading stops, as a run does at an index that is no vertex.
abbrev pub Stack : Type 0
Stack = Option (List StackValue)

-- what is known of names: the value of each, the entries of a vector at a vertex, the size of a set; and how many vertices there are
pub record Names : Type 0 where
  pub vertices : ℕ
  pub value : List ℕ → StackValue
  pub entry : List ℕ → (vertex : ℕ) → ℤ
  pub size : List ℕ → ℤ

-- an operator on the value on top, and one on the two on top, of which the second one is on top
abbrev pub on_number : (ℤ → StackValue) → List StackValue → Stack
on_number f (Number n ∷ rest) = Some (f n ∷ rest)
on_number f _ = None

abbrev pub on_truth : (Bool → StackValue) → List StackValue → Stack
on_truth f (Truth b ∷ rest) = Some (f b ∷ rest)
on_truth f _ = None

abbrev pub on_values : (ℤ → ℤ → Option StackValue) → (Bool → Bool → Option StackValue) → List StackValue → Stack
on_values f g (Number b ∷ Number a ∷ rest) = option_and_then (λ x. Some (x ∷ rest)) (f a b)
on_values f g (Truth b ∷ Truth a ∷ rest) = option_and_then (λ x. Some (x ∷ rest)) (g a b)
on_values f g _ = None

abbrev pub on_numbers : (ℤ → ℤ → StackValue) → List StackValue → Stack
on_numbers f stack = on_values (λ a b. Some (f a b)) (λ a b. None) stack

abbrev pub on_truths : (Bool → Bool → Bool) → List StackValue → Stack
on_truths g stack = on_values (λ a b. None) (λ a b. Some (Truth (g a b))) stack

-- the words that are no names, with what each does
abbrev pub operators : List (List ℕ × (List StackValue → Stack))
operators =
    (codes "true", λ stack. Some (Truth true ∷ stack))
    ∷ (codes "false", λ stack. Some (Truth false ∷ stack))
    ∷ (codes "neg", on_number (λ a. Number (negative a)))
    ∷ (codes "not", on_truth (λ a. Truth (not a)))
    ∷ (codes "+", on_numbers (λ a b. Number (arithmetic operator.Add a b)))
    ∷ (codes "-", on_numbers (λ a b. Number (arithmetic operator.Subtract a b)))
    ∷ (codes "*", on_numbers (λ a b. Number (arithmetic operator.Multiply a b)))
    ∷ (codes "/", on_numbers (λ a b. Number (arithmetic operator.Divide a b)))
    ∷ (codes "%", on_numbers (λ a b. Number (arithmetic operator.Remainder a b)))
    ∷ (codes "<", on_numbers (λ a b. Truth (compared comparison.Less a b)))
    ∷ (codes "<=", on_numbers (λ a b. Truth (compared comparison.LessOrEqual a b)))
    ∷ (codes ">", on_numbers (λ a b. Truth (compared comparison.Greater a b)))
    ∷ (codes ">=", on_numbers (λ a b. Truth (compared comparison.GreaterOrEqual a b)))
    ∷ (codes "==", on_values (λ a b. Some (Truth (compared comparison.Equal a b))) (λ a b. Some (Truth (connected connective.Equal a b))))
    ∷ (codes "!=", on_values (λ a b. Some (Truth (compared comparison.NotEqual a b))) (λ a b. Some (Truth (connected connective.NotEqual a b))))
    ∷ (codes "and", on_truths (connected connective.And))
    ∷ (codes "or", on_truths (connected connective.Or))
    ∷ []

-- the last byte of a word, 0 where there is none, and the bytes before it
abbrev pub last_byte : List ℕ → ℕ
last_byte [] = 0
last_byte (b ∷ []) = b
last_byte (a ∷ b ∷ bytes) = last_byte (b ∷ bytes)

abbrev pub before_last : List ℕ → List ℕ
before_last [] = []
before_last (b ∷ []) = []
before_last (a ∷ b ∷ bytes) = a ∷ before_last (b ∷ bytes)

-- the index on top gives way to the entry there
abbrev pub take_entry : Names → (vector : List ℕ) → List StackValue → Stack
take_entry names vector (Number n ∷ rest) = option_and_then (λ v. Some (Number (names.entry vector v) ∷ rest)) (vertex_number names.vertices n)
take_entry names vector _ = None

-- a name pushes its value, where the word is no operator
abbrev pub operate : Names → (word : List ℕ) → Option (List StackValue → Stack) → List StackValue → Stack
operate names word None stack = Some (names.value word ∷ stack)
operate names word (Some operator) stack = operator stack

-- a number pushes itself
abbrev pub push_number : Names → (word : List ℕ) → Option ℤ → List StackValue → Stack
push_number names word None stack = operate names word (lookup (bytes_eq word) operators) stack
push_number names word (Some n) stack = Some (Number n ∷ stack)

-- what a word does: `v@`, where 64 is `@`; `s#`, where 35 is `#`; a number, an operator or a name
abbrev pub read_word : Names → (word : List ℕ) → List StackValue → Stack
read_word names word stack =
    if last_byte word == 64 then take_entry names (before_last word) stack
    else if last_byte word == 35 then Some (Number (names.size (before_last word)) ∷ stack)
    else push_number names word (integer_of word) stack

-- the words in order
abbrev pub read_words : Names → List (List ℕ) → List StackValue → Stack
read_words names [] stack = Some stack
read_words names (word ∷ words) stack = option_and_then (read_words names words) (read_word names word stack)
