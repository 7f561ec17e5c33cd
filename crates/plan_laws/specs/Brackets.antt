-- Expressions in brackets, read by hand.
use Rattle.std.specs.Prelude.{◌≢◌, ℕ, ℤ, ◌==◌, ◌&&◌, if◌then◌else◌, List, [], ◌∷◌, Option, Some, None, codes, option_and_then}
use Rattle.std.specs.List.{AllByRecursion}
use Rattle.std.specs.Map.{lookup}
use Rattle.std.specs.Str.{bytes_eq}
use Rattle.apply_options.specs.declared.reduction.Reduction.{Reduction}
use Rattle.apply_options.specs.declared.reduction.Reduction.TheVariants as reduction
use Rattle.typed_tree.specs.ProgramTree.{ProgramTree}
use Rattle.algorithm_meaning.specs.Arithmetic.{reduced}
use Rattle.plan_laws.specs.Machine.{StackValue, Number, Stack, Names, last_byte, before_last, read_word, read_words}

-- no space, which is the byte 32, is in it
abbrev pub IsOneWord : List ℕ → Type 0
IsOneWord word = AllByRecursion (λ b. b ≢ 32) word

abbrev pub HasNamesOfOneWord : ProgramTree → Type 0
HasNamesOfOneWord p = AllByRecursion IsOneWord p.names

-- a byte before the first word
abbrev pub put_byte : ℕ → List (List ℕ) → List (List ℕ)
put_byte b [] = (b ∷ []) ∷ []
put_byte b (word ∷ words) = (b ∷ word) ∷ words

-- the words between spaces
abbrev pub words_in : List ℕ → List (List ℕ)
words_in [] = [] ∷ []
words_in (b ∷ bytes) = if b == 32 then [] ∷ words_in bytes else put_byte b (words_in bytes)

-- what stands between brackets, which are the bytes 91 and 93
abbrev pub inside_brackets : List ℕ → Option (List ℕ)
inside_brackets [] = None
inside_brackets (b ∷ bytes) = if b == 91 && last_byte bytes == 93 then Some (before_last bytes) else None

-- the words in brackets, read on an empty stack
abbrev pub read_brackets : Names → (text : List ℕ) → Stack
read_brackets names text = option_and_then (λ bytes. read_words names (words_in bytes) []) (inside_brackets text)

-- the reduction of `[x e min]`, which is its last word
abbrev pub reductions : List (List ℕ × Reduction)
reductions = (codes "min", reduction.Min) ∷ (codes "max", reduction.Max) ∷ (codes "+", reduction.Plus) ∷ []

-- the two values on an empty stack reduced
abbrev pub reduce_top : Option Reduction → List StackValue → Option ℤ
reduce_top (Some r) (Number b ∷ Number a ∷ []) = Some (reduced r a b)
reduce_top _ _ = None

-- the words up to the last one, and then that one
abbrev pub reduce_words : Names → List (List ℕ) → List StackValue → Option ℤ
reduce_words names [] stack = None
reduce_words names (word ∷ []) stack = reduce_top (lookup (bytes_eq word) reductions) stack
reduce_words names (word ∷ next ∷ words) stack = option_and_then (reduce_words names (next ∷ words)) (read_word names word stack)

abbrev pub read_reduction : Names → (text : List ℕ) → Option ℤ
read_reduction names text = option_and_then (λ bytes. reduce_words names (words_in bytes) []) (inside_brackets text)
