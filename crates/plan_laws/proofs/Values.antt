-- The brackets of instructions have their values.
use Rattle.std.proofs.Common.{◌≡◌, ◌≢◌, ℕ, ℤ, pos, int_lt, List, [], ◌∷◌, ◌++◌, Option, Some, None, codes, slice_index_or, refl, ap, ◌∙◌, arith}
use Rattle.std.specs.Option.{option_and_then, option_map}
use Rattle.std.specs.List.{AllByRecursion}
use Rattle.apply_options.specs.declared.apply_schedule.ApplySchedule.{ApplySchedule}
use Rattle.apply_options.specs.declared.reduction.Reduction.{Reduction}
use Rattle.apply_options.specs.declared.reduction.Reduction.TheVariants as reduction
use Rattle.typed_tree.specs.declared.expression.VarRef.{VarRef}
use Rattle.typed_tree.specs.declared.statement.SetValue.{SetValue}
use Rattle.typed_tree.specs.declared.statement.SetValue.TheVariants as set
use Rattle.typed_tree.specs.IntExpressionTree.{IntExpressionTree}
use Rattle.typed_tree.specs.BlockTree as action
use Rattle.typed_tree.specs.BlockTree.{SimpleStatementTree}
use Rattle.typed_tree.specs.ProgramTree.{ProgramTree}
use Rattle.algorithm_meaning.specs.declared.state.LoopCounter.{LoopCounter}
use Rattle.algorithm_meaning.specs.Arithmetic.{reduced}
use Rattle.algorithm_meaning.specs.Loop.{next_of}
use Rattle.algorithm_meaning.specs.State.{StateValue}
use Rattle.algorithm_meaning.specs.Stand.{int_value_in}
use Rattle.plans.specs.Instruction as operation
use Rattle.plans.specs.Instruction.{InstructionTree, OperationTree}
use Rattle.plan_text.specs.Expressions.{integer_words, program_name_at, bracketed}
use Rattle.plan_text.specs.Lines.{end_name, reducing_word, set_instruction_words, statement_words}
use Rattle.lowering.specs.Text.{operation_words, target_words}
use Rattle.plan_laws.specs.Machine.{StackValue, Number, Truth, Stack, Names, read_word, read_words}
use Rattle.plan_laws.specs.Given.{IntegerIsGiven, IsNamed}
use Rattle.plan_laws.specs.Brackets.{HasNamesOfOneWord, IsOneWord, read_brackets, read_reduction, reduce_words}
use Rattle.plan_laws.specs.Kinds.{InstructionKind, instruction_words, instruction_kind_of, kind_of_action, kind_of_set}
use Rattle.plan_laws.specs.Values.{ActionIsGiven, OperationIsGiven, bracket_indices, read_indices, values_in, values_of, values_of_action}
use Rattle.plan_laws.proofs.Machine.{integer_is_read, read_name}
use Rattle.plan_laws.proofs.CutWords.{all_both, condition_in_brackets, integer_in_brackets, integer_words_are, looked_at, name_is_one, text_back}
use Rattle.plan_laws.proofs.Words.{kind_is}

one_value : (a b : Stack) → a ≡ b → a ∷ [] ≡ b ∷ []
one_value a b same = ap (λ (x : Stack). x ∷ []) same

two_values : (a b c d : Stack) → a ≡ b → c ≡ d → a ∷ c ∷ [] ≡ b ∷ d ∷ []
two_values a b c d first second = ap (λ (x : Stack). x ∷ c ∷ []) first ∙ ap (λ (x : Stack). b ∷ x ∷ []) second

-- sets have no expressions
no_values : (names : Names) (words : List (List ℕ)) (value : SetValue) → read_indices names words (bracket_indices (Some (kind_of_set value))) ≡ []
no_values names words set.Empty = refl
no_values names words set.All = refl
no_values names words (set.Copy slot) = refl
no_values names words (set.Filter slot function) = refl
no_values names words (set.Modified ends function vector) = refl

action_values : (p : ProgramTree) (names : Names) (s : StateValue) (action : SimpleStatementTree) (apply_schedule : ApplySchedule) → HasNamesOfOneWord p → ActionIsGiven p names s action
    → read_indices names (statement_words p action apply_schedule ++ []) (bracket_indices (Some (kind_of_action action))) ≡ values_of_action names.vertices s action
action_values p names s (action.DeclareInt name e) apply_schedule one given = one_value _ _ (integer_in_brackets p names s e one given)
action_values p names s (action.DeclareBool name c) apply_schedule one given = one_value _ _ (condition_in_brackets p names s c one given)
action_values p names s (action.SetInt slot e) apply_schedule one given = one_value _ _ (integer_in_brackets p names s e one given)
action_values p names s (action.SetBool slot c) apply_schedule one given = one_value _ _ (condition_in_brackets p names s c one given)
action_values p names s (action.ReduceInt slot reduction e) apply_schedule one given = absurd given
action_values p names s (action.SetEntry vector index e) apply_schedule one given =
    two_values _ _ _ _ (integer_in_brackets p names s index one given.0) (integer_in_brackets p names s e one given.1)
action_values p names s (action.ReduceEntry vector index reduction e) apply_schedule one given =
    two_values _ _ _ _ (integer_in_brackets p names s index one given.0) (integer_in_brackets p names s e one given.1)
action_values p names s (action.DeclareSet name value) apply_schedule one given = no_values names (set_instruction_words p name value apply_schedule ++ []) value
action_values p names s (action.AssignSet slot value) apply_schedule one given = no_values names (set_instruction_words p slot.name value apply_schedule ++ []) value
action_values p names s (action.AddVertex slot e) apply_schedule one given = one_value _ _ (integer_in_brackets p names s e one given)
action_values p names s (action.PrintInt e) apply_schedule one given = one_value _ _ (integer_in_brackets p names s e one given)
action_values p names s (action.PrintBool c) apply_schedule one given = one_value _ _ (condition_in_brackets p names s c one given)
action_values p names s (action.ApplyVertex slot function) apply_schedule one given = refl
action_values p names s (action.ApplyEdges ends function) apply_schedule one given = refl

-- the test and the next number of a `for`
end_is_one : (p : ProgramTree) (name : ℕ) → HasNamesOfOneWord p → IsOneWord (end_name p name)
end_is_one p name one = all_both (λ (b : ℕ). b ≢ 32) (program_name_at p name) (codes ".end") (name_is_one p name one) (looked_at (codes ".end") refl)

below_read : (p : ProgramTree) (names : Names) (name : ℕ) (a b : ℤ) → HasNamesOfOneWord p → IsNamed names (program_name_at p name) (Number a) → IsNamed names (end_name p name) (Number b)
    → read_brackets names (bracketed (program_name_at p name ∷ end_name p name ∷ codes "<" ∷ [])) ≡ Some (Truth (int_lt a b) ∷ [])
below_read p names name a b one first second =
    text_back (λ words. read_words names words []) (program_name_at p name ∷ end_name p name ∷ codes "<" ∷ []) (omega arith)
    (name_is_one p name one, (end_is_one p name one, (looked_at (codes "<") refl, tt)))
    ∙ ap (option_and_then (read_words names (end_name p name ∷ codes "<" ∷ []))) (read_name names (program_name_at p name) (Number a) [] first)
    ∙ ap (option_and_then (read_words names (codes "<" ∷ []))) (read_name names (end_name p name) (Number b) (Number a ∷ []) second)

next_read : (p : ProgramTree) (names : Names) (name : ℕ) (r : LoopCounter) → HasNamesOfOneWord p → IsNamed names (program_name_at p name) (Number r.next)
    → read_brackets names (bracketed (program_name_at p name ∷ codes "1" ∷ codes "+" ∷ [])) ≡ Some (Number (next_of r).next ∷ [])
next_read p names name r one first =
    text_back (λ words. read_words names words []) (program_name_at p name ∷ codes "1" ∷ codes "+" ∷ []) (omega arith)
    (name_is_one p name one, (looked_at (codes "1") refl, (looked_at (codes "+") refl, tt)))
    ∙ ap (option_and_then (read_words names (codes "1" ∷ codes "+" ∷ []))) (read_name names (program_name_at p name) (Number r.next) [] first)

operation_values : (p : ProgramTree) (names : Names) (r : LoopCounter) (s : StateValue) (apply_schedule : ApplySchedule) (o : OperationTree) → HasNamesOfOneWord p → OperationIsGiven p names r s o
    → read_indices names (operation_words p apply_schedule o ++ target_words o) (bracket_indices (Some (instruction_kind_of o))) ≡ values_of names.vertices r s o
operation_values p names r s apply_schedule (operation.Do action) one given = action_values p names s action apply_schedule one given
operation_values p names r s apply_schedule (operation.ApplyEdgesTogether ends first second) one given = refl
operation_values p names r s apply_schedule (operation.ApplyVerticesTogether slot first second) one given = refl
operation_values p names r s apply_schedule (operation.Unless c to) one given = one_value _ _ (condition_in_brackets p names s c one given)
operation_values p names r s apply_schedule (operation.Enter name e) one given = one_value _ _ (integer_in_brackets p names s e one given)
operation_values p names r s apply_schedule (operation.UnlessBelow name to) one given = one_value _ _ (below_read p names name r.next r.end one given.0 given.1)
operation_values p names r s apply_schedule (operation.Advance name) one given = one_value _ _ (next_read p names name r one given)
operation_values p names r s apply_schedule operation.Turn one given = refl
operation_values p names r s apply_schedule (operation.Jump to) one given = refl
operation_values p names r s apply_schedule operation.End one given = refl

pub values_are : (p : ProgramTree) (names : Names) (r : LoopCounter) (s : StateValue) (i : InstructionTree) → HasNamesOfOneWord p → OperationIsGiven p names r s i.operation
    → values_in names (instruction_words p i) ≡ values_of names.vertices r s i.operation
values_are p names r s i one given =
    ap (λ (k : Option InstructionKind). read_indices names (instruction_words p i) (bracket_indices k)) (kind_is p i)
    ∙ operation_values p names r s i.apply_schedule i.operation one given

-- the last word is a reduction of what the others leave
through : {A B : Type 0} (f : A → Option A) (g h : A → Option B) (o : Option A) → ((x : A) → h x ≡ option_and_then g (f x)) → option_and_then h o ≡ option_and_then g (option_and_then f o)
through f g h None same = refl
through f g h (Some x) same = same x

reduce_last : (names : Names) (words : List (List ℕ)) (word : List ℕ) (stack : List StackValue)
    → reduce_words names (words ++ word ∷ []) stack ≡ option_and_then (reduce_words names (word ∷ [])) (read_words names words stack)
reduce_last names [] word stack = refl
reduce_last names (first ∷ []) word stack =
    through (read_words names []) (reduce_words names (word ∷ [])) (reduce_words names (word ∷ [])) (read_word names first stack) (λ x. refl)
reduce_last names (first ∷ next ∷ words) word stack =
    through (read_words names (next ∷ words)) (reduce_words names (word ∷ [])) (reduce_words names (next ∷ words ++ word ∷ [])) (read_word names first stack) (reduce_last names (next ∷ words) word)

reducing_is_one : (r : Reduction) → IsOneWord (reducing_word r)
reducing_is_one reduction.Min = looked_at (codes "min") refl
reducing_is_one reduction.Max = looked_at (codes "max") refl
reducing_is_one reduction.Plus = looked_at (codes "+") refl

reduce_is : (names : Names) (r : Reduction) (a b : ℤ) → reduce_words names (reducing_word r ∷ []) (Number b ∷ Number a ∷ []) ≡ Some (reduced r a b)
reduce_is names reduction.Min a b = refl
reduce_is names reduction.Max a b = refl
reduce_is names reduction.Plus a b = refl

reduce_value : (names : Names) (r : Reduction) (a : ℤ) (o : Option ℤ)
    → option_and_then (reduce_words names (reducing_word r ∷ [])) (option_map (λ n. Number n ∷ Number a ∷ []) o) ≡ option_map (λ n. reduced r a n) o
reduce_value names r a None = refl
reduce_value names r a (Some n) = reduce_is names r a n

pub reduction_is_read : (p : ProgramTree) (names : Names) (s : StateValue) (x : VarRef) (r : Reduction) (e : IntExpressionTree) (apply_schedule : ApplySchedule) → HasNamesOfOneWord p
    → IsNamed names (program_name_at p x.name) (Number (slice_index_or s.scope.integers x.index (pos 0))) → IntegerIsGiven p names s e
    → read_reduction names (slice_index_or (statement_words p (action.ReduceInt x r e) apply_schedule) 2 [])
    ≡ option_map (λ n. reduced r (slice_index_or s.scope.integers x.index (pos 0)) n) (int_value_in names.vertices e s)
reduction_is_read p names s x r e apply_schedule one named given =
    let a = slice_index_or s.scope.integers x.index (pos 0) in
    let words = program_name_at p x.name ∷ integer_words p e in
    let all : AllByRecursion IsOneWord (program_name_at p x.name ∷ integer_words p e ++ reducing_word r ∷ []) =
    (name_is_one p x.name one, all_both IsOneWord (integer_words p e) (reducing_word r ∷ []) (integer_words_are p names s e one given) (reducing_is_one r, tt)) in
    let read : read_words names words [] ≡ option_map (λ n. Number n ∷ Number a ∷ []) (int_value_in names.vertices e s) =
    ap (option_and_then (read_words names (integer_words p e))) (read_name names (program_name_at p x.name) (Number a) [] named) ∙ integer_is_read p names s e (Number a ∷ []) given in
    text_back (λ ws. reduce_words names ws []) (words ++ reducing_word r ∷ []) (omega arith) all
    ∙ reduce_last names words (reducing_word r) []
    ∙ ap (option_and_then (reduce_words names (reducing_word r ∷ []))) read
    ∙ reduce_value names r a (int_value_in names.vertices e s)
