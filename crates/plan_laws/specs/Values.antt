-- The brackets of instructions, and the values that are in them.
use Rattle.std.specs.Prelude.{ℕ, int_lt, List, [], ◌∷◌, Option, Some, map, slice_index_or}
use Rattle.std.specs.Option.{option_map}
use Rattle.typed_tree.specs.IntExpressionTree.{IntExpressionTree}
use Rattle.typed_tree.specs.BoolExpressionTree.{BoolExpressionTree}
use Rattle.typed_tree.specs.BlockTree as action
use Rattle.typed_tree.specs.BlockTree.{SimpleStatementTree}
use Rattle.typed_tree.specs.ProgramTree.{ProgramTree}
use Rattle.algorithm_meaning.specs.declared.state.LoopCounter.{LoopCounter}
use Rattle.algorithm_meaning.specs.Loop.{next_of}
use Rattle.algorithm_meaning.specs.State.{StateValue}
use Rattle.algorithm_meaning.specs.Stand.{bool_value_in, int_value_in}
use Rattle.plans.specs.Instruction as operation
use Rattle.plans.specs.Instruction.{OperationTree}
use Rattle.plan_text.specs.Expressions.{program_name_at}
use Rattle.plan_text.specs.Lines.{end_name}
use Rattle.plan_laws.specs.Machine.{Number, Truth, Stack, Names}
use Rattle.plan_laws.specs.Given.{ConditionIsGiven, IntegerIsGiven, IsNamed}
use Rattle.plan_laws.specs.Brackets.{read_brackets}
use Rattle.plan_laws.specs.Kinds.{InstructionKind, Set, Put, Print, AddVertex, Unless, kind_in}

-- which words of an instruction are expressions in brackets: `set x [e]`, `put v [i] = [e]`, `print [e]`, `addvertex s [e]`, `unless [e]`
abbrev pub bracket_indices : Option InstructionKind → List ℕ
bracket_indices (Some Set) = 2 ∷ []
bracket_indices (Some Put) = 2 ∷ 4 ∷ []
bracket_indices (Some Print) = 1 ∷ []
bracket_indices (Some AddVertex) = 2 ∷ []
bracket_indices (Some Unless) = 1 ∷ []
bracket_indices _ = []

abbrev pub read_indices : Names → List (List ℕ) → List ℕ → List Stack
read_indices names words indices = map (λ index. read_brackets names (slice_index_or words index [])) indices

-- what is in the brackets of these words
abbrev pub values_in : Names → List (List ℕ) → List Stack
values_in names words = read_indices names words (bracket_indices (kind_in words))

abbrev pub number_on : ℕ → StateValue → IntExpressionTree → Stack
number_on vertices s e = option_map (λ n. Number n ∷ []) (int_value_in vertices e s)

abbrev pub truth_on : ℕ → StateValue → BoolExpressionTree → Stack
truth_on vertices s c = option_map (λ b. Truth b ∷ []) (bool_value_in vertices c s)

-- the values that an instruction takes in a state
abbrev pub values_of_action : ℕ → StateValue → SimpleStatementTree → List Stack
values_of_action vertices s (action.DeclareInt name e) = number_on vertices s e ∷ []
values_of_action vertices s (action.DeclareBool name c) = truth_on vertices s c ∷ []
values_of_action vertices s (action.SetInt slot e) = number_on vertices s e ∷ []
values_of_action vertices s (action.SetBool slot c) = truth_on vertices s c ∷ []
values_of_action vertices s (action.SetEntry vector index e) = number_on vertices s index ∷ number_on vertices s e ∷ []
values_of_action vertices s (action.ReduceEntry vector index reduction e) = number_on vertices s index ∷ number_on vertices s e ∷ []
values_of_action vertices s (action.AddVertex slot e) = number_on vertices s e ∷ []
values_of_action vertices s (action.PrintInt e) = number_on vertices s e ∷ []
values_of_action vertices s (action.PrintBool c) = truth_on vertices s c ∷ []
values_of_action vertices s _ = []

-- and in the loop that is innermost
abbrev pub values_of : ℕ → LoopCounter → StateValue → OperationTree → List Stack
values_of vertices r s (operation.Do action) = values_of_action vertices s action
values_of vertices r s (operation.Unless c to) = truth_on vertices s c ∷ []
values_of vertices r s (operation.Enter name e) = number_on vertices s e ∷ []
values_of vertices r s (operation.UnlessBelow name to) = Some (Truth (int_lt r.next r.end) ∷ []) ∷ []
values_of vertices r s (operation.Advance name) = Some (Number (next_of r).next ∷ []) ∷ []
values_of vertices r s _ = []

-- it is known what the expressions of an instruction speak of; a variable that is reduced is read by a law of its own
abbrev pub ActionIsGiven : ProgramTree → Names → StateValue → SimpleStatementTree → Type 0
ActionIsGiven p names s (action.DeclareInt name e) = IntegerIsGiven p names s e
ActionIsGiven p names s (action.DeclareBool name c) = ConditionIsGiven p names s c
ActionIsGiven p names s (action.SetInt slot e) = IntegerIsGiven p names s e
ActionIsGiven p names s (action.SetBool slot c) = ConditionIsGiven p names s c
ActionIsGiven p names s (action.ReduceInt slot reduction e) = ⊥
ActionIsGiven p names s (action.SetEntry vector index e) = IntegerIsGiven p names s index × IntegerIsGiven p names s e
ActionIsGiven p names s (action.ReduceEntry vector index reduction e) = IntegerIsGiven p names s index × IntegerIsGiven p names s e
ActionIsGiven p names s (action.AddVertex slot e) = IntegerIsGiven p names s e
ActionIsGiven p names s (action.PrintInt e) = IntegerIsGiven p names s e
ActionIsGiven p names s (action.PrintBool c) = ConditionIsGiven p names s c
ActionIsGiven p names s _ = Unit {0}

-- of a loop the name has its next number, and the name that the loop keeps beside it its bound
abbrev pub OperationIsGiven : ProgramTree → Names → LoopCounter → StateValue → OperationTree → Type 0
OperationIsGiven p names r s (operation.Do action) = ActionIsGiven p names s action
OperationIsGiven p names r s (operation.Unless c to) = ConditionIsGiven p names s c
OperationIsGiven p names r s (operation.Enter name e) = IntegerIsGiven p names s e
OperationIsGiven p names r s (operation.UnlessBelow name to) = IsNamed names (program_name_at p name) (Number r.next)
    × IsNamed names (end_name p name) (Number r.end)
OperationIsGiven p names r s (operation.Advance name) = IsNamed names (program_name_at p name) (Number r.next)
OperationIsGiven p names r s _ = Unit {0}
