-- The kinds of instructions, and where an instruction continues, by its words and by its operation.
use Rattle.std.specs.Prelude.{ℕ, ◌^◌, List, [], ◌∷◌, ◌++◌, Option, Some, None, codes, option_and_then, slice_get}
use Rattle.std.specs.Map.{lookup}
use Rattle.std.specs.Str.{bytes_eq}
use Rattle.typed_tree.specs.declared.statement.SetValue.{SetValue}
use Rattle.typed_tree.specs.declared.statement.SetValue.TheVariants as set
use Rattle.typed_tree.specs.BlockTree as action
use Rattle.typed_tree.specs.BlockTree.{SimpleStatementTree}
use Rattle.typed_tree.specs.ProgramTree.{ProgramTree}
use Rattle.plans.specs.Instruction as operation
use Rattle.plans.specs.Instruction.{OperationTree, InstructionTree}
use Rattle.lowering.specs.Text.{operation_words, target_words}
use Rattle.decimal.specs.Numbers.{number_of}

pub data InstructionKind : Type 0 where
  Set : InstructionKind
  Put : InstructionKind
  Print : InstructionKind
  AddVertex : InstructionKind
  NewSet : InstructionKind
  AllSet : InstructionKind
  CopySet : InstructionKind
  Filter : InstructionKind
  ApplyVertices : InstructionKind
  ApplyEdges : InstructionKind
  Unless : InstructionKind
  Turn : InstructionKind
  Jump : InstructionKind
  End : InstructionKind

-- the first word of each kind
abbrev pub kinds : List (List ℕ × InstructionKind)
kinds =
    (codes "set", Set) ∷ (codes "put", Put) ∷ (codes "print", Print) ∷ (codes "addvertex", AddVertex)
    ∷ (codes "newset", NewSet) ∷ (codes "allset", AllSet) ∷ (codes "copyset", CopySet) ∷ (codes "filter", Filter)
    ∷ (codes "vapply", ApplyVertices) ∷ (codes "eapply", ApplyEdges)
    ∷ (codes "unless", Unless) ∷ (codes "turn", Turn) ∷ (codes "jump", Jump) ∷ (codes "end", End) ∷ []

-- the words of an instruction, after its number
abbrev pub instruction_words : ProgramTree → InstructionTree → List (List ℕ)
instruction_words p i = operation_words p i.apply_schedule i.operation ++ target_words i.operation

-- the kind that the words say, and where they say to continue
abbrev pub kind_in : List (List ℕ) → Option InstructionKind
kind_in [] = None
kind_in (word ∷ words) = lookup (bytes_eq word) kinds

abbrev pub index_behind : Option InstructionKind → List (List ℕ) → Option ℕ
index_behind (Some Unless) words = option_and_then (number_of (2 ^ 64)) (slice_get words 2)
index_behind (Some Jump) words = option_and_then (number_of (2 ^ 64)) (slice_get words 1)
index_behind _ words = None

abbrev pub index_in : List (List ℕ) → Option ℕ
index_in words = index_behind (kind_in words) words

-- the kind of a statement without a block, and of an operation
abbrev pub kind_of_set : SetValue → InstructionKind
kind_of_set set.Empty = NewSet
kind_of_set set.All = AllSet
kind_of_set (set.Copy slot) = CopySet
kind_of_set (set.Filter slot function) = Filter
kind_of_set (set.Modified ends function vector) = ApplyEdges

abbrev pub kind_of_action : SimpleStatementTree → InstructionKind
kind_of_action (action.DeclareInt name e) = Set
kind_of_action (action.DeclareBool name c) = Set
kind_of_action (action.SetInt slot e) = Set
kind_of_action (action.SetBool slot c) = Set
kind_of_action (action.ReduceInt slot reduction e) = Set
kind_of_action (action.SetEntry vector index e) = Put
kind_of_action (action.ReduceEntry vector index reduction e) = Put
kind_of_action (action.DeclareSet name value) = kind_of_set value
kind_of_action (action.AssignSet slot value) = kind_of_set value
kind_of_action (action.AddVertex slot e) = AddVertex
kind_of_action (action.PrintInt e) = Print
kind_of_action (action.PrintBool c) = Print
kind_of_action (action.ApplyVertex slot function) = ApplyVertices
kind_of_action (action.ApplyEdges ends function) = ApplyEdges

abbrev pub instruction_kind_of : OperationTree → InstructionKind
instruction_kind_of (operation.Do action) = kind_of_action action
instruction_kind_of (operation.ApplyEdgesTogether ends first second) = ApplyEdges
instruction_kind_of (operation.ApplyVerticesTogether slot first second) = ApplyVertices
instruction_kind_of (operation.Unless c to) = Unless
instruction_kind_of (operation.Enter name e) = Set
instruction_kind_of (operation.UnlessBelow name to) = Unless
instruction_kind_of (operation.Advance name) = Set
instruction_kind_of operation.Turn = Turn
instruction_kind_of (operation.Jump to) = Jump
instruction_kind_of operation.End = End

-- the number of the instruction that an operation may go to
abbrev pub index_of : OperationTree → Option ℕ
index_of (operation.Unless c to) = Some to
index_of (operation.UnlessBelow name to) = Some to
index_of (operation.Jump to) = Some to
index_of _ = None
