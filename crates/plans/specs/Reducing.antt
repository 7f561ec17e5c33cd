-- By what edge applies give a vector numbers.
use Rattle.std.specs.Prelude.{◌≡◌, ℕ, List, [], ◌∷◌, map, slice_get, Option, Some, None}
use Rattle.apply_options.specs.declared.reduction.Reduction.{Reduction}
use Rattle.typed_tree.specs.FunctionStatementTree.{FunctionTree, FunctionStatementsTree}
use Rattle.typed_tree.specs.BlockTree.{Simple}
use Rattle.typed_tree.specs.ProgramTree.{ProgramTree}
use Rattle.algorithm_meaning.specs.Function.{steps_of}
use Rattle.algorithm_meaning.specs.EdgeApply.{IsGivenBy}
use Rattle.algorithm_meaning.specs.State.{StateValue}
use Rattle.plans.specs.Instruction.{OperationTree, Do, ApplyEdgesTogether, ApplyVerticesTogether, Unless, Enter, UnlessBelow, Advance, Turn, Jump, End}
use Rattle.plans.specs.Instruction.{InstructionTree}
use Rattle.plans.specs.Fusing.{EdgeApplyTree, edge_apply_of}

-- the indices of one or two functions
abbrev pub indices_of : (first : ℕ) → (second : Option ℕ) → List ℕ
indices_of first None = first ∷ []
indices_of first (Some second) = first ∷ second ∷ []

-- the statements of the functions at these indices
abbrev pub steps_at : List FunctionTree → List ℕ → List FunctionStatementsTree
steps_at functions indices = map (λ index. steps_of (slice_get functions index)) indices

-- there is a reduction by which alone the functions give a vector numbers
pub record IsReducedAlone (steps : List FunctionStatementsTree) (m : StateValue) (vector : ℕ) : Type 0 where
  pub reduction : Reduction
  pub alone : IsGivenBy reduction vector steps m.sets m.vectors

-- so it is for each vector
abbrev pub AreReduced : List FunctionStatementsTree → StateValue → Type 0
AreReduced steps m = (vector : ℕ) → IsReducedAlone steps m vector

-- whatever the state, the edge apply of an operation gives each vector numbers by one reduction
abbrev pub OperationReduces : ProgramTree → OperationTree → Type 0
OperationReduces p (Do action) = (x : EdgeApplyTree) → edge_apply_of (Simple action) ≡ Some x → (m : StateValue)
    → AreReduced (steps_at p.edge_functions (indices_of x.part.function None)) m
OperationReduces p (ApplyEdgesTogether ends a b) = (m : StateValue) → AreReduced (steps_at p.edge_functions (indices_of a.function (Some b.function))) m
OperationReduces p (ApplyVerticesTogether set f g) = Unit {0}
OperationReduces p (Unless c to) = Unit {0}
OperationReduces p (Enter name e) = Unit {0}
OperationReduces p (UnlessBelow name to) = Unit {0}
OperationReduces p (Advance name) = Unit {0}
OperationReduces p Turn = Unit {0}
OperationReduces p (Jump to) = Unit {0}
OperationReduces p End = Unit {0}

-- so does each edge apply of a plan
abbrev pub AppliesReduce : ProgramTree → List InstructionTree → Type 0
AppliesReduce p plan = (index : ℕ) (i : InstructionTree) → slice_get plan index ≡ Some i → OperationReduces p i.operation
