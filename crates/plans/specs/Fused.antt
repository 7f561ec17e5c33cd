-- Facts of two applies that a plan does together.
use Rattle.std.specs.Prelude.{◌≡◌, ℕ, ℤ, true, List, slice_get, Some}
use Rattle.std.specs.List.Sorted.{IsStrictlyIncreasing}
use Rattle.typed_tree.specs.FunctionStatementTree.{FunctionStatementsTree}
use Rattle.typed_tree.specs.ProgramTree.{ProgramTree}
use Rattle.algorithm_meaning.specs.Function.{steps_of}
use Rattle.algorithm_meaning.specs.State.{StateValue}
use Rattle.algorithm_meaning.specs.VertexSets.{after_vertices}
use Rattle.typed_tree.specs.Independence.{are_apart, function_writes}
use Rattle.plans.specs.Instruction.{OperationTree, Do, ApplyEdgesTogether, ApplyVerticesTogether, Unless, Enter, UnlessBelow, Advance, Turn, Jump, End}
use Rattle.plans.specs.Instruction.{InstructionTree}
use Rattle.plans.specs.Machine.{after_both}

-- at ascending vertices it is one whether both functions run at each vertex, or the first at all of them and then the second
abbrev pub IsOneAfterOther : (first second : FunctionStatementsTree) → Type 0
IsOneAfterOther first second =
    (m : StateValue) (vs : List ℕ) (vectors : List (List ℤ)) → IsStrictlyIncreasing vs
    → after_both first second m vs vectors ≡ after_vertices second m.sets vs (after_vertices first m.sets vs vectors)

-- two edge functions that are applied together write no vector both; two vertex functions may as well run one after the other
abbrev pub FitTogether : ProgramTree → OperationTree → Type 0
FitTogether p (ApplyEdgesTogether ends a b) = are_apart (function_writes p.edge_functions b.function) (function_writes p.edge_functions a.function) ≡ true
FitTogether p (ApplyVerticesTogether set f g) = IsOneAfterOther (steps_of (slice_get p.vertex_functions f)) (steps_of (slice_get p.vertex_functions g))
FitTogether p (Do action) = Unit {0}
FitTogether p (Unless c to) = Unit {0}
FitTogether p (Enter name e) = Unit {0}
FitTogether p (UnlessBelow name to) = Unit {0}
FitTogether p (Advance name) = Unit {0}
FitTogether p Turn = Unit {0}
FitTogether p (Jump to) = Unit {0}
FitTogether p End = Unit {0}

-- so it is of each two applies that a plan does together
abbrev pub FusedFit : ProgramTree → List InstructionTree → Type 0
FusedFit p plan = (index : ℕ) (i : InstructionTree) → slice_get plan index ≡ Some i → FitTogether p i.operation
