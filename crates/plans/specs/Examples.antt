-- Programs whose plans are written out.
use Rattle.std.specs.Prelude.{◌≡◌, ℕ, pos, List, [], ◌∷◌, map, Some, None}
use Rattle.apply_options.specs.declared.reduction.Reduction.TheVariants.{Plus}
use Rattle.typed_tree.specs.declared.expression.ComparisonOperator.TheVariants.{Less, NotEqual}
use Rattle.typed_tree.specs.declared.expression.Endpoint.TheVariants.{Source}
use Rattle.typed_tree.specs.declared.expression.VarRef.{VarRef}
use Rattle.typed_tree.specs.declared.statement.VertexFilter.TheVariants as end
use Rattle.typed_tree.specs.declared.statement.ApplyEnds.{ApplyEnds}
use Rattle.typed_tree.specs.declared.statement.SetValue.TheVariants as set
use Rattle.typed_tree.specs.IntExpressionTree.{IntExpressionTree, Number, EntryAt, SetSize}
use Rattle.typed_tree.specs.BoolExpressionTree.{BoolExpressionTree, Compare}
use Rattle.typed_tree.specs.FunctionStatementTree as step
use Rattle.typed_tree.specs.FunctionStatementTree.{FunctionTree}
use Rattle.typed_tree.specs.BlockTree.{DeclareInt, SetEntry, DeclareSet, AssignSet, AddVertex, PrintInt, ApplyVertex, ApplyEdges, If, IfElse, While}
use Rattle.typed_tree.specs.BlockTree.{Simple, For, BlockTree, Empty, Then}
use Rattle.typed_tree.specs.ProgramTree.{ProgramTree}
use Rattle.apply_options.specs.declared.apply_schedule.Fused.TheVariants.{With, Into}
use Rattle.apply_options.specs.ScheduleTree.{ScheduleTree, fused_as, no_apply_schedule}
use Rattle.plans.specs.Instruction.{OperationTree, Do, ApplyEdgesTogether, ApplyVerticesTogether, Unless, Enter, UnlessBelow, Advance, Turn, Jump, End}
use Rattle.plans.specs.Instruction.{InstructionTree, Dropped, Declared}
use Rattle.plans.specs.Plan.{plan_of}

-- what the instructions of a plan do
abbrev pub operations : List InstructionTree → List OperationTree
operations plan = map (λ i. i.operation) plan

abbrev pub with_main : ProgramTree → BlockTree → ProgramTree
with_main p main = record p { main = main }

-- a breadth-first search from vertex 0: the frontier continues as long as it has members
abbrev pub breadth_first : (frontier : VarRef) → ApplyEnds → (visit parent : ℕ) → BlockTree
breadth_first frontier ends visit parent =
    Then 1 None (Simple (DeclareSet frontier.name set.Empty))
    (Then 2 None (Simple (AddVertex frontier (Number (pos 0))))
    (Then 3 None (Simple (SetEntry parent (Number (pos 0)) (Number (pos 0))))
    (Then 4 None (While (Compare NotEqual (SetSize frontier) (Number (pos 0)))
    (Then 5 (Some 0) (Simple (AssignSet frontier (set.Modified ends visit parent))) Empty))
    Empty)))

abbrev pub HasPlanOfSearch : ProgramTree → ScheduleTree → (frontier : VarRef) → ApplyEnds → (visit parent : ℕ) → Type 0
HasPlanOfSearch p s frontier ends visit parent =
    operations (plan_of (with_main p (breadth_first frontier ends visit parent)) s)
    ≡ Do (DeclareSet frontier.name set.Empty)
    ∷ Do (AddVertex frontier (Number (pos 0)))
    ∷ Do (SetEntry parent (Number (pos 0)) (Number (pos 0)))
    ∷ Unless (Compare NotEqual (SetSize frontier) (Number (pos 0))) 7
    ∷ Turn
    ∷ Do (AssignSet frontier (set.Modified ends visit parent))
    ∷ Jump 3
    ∷ End
    ∷ []

-- a loop over i with a choice in it, and a choice without `else` after it
abbrev pub loop_with_choice : (i : ℕ) → (first end : IntExpressionTree) → BoolExpressionTree → (e f : IntExpressionTree) → BlockTree
loop_with_choice i first end c e f =
    Then 1 None (For i first end
    (Then 2 None (IfElse c (Then 3 None (Simple (PrintInt e)) Empty) (Then 4 None (Simple (PrintInt f)) Empty))
    Empty))
    (Then 5 None (If c (Then 6 None (Simple (PrintInt f)) Empty))
    Empty)

abbrev pub HasPlanOfLoop : ProgramTree → ScheduleTree → (i : ℕ) → (first end : IntExpressionTree) → BoolExpressionTree → (e f : IntExpressionTree) → Type 0
HasPlanOfLoop p s i first end c e f =
    operations (plan_of (with_main p (loop_with_choice i first end c e f)) s)
    ≡ Do (DeclareInt i first)
    ∷ Enter i end
    ∷ UnlessBelow i 10
    ∷ Turn
    ∷ Unless c 7
    ∷ Do (PrintInt e)
    ∷ Jump 8
    ∷ Do (PrintInt f)
    ∷ Advance i
    ∷ Jump 2
    ∷ Unless c 12
    ∷ Do (PrintInt f)
    ∷ End
    ∷ []

-- labels 0 and 1 are fused
abbrev pub fuses_two : ScheduleTree
fuses_two = record { apply_schedules = (0, fused_as (With 1) no_apply_schedule) ∷ (1, fused_as (Into 0) no_apply_schedule) ∷ []; groups = [] }

-- vertex functions that set the entry of their vertex in vector 0, and in vector 1 to that of vector 0
abbrev pub sets_entries : List FunctionTree
sets_entries =
    record { name = 0; steps = step.StepThen (step.SetEntry 0 (Number (pos 1))) step.NoStep }
    ∷ record { name = 1; steps = step.StepThen (step.SetEntry 1 (EntryAt 0 Source)) step.NoStep }
    ∷ []

abbrev pub vertex_applies : (vertices : VarRef) → BlockTree
vertex_applies vertices = Then 1 (Some 0) (Simple (ApplyVertex vertices 0)) (Then 2 (Some 1) (Simple (ApplyVertex vertices 1)) Empty)

-- the first constant set, of this name
abbrev pub first_set : (name : ℕ) → VarRef
first_set name = record { index = 0; name = name }

abbrev pub HasPlanOfVertexPair : ProgramTree → (name : ℕ) → Type 0
HasPlanOfVertexPair p name =
    operations (plan_of (with_main (record p { vertex_functions = sets_entries }) (vertex_applies (first_set name))) fuses_two)
    ≡ ApplyVerticesTogether (first_set name) 0 1
    ∷ End
    ∷ []

-- the filter reads vector 0, and the edge function at an index writes the vector at this index
abbrev pub reads_first : FunctionTree
reads_first = record { name = 0; steps = step.StepThen (step.DeclareBool 1 (Compare Less (EntryAt 0 Source) (Number (pos 1)))) step.NoStep }

abbrev pub adds_to : ℕ → FunctionTree
adds_to vector = record { name = 0; steps = step.StepThen (step.ReduceEntry vector Plus (Number (pos 1))) step.NoStep }

abbrev pub with_edge_functions : ProgramTree → ProgramTree
with_edge_functions p = record p { filters = reads_first ∷ []; edge_functions = adds_to 0 ∷ adds_to 1 ∷ adds_to 2 ∷ [] }

-- to the vertices that the filter lets through
abbrev pub to_filtered : ApplyEnds
to_filtered = record { from = None; to = Some (end.Function 0) }

abbrev pub edge_applies : (f g : ℕ) → BlockTree
edge_applies f g = Then 1 (Some 0) (Simple (ApplyEdges to_filtered f)) (Then 2 (Some 1) (Simple (ApplyEdges to_filtered g)) Empty)

abbrev pub HasPlanOfEdgePair : ProgramTree → Type 0
HasPlanOfEdgePair p =
    operations (plan_of (with_main (with_edge_functions p) (edge_applies 1 2)) fuses_two)
    ≡ ApplyEdgesTogether to_filtered (record { function = 1; result = Dropped }) (record { function = 2; result = Dropped })
    ∷ End
    ∷ []

-- two sets that get what the edge functions at indices 1 and 2 change
abbrev pub all_edges : ApplyEnds
all_edges = record { from = None; to = None }

abbrev pub modifying_applies : (m n : ℕ) → BlockTree
modifying_applies m n =
    Then 1 (Some 0) (Simple (DeclareSet m (set.Modified all_edges 1 1)))
    (Then 2 (Some 1) (Simple (DeclareSet n (set.Modified all_edges 2 2)))
    Empty)

abbrev pub HasPlanOfModifyingPair : ProgramTree → (m n : ℕ) → Type 0
HasPlanOfModifyingPair p m n =
    operations (plan_of (with_main (with_edge_functions p) (modifying_applies m n)) fuses_two)
    ≡ ApplyEdgesTogether all_edges (record { function = 1; result = Declared m 1 }) (record { function = 2; result = Declared n 2 })
    ∷ End
    ∷ []

-- where the first writes what the filter reads, the two stay apart
abbrev pub HasPlanOfApartEdges : ProgramTree → Type 0
HasPlanOfApartEdges p =
    operations (plan_of (with_main (with_edge_functions p) (edge_applies 0 1)) fuses_two)
    ≡ Do (ApplyEdges to_filtered 0)
    ∷ Do (ApplyEdges to_filtered 1)
    ∷ End
    ∷ []
