-- Of which operation of a plan an operation is, with its kernels, its parts and its set.
use Rattle.std.specs.Prelude.{[], ◌≡◌, List, Option, Some, None, ◌∷◌, ℕ, slice_get}
use Rattle.std.specs.Option.{unwrap_or}
use Rattle.typed_tree.specs.declared.statement.ApplyEnds.{ApplyEnds}
use Rattle.typed_tree.specs.IntExpressionTree.{IntExpressionTree}
use Rattle.typed_tree.specs.BoolExpressionTree.{BoolExpressionTree}
use Rattle.typed_tree.specs.BlockTree.{SimpleStatementTree, DeclareInt, DeclareBool, SetInt, SetBool, ReduceInt, SetEntry, ReduceEntry}
use Rattle.typed_tree.specs.BlockTree.{DeclareSet, AssignSet, AddVertex, PrintInt, PrintBool, ApplyVertex, Simple}
use Rattle.typed_tree.specs.declared.statement.SetValue.{SetValue}
use Rattle.typed_tree.specs.ProgramTree.{ProgramTree}
use Rattle.typed_tree.specs.declared.statement.SetValue.TheVariants as set
use Rattle.algorithm_meaning.specs.declared.state.Depth.{Depth}
use Rattle.algorithm_meaning.specs.Function.{steps_of}
use Rattle.kernels.specs.declared.expression.ExpressionKernel.{ExpressionKernel}
use Rattle.kernels.specs.Kernels.{IsIntKernel, IsBoolKernel, IsEdgeKernel, IsFilterKernel}
use Rattle.kernels.specs.Meaning.{IsVertexCode}
use Rattle.plans.specs.Instruction.{OperationTree, Do, ApplyEdgesTogether, ApplyVerticesTogether, Unless, Enter, UnlessBelow, Advance, Turn, Jump, End}
use Rattle.plans.specs.Instruction.{InstructionTree, ResultTree, Dropped, Declared, Assigned, EdgePartTree}
use Rattle.plans.specs.Fusing.{edge_apply_of}
use Rattle.plans.specs.declared.part.EdgePart.{EdgePart}
use Rattle.plans.specs.declared.operation.PlanOperation.{PlanOperation}
use Rattle.plans.specs.declared.instruction.Instruction.{Instruction}
use Rattle.plans.specs.declared.kernels_at.Kernels.{Kernels}
use Rattle.plans.specs.declared.part.PartResult.{PartResult}
use Rattle.plans.specs.declared.set_expression.SetExpression.{SetExpression}
use Rattle.plans.specs.declared.set_expression.SetExpression.TheVariants.{Nothing, All, Copy, Filter}
use Rattle.plans.specs.declared.functions.FunctionKernels.{FunctionKernels}
use Rattle.plans.specs.declared.operation.IntUse.{IntUse}
use Rattle.plans.specs.declared.operation.BoolUse.{BoolUse}
use Rattle.plans.specs.declared.operation.EntryUse.{EntryUse}
use Rattle.plans.specs.declared.operation.EntryUse.TheVariants as entry_use
use Rattle.plans.specs.declared.operation.IntUse.TheVariants as int_use
use Rattle.plans.specs.declared.operation.BoolUse.TheVariants as bool_use
use Rattle.plans.specs.declared.operation.PlanOperation.TheVariants as op
use Rattle.plans.specs.declared.operation.ValueOperation.TheVariants as value_op
use Rattle.plans.specs.declared.operation.SetOperation.TheVariants as set_op
use Rattle.plans.specs.declared.operation.ApplyOperation.TheVariants as apply_op
use Rattle.plans.specs.declared.operation.ControlOperation.TheVariants as control_op
use Rattle.plans.specs.declared.part.PartResult.TheVariants as result

-- the kernel is made for n visible variables
pub record IsFor (d : Depth) (k : ExpressionKernel) : Type 0 where
  pub integers : k.frame.integers ≡ d.integers
  pub conditions : k.frame.conditions ≡ d.conditions

-- the operation is made of an expression, of which this is the kernel, where so much is visible
pub record HasInteger (d : Depth) (k : ExpressionKernel) (make : IntExpressionTree → OperationTree) (o : OperationTree) : Type 0 where
  pub tree : IntExpressionTree
  pub is : o ≡ make tree
  pub kernel : IsIntKernel k tree
  pub visible : IsFor d k

pub record HasCondition (d : Depth) (k : ExpressionKernel) (make : BoolExpressionTree → OperationTree) (o : OperationTree) : Type 0 where
  pub tree : BoolExpressionTree
  pub is : o ≡ make tree
  pub kernel : IsBoolKernel k tree
  pub visible : IsFor d k

-- of an index and a value
pub record HasEntry (d : Depth) (index value : ExpressionKernel) (make : IntExpressionTree → IntExpressionTree → OperationTree)
    (o : OperationTree) : Type 0 where
  pub index_tree : IntExpressionTree
  pub value_tree : IntExpressionTree
  pub is : o ≡ make index_tree value_tree
  pub index_kernel : IsIntKernel index index_tree
  pub value_kernel : IsIntKernel value value_tree
  pub index_visible : IsFor d index
  pub value_visible : IsFor d value

abbrev pub result_tree : PartResult → ResultTree
result_tree result.Dropped = Dropped
result_tree (result.Declared name vector) = Declared name vector
result_tree (result.Assigned slot vector) = Assigned slot vector

abbrev pub part_tree : EdgePart → EdgePartTree
part_tree part = record { function = part.function; result = result_tree part.result }

-- the operation is a statement that is this edge apply
pub record AppliesEdges (ends : ApplyEnds) (part : EdgePart) (o : OperationTree) : Type 0 where
  pub action : SimpleStatementTree
  pub is : o ≡ Do action
  pub applies : edge_apply_of (Simple action) ≡ Some (record { ends = ends; part = part_tree part })

abbrev pub ApplyEdgesOf : ApplyEnds → (first : EdgePart) → (second : Option EdgePart) → OperationTree → Type 0
ApplyEdgesOf ends first None o = AppliesEdges ends first o
ApplyEdgesOf ends first (Some second) o = o ≡ ApplyEdgesTogether ends (part_tree first) (part_tree second)

-- the value of the program that it is
abbrev pub set_value : SetExpression → SetValue
set_value Nothing = set.Empty
set_value All = set.All
set_value (Copy slot) = set.Copy slot
set_value (Filter slot function) = set.Filter slot function

-- the statement that uses the value of an expression so
abbrev pub int_statement : IntUse → IntExpressionTree → SimpleStatementTree
int_statement (int_use.Declare name) e = DeclareInt name e
int_statement (int_use.Set slot) e = SetInt slot e
int_statement (int_use.Reduce slot reduction) e = ReduceInt slot reduction e
int_statement int_use.Print e = PrintInt e

abbrev pub bool_statement : BoolUse → BoolExpressionTree → SimpleStatementTree
bool_statement (bool_use.Declare name) c = DeclareBool name c
bool_statement (bool_use.Set slot) c = SetBool slot c
bool_statement bool_use.Print c = PrintBool c

-- the statement that writes to an entry so
abbrev pub entry_statement : (vector : ℕ) → EntryUse → (index e : IntExpressionTree) → SimpleStatementTree
entry_statement vector entry_use.Set index e = SetEntry vector index e
entry_statement vector (entry_use.Reduce reduction) index e = ReduceEntry vector index reduction e

-- the operation is this one, where so much is kept and so much is shown
abbrev pub IsOperation : (keep shown : Depth) → PlanOperation → OperationTree → Type 0
IsOperation keep shown (op.Value (value_op.Int k used)) o = HasInteger keep k (λ e. Do (int_statement used e)) o
IsOperation keep shown (op.Value (value_op.Bool k used)) o = HasCondition keep k (λ c. Do (bool_statement used c)) o
IsOperation keep shown (op.Value (value_op.AddVertex slot k)) o = HasInteger keep k (λ e. Do (AddVertex slot e)) o
IsOperation keep shown (op.Entry entry) o = HasEntry keep entry.index entry.value (λ i e. Do (entry_statement entry.vector entry.used i e)) o
IsOperation keep shown (op.Set (set_op.DeclareSet name members)) o = o ≡ Do (DeclareSet name (set_value members))
IsOperation keep shown (op.Set (set_op.AssignSet slot members)) o = o ≡ Do (AssignSet slot (set_value members))
IsOperation keep shown (op.Apply (apply_op.ApplyVertices set first None)) o = o ≡ Do (ApplyVertex set first)
IsOperation keep shown (op.Apply (apply_op.ApplyVertices set first (Some second))) o = o ≡ ApplyVerticesTogether set first second
IsOperation keep shown (op.Apply (apply_op.ApplyEdges ends first second)) o = ApplyEdgesOf ends first second o
IsOperation keep shown (op.Control (control_op.Unless k to)) o = HasCondition keep k (λ c. Unless c to) o
IsOperation keep shown (op.Control (control_op.Enter name k)) o = HasInteger shown k (λ e. Enter name e) o
IsOperation keep shown (op.Control (control_op.UnlessBelow name to)) o = o ≡ UnlessBelow name to
IsOperation keep shown (op.Control (control_op.Advance name)) o = o ≡ Advance name
IsOperation keep shown (op.Control control_op.Turn) o = o ≡ Turn
IsOperation keep shown (op.Control (control_op.Jump to)) o = o ≡ Jump to
IsOperation keep shown (op.Control control_op.End) o = o ≡ End

pub record IsInstruction (i : Instruction) (t : InstructionTree) : Type 0 where
  pub number : i.number ≡ t.number
  pub keep : i.keep ≡ t.keep
  pub shown : i.shown ≡ t.shown
  pub apply_schedule : i.apply_schedule ≡ t.apply_schedule
  pub operation : IsOperation i.keep i.shown i.operation t.operation

-- two lists are as long as each other, and the items at the same indices are in a relation
abbrev pub ArePairwise : {A B : Type 0} → (A → B → Type 0) → List A → List B → Type 0
ArePairwise R [] [] = Unit {0}
ArePairwise R [] (y ∷ ys) = ⊥
ArePairwise R (x ∷ xs) [] = ⊥
ArePairwise R (x ∷ xs) (y ∷ ys) = R x y × ArePairwise R xs ys

abbrev pub AreInstructions : List Instruction → List InstructionTree → Type 0
AreInstructions is ts = ArePairwise IsInstruction is ts

-- what runs for an index: the kernel there, or the one that does nothing
abbrev pub kernel_at : {K : Type 0} → Kernels K → ℕ → K
kernel_at ks index = unwrap_or (slice_get ks.at.items index) ks.nothing

-- they are the kernels of a program's functions, also where none is at an index
pub record AreFunctionKernels (f : FunctionKernels) (p : ProgramTree) : Type 0 where
  pub edge : (index : ℕ) → IsEdgeKernel (kernel_at f.edge index) (steps_of (slice_get p.edge_functions index))
  pub vertex : (index : ℕ) → IsVertexCode (kernel_at f.vertex index).code.items (steps_of (slice_get p.vertex_functions index))
  pub filter : (index : ℕ) → IsFilterKernel (kernel_at f.filter index) (steps_of (slice_get p.filters index))
