-- Instructions of a run, each as a change of its state.
use Rattle.std.specs.Prelude.{◌≡◌, ℕ, ◌+◌, List}
use Rattle.typed_tree.specs.ProgramTree.{ProgramTree}
use Rattle.algorithm_meaning.specs.State.{StateValue, GraphValue}
use Rattle.algorithm_meaning.specs.declared.state.Depth.{Depth}
use Rattle.algorithm_meaning.specs.Loop.{forget_beyond}
use Rattle.algorithm_meaning.specs.declared.state.LoopCounter.{LoopCounter}
use Rattle.plans.specs.Machine.{Configuration, At, Ended, faulty, act}
use Rattle.plans.specs.declared.operation.PlanOperation.{PlanOperation}
use Rattle.plans.specs.Operation.{IsFor, AreFunctionKernels}
use Rattle.plans.specs.declared.functions.FunctionKernels.{FunctionKernels}
use Rattle.plans.specs.Instruction.{OperationTree}
use Rattle.plans.specs.declared.instruction.Instruction.{Instruction}
use Rattle.plans.specs.declared.operation.PlanOperation.TheVariants as op
use Rattle.plans.specs.declared.operation.ValueOperation.TheVariants as value_op
use Rattle.plans.specs.declared.operation.ControlOperation.TheVariants as control_op
use Rattle.runner.specs.declared.flow.Flow.{Flow}
use Rattle.runner.specs.declared.memory.Memory.{Memory}
use Rattle.runner.specs.inside.Position.{loops_of}
use Rattle.runner.specs.declared.flow.Flow.TheVariants as flow

-- nothing is there beyond this
abbrev pub IsKept : Depth → StateValue → Type 0
IsKept d s = forget_beyond d s ≡ s

-- the configuration of a run after an instruction at an index
abbrev pub after_flow : Flow → (number : ℕ) → (shown : Depth) → (index : ℕ) → List LoopCounter → StateValue → Configuration
after_flow flow.Next number shown index loops s = At (index + 1) loops s
after_flow (flow.Goto to) number shown index loops s = At to loops s
after_flow flow.Fault number shown index loops s = faulty number shown s
after_flow (flow.Ended end) number shown index loops s = Ended (forget_beyond shown s) end

-- its kernels are made for what is visible
abbrev pub IsReady : (keep shown : Depth) → PlanOperation → Type 0
IsReady keep shown (op.Value (value_op.Int k used)) = IsFor keep k
IsReady keep shown (op.Value (value_op.Bool k used)) = IsFor keep k
IsReady keep shown (op.Value (value_op.AddVertex slot k)) = IsFor keep k
IsReady keep shown (op.Entry entry) = IsFor keep entry.index × IsFor keep entry.value
IsReady keep shown (op.Set set) = Unit {0}
IsReady keep shown (op.Apply apply) = Unit {0}
IsReady keep shown (op.Control (control_op.Unless k to)) = IsFor keep k
IsReady keep shown (op.Control (control_op.Enter name k)) = IsFor shown k
IsReady keep shown (op.Control (control_op.UnlessBelow name to)) = Unit {0}
IsReady keep shown (op.Control (control_op.Advance name)) = Unit {0}
IsReady keep shown (op.Control control_op.Turn) = Unit {0}
IsReady keep shown (op.Control (control_op.Jump to)) = Unit {0}
IsReady keep shown (op.Control control_op.End) = Unit {0}

-- they are the kernels of some program's functions
pub record HaveTrees (f : FunctionKernels) : Type 0 where
  pub program : ProgramTree
  pub are : AreFunctionKernels f program

-- an operation is done, and the run continues so, wherever the instruction stands
abbrev pub HasDone : Instruction → Flow → (old new : Memory) → ProgramTree → GraphValue → OperationTree → Type 0
HasDone i f old new p g t = (index : ℕ)
    → after_flow f i.number i.shown index (loops_of new) new.state.state ≡ act p g t i.number i.shown index (loops_of old) old.state.state

-- the state and the loops are as they were
pub record IsAsBefore (old new : Memory) : Type 0 where
  pub state : new.state ≡ old.state
  pub loops : new.loops.items ≡ old.loops.items

-- two runs are before the same index with as many turns left, or have both ended
abbrev pub AreLevel : Configuration → Configuration → Type 0
AreLevel (At index loops s) (At index' loops' s') = (index ≡ index') × (s.turns ≡ s'.turns)
AreLevel (At index loops s) (Ended s' end) = ⊥
AreLevel (Ended s end) (At index loops s') = ⊥
AreLevel (Ended s end) (Ended s' end') = Unit {0}

-- the run continues where the operation leads, with as many turns left
abbrev pub IsLevel : Instruction → Flow → (old new : Memory) → ProgramTree → GraphValue → OperationTree → Type 0
IsLevel i f old new p g t = (index : ℕ)
    → AreLevel (after_flow f i.number i.shown index (loops_of new) new.state.state) (act p g t i.number i.shown index (loops_of old) old.state.state)
