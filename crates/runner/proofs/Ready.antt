-- What the kernels of a plan are made for.
use Rattle.std.proofs.Common.{◌≡◌, ℕ, Some, slice_get, refl, sym, subst}
use Rattle.std.proofs.Math.Logic.{∥∥₁_elim, ∥∥₁_map}
use Rattle.std.proofs.Math.Nat.{ℕ_set}
use Rattle.algorithm_meaning.specs.Function.{steps_of}
use Rattle.kernels.specs.declared.expression.ExpressionKernel.{ExpressionKernel}
use Rattle.kernels.specs.declared.vertex_kernel.VertexKernel.{VertexKernel}
use Rattle.kernels.specs.Meaning.{IsVertexCode}
use Rattle.algorithm_meaning.specs.declared.state.Depth.{Depth}
use Rattle.plans.specs.Instruction.{OperationTree}
use Rattle.plans.specs.Plan.{plan_of}
use Rattle.plans.specs.PlanOf.{program_of}
use Rattle.plans.specs.declared.functions.FunctionKernels.{FunctionKernels}
use Rattle.plans.specs.declared.instruction.Instruction.{Instruction}
use Rattle.plans.specs.declared.operation.PlanOperation.{PlanOperation}
use Rattle.plans.specs.declared.operation.PlanOperation.TheVariants as op
use Rattle.plans.specs.declared.operation.ValueOperation.TheVariants as value_op
use Rattle.plans.specs.declared.operation.ControlOperation.TheVariants as control_op
use Rattle.plans.specs.declared.plan.Plan.{Plan}
use Rattle.plans.specs.Operation.{kernel_at, IsFor, IsInstruction, IsOperation}
use Rattle.run_state.specs.VertexKernels.{IsVertexKernel}
use Rattle.runner.specs.inside.Done.{HaveTrees, IsReady}
use Rattle.runner.proofs.Partners.{partner_at}

-- an operation of a tree is ready
ready : (keep shown : Depth) (o : PlanOperation) (t : OperationTree) → IsOperation keep shown o t → IsReady keep shown o
ready keep shown (op.Value (value_op.Int k used)) t is = is.visible
ready keep shown (op.Value (value_op.Bool k used)) t is = is.visible
ready keep shown (op.Value (value_op.AddVertex slot k)) t is = is.visible
ready keep shown (op.Entry entry) t is = (is.index_visible, is.value_visible)
ready keep shown (op.Set set) t is = tt
ready keep shown (op.Apply apply) t is = tt
ready keep shown (op.Control (control_op.Unless k to)) t is = is.visible
ready keep shown (op.Control (control_op.Enter name k)) t is = is.visible
ready keep shown (op.Control (control_op.UnlessBelow name to)) t is = tt
ready keep shown (op.Control (control_op.Advance name)) t is = tt
ready keep shown (op.Control control_op.Turn) t is = tt
ready keep shown (op.Control (control_op.Jump to)) t is = tt
ready keep shown (op.Control control_op.End) t is = tt

-- there is one proof of it at most
for_once : (d : Depth) (k : ExpressionKernel) (x y : IsFor d k) → x ≡ y
for_once d k x y = λ i. record { integers = ℕ_set _ _ x.integers y.integers i; conditions = ℕ_set _ _ x.conditions y.conditions i }

ready_once : (keep shown : Depth) (o : PlanOperation) (x y : IsReady keep shown o) → x ≡ y
ready_once keep shown (op.Value (value_op.Int k used)) x y = for_once keep k x y
ready_once keep shown (op.Value (value_op.Bool k used)) x y = for_once keep k x y
ready_once keep shown (op.Value (value_op.AddVertex slot k)) x y = for_once keep k x y
ready_once keep shown (op.Entry entry) x y = λ i. (for_once keep entry.index x.0 y.0 i, for_once keep entry.value x.1 y.1 i)
ready_once keep shown (op.Set set) x y = refl
ready_once keep shown (op.Apply apply) x y = refl
ready_once keep shown (op.Control (control_op.Unless k to)) x y = for_once keep k x y
ready_once keep shown (op.Control (control_op.Enter name k)) x y = for_once shown k x y
ready_once keep shown (op.Control (control_op.UnlessBelow name to)) x y = refl
ready_once keep shown (op.Control (control_op.Advance name)) x y = refl
ready_once keep shown (op.Control control_op.Turn) x y = refl
ready_once keep shown (op.Control (control_op.Jump to)) x y = refl
ready_once keep shown (op.Control control_op.End) x y = refl

-- so each instruction of a plan is
pub instruction_ready : (plan : Plan) (index : ℕ) (i : Instruction) → slice_get plan.instructions.items index ≡ Some i → IsReady i.keep i.shown i.operation
instruction_ready plan index i found =
    ∥∥₁_elim plan.lowered (ready_once i.keep i.shown i.operation) (λ of.
    let partner = partner_at IsInstruction plan.instructions.items (plan_of (program_of plan) of.schedule) index i of.planned.instructions found in
    ready i.keep i.shown i.operation partner.partner.operation partner.related.operation)

pub functions_known : (plan : Plan) → ∥ HaveTrees plan.functions ∥₁
functions_known plan = ∥∥₁_map plan.lowered (λ of. record { program = program_of plan; are = of.planned.functions })

-- each vertex kernel of a plan is that of a function
pub vertex_kernel : (f : FunctionKernels) (index : ℕ) (k : VertexKernel) → k ≡ kernel_at f.vertex index → ∥ HaveTrees f ∥₁ → ∥ IsVertexKernel k ∥₁
vertex_kernel f index k is known =
    ∥∥₁_map known (λ h. record {
      steps = steps_of (slice_get h.program.vertex_functions index);
      code = subst (λ (z : VertexKernel). IsVertexCode z.code.items (steps_of (slice_get h.program.vertex_functions index))) (sym is) (h.are.vertex index);
    })
