-- A step of a run, and a step of the machine.
use Rattle.std.proofs.Common.{◌≡◌, ℕ, ◌<◌, List, [], ◌∷◌, ◌++◌, reverse, Option, Some, None, slice_get, refl, sym, ap, ◌∙◌, subst, arith}
use Rattle.std.proofs.Math.Bridge.{le_prop}
use Rattle.std.proofs.Math.Logic.{∥∥₁_elim}
use Rattle.std.proofs.lemmas.List.{reverse-append}
use Rattle.typed_tree.specs.declared.expression.VarRef.{VarRef}
use Rattle.typed_tree.specs.BlockTree.{ApplyVertex}
use Rattle.typed_tree.specs.ProgramTree.{ProgramTree}
use Rattle.algorithm_meaning.specs.declared.outcome.End.{End as Ending}
use Rattle.algorithm_meaning.specs.State.{GraphValue, StateValue}
use Rattle.algorithm_meaning.specs.Statements.{with_new_integer}
use Rattle.apply_options.specs.ScheduleTree.{ScheduleTree}
use Rattle.algorithm_meaning.specs.declared.state.LoopCounter.{LoopCounter}
use Rattle.algorithm_meaning.specs.declared.state.Depth.{Depth}
use Rattle.plans.specs.Bound.{most_steps}
use Rattle.plans.specs.Fused.{FitTogether}
use Rattle.plans.specs.Instruction.{ApplyVerticesTogether, Do, InstructionTree, OperationTree}
use Rattle.algorithm_meaning.specs.Loop.{forget_beyond, next_of}
use Rattle.plans.specs.Machine.{Configuration, At, act, act_at, after_advance, step}
use Rattle.plans.specs.Plan.{plan_of}
use Rattle.plans.specs.PlanOf.{IsPlan, program_of}
use Rattle.plans.proofs.Reaching.{is_inside}
use Rattle.plans.proofs.Whole.{steps_lower}
use Rattle.plans.specs.inside.Outline.{most_steps_of}
use Rattle.plans.specs.declared.instruction.Instruction.{Instruction}
use Rattle.plans.specs.declared.operation.PlanOperation.TheVariants as op
use Rattle.plans.specs.declared.operation.ApplyOperation.TheVariants as apply_op
use Rattle.plans.specs.declared.plan.Plan.{Plan}
use Rattle.plans.specs.Operation.{IsInstruction, IsOperation}
use Rattle.plans.proofs.Bounds.{same_bound}
use Rattle.runner.specs.declared.flow.Flow.TheVariants.{Next}
use Rattle.runner.specs.declared.memory.Memory.{Memory}
use Rattle.run_state.specs.State.{RunState, with_state}
use Rattle.runner.specs.inside.Done.{AreLevel, HasDone}
use Rattle.runner.specs.inside.Position.{position}
use Rattle.runner.specs.Resting.{kept_at, resting}
use Rattle.runner.proofs.Kept.{as_many_left, forgotten_twice}
use Rattle.runner.proofs.Partners.{partner_at}

-- to act on what is kept is to step
pub act_steps : (p : ProgramTree) (g : GraphValue) (plan : List InstructionTree) (index : ℕ) (loops : List LoopCounter) (s t : StateValue) (i : Instruction) (tree : InstructionTree)
    → slice_get plan index ≡ Some tree → IsInstruction i tree → t ≡ forget_beyond i.keep s
    → act p g tree.operation i.number i.shown index loops t ≡ step p g plan (At index loops s)
act_steps p g plan index loops s t i tree at is kept =
    ap (λ (u : StateValue). act p g tree.operation i.number i.shown index loops u) kept
    ∙ ((λ j. act p g tree.operation (is.number j) (is.shown j) index loops (forget_beyond (is.keep j) s))
    ∙ sym (ap (λ (o : Option InstructionTree). act_at p g o index loops s) at))

-- what stands level with the next step of a plan has fewer steps left
pub level_falls : (plan : Plan) (g : GraphValue) (index : ℕ) (loops : List LoopCounter) (s : StateValue) (i : Instruction) (next : Configuration)
    → slice_get plan.instructions.items index ≡ Some i
    → ((p : ProgramTree) (schedule : ScheduleTree) → IsPlan plan p schedule → AreLevel next (step p g (plan_of p schedule) (At index loops s)))
    → most_steps_of plan.instructions.items next < most_steps_of plan.instructions.items (At index loops s)
level_falls plan g index loops s i next found level =
    ∥∥₁_elim plan.lowered le_prop (λ of.
    let p = program_of plan in
    let ts = plan_of p of.schedule in
    let is = plan.instructions.items in
    let are = of.planned.instructions in
    let now = At index loops s in
    let partner = partner_at IsInstruction is ts index i are found in
    let inside = is_inside ts index partner.partner partner.is_there in
    let fewer = steps_lower p of.schedule g now inside in
    let before : most_steps_of is now ≡ most_steps ts now = same_bound is ts are now in
    let after : most_steps_of is next ≡ most_steps ts (step p g ts now) = same_bound is ts are next ∙ as_many_left ts next (step p g ts now) (level p of.schedule of.planned) in
    omega (arith, before, after, fewer))

-- the innermost loop is the last
pub reverse_last : (xs : List LoopCounter) (x : LoopCounter) → reverse (xs ++ x ∷ []) ≡ x ∷ reverse xs
reverse_last xs x = reverse-append xs (x ∷ [])

-- the innermost loop goes on
pub loop_goes_on : (here : ℕ) (loops old new : List LoopCounter) (x : LoopCounter) (s : StateValue) → old ≡ loops ++ x ∷ [] → new ≡ loops ++ next_of x ∷ []
    → At here (reverse new) (with_new_integer (with_new_integer s (next_of x).next) (next_of x).end) ≡ after_advance here (reverse old) s
loop_goes_on here loops old new x s was is =
    ap (λ (ls : List LoopCounter). At here ls (with_new_integer (with_new_integer s (next_of x).next) (next_of x).end)) (ap reverse is ∙ reverse_last loops (next_of x))
    ∙ sym (ap (λ (ls : List LoopCounter). after_advance here ls s) (ap reverse was ∙ reverse_last loops x))

-- an apply of one vertex function, or of two
pub vertices_done : (i : Instruction) (old new : Memory) (p : ProgramTree) (g : GraphValue) (keep shown : Depth) (set : VarRef) (first : ℕ) (second : Option ℕ) (t : OperationTree)
    → IsOperation keep shown (op.Apply (apply_op.ApplyVertices set first second)) t → FitTogether p t
    → (second ≡ None → HasDone i Next old new p g (Do (ApplyVertex set first)))
    → ((index : ℕ) → second ≡ Some index → FitTogether p (ApplyVerticesTogether set first index) → HasDone i Next old new p g (ApplyVerticesTogether set first index))
    → HasDone i Next old new p g t
vertices_done i old new p g keep shown set first None t is fit one two = subst (λ (o : OperationTree). HasDone i Next old new p g o) (sym is) (one refl)
vertices_done i old new p g keep shown set first (Some index) t is fit one two =
    subst (λ (o : OperationTree). HasDone i Next old new p g o) (sym is) (two index refl (subst (λ (o : OperationTree). FitTogether p o) is fit))

-- at the next index, in a state that was made of another
pub stands : (index : ℕ) (loops : List LoopCounter) (r new : RunState) (s : StateValue) → new ≡ with_state r s → At index loops new.state ≡ At index loops s
stands index loops r new s made = ap (λ (t : RunState). At index loops t.state) made

-- a run that goes on rests where it would if what its instruction does not see were forgotten
pub rests : (is : List Instruction) (end : Option Ending) (index : ℕ) (loops : List LoopCounter) (s t : StateValue) (i : Instruction) (new : Configuration)
    → slice_get is index ≡ Some i → t ≡ forget_beyond i.keep s → end ≡ None → new ≡ position end index loops t → resting is new ≡ resting is (position end index loops s)
rests is end index loops s t i new found kept going stays =
    ap (resting is) (stays ∙ ap (λ (e : Option Ending). position e index loops t) going)
    ∙ (ap (λ (o : Option Instruction). kept_at o index loops t) found
    ∙ (ap (λ (u : StateValue). At index loops (forget_beyond i.keep u)) kept
    ∙ (ap (λ (u : StateValue). At index loops u) (forgotten_twice i.keep s)
    ∙ (sym (ap (λ (o : Option Instruction). kept_at o index loops s) found)
    ∙ sym (ap (λ (e : Option Ending). resting is (position e index loops s)) going)))))
