-- Proofs of `lower`, src/plan.rt.
use Rattle.std.proofs.Common.{◌≡◌, ap, subst, sym, ℕ, List, rules}
use Rattle.std.proofs.lemmas.Grind.{merely}
use Rattle.typed_tree.specs.declared.program.Vector.{Vector}
use Rattle.typed_tree.specs.ProgramTree.{ProgramTree, program_tree}
use Rattle.apply_options.specs.ScheduleTree.{ScheduleTree}
use Rattle.plans.specs.declared.functions.FunctionKernels.{FunctionKernels}
use Rattle.plans.specs.declared.instruction.Instruction.{Instruction}
use Rattle.plans.specs.Plan.{plan_of, ArePartsOf}
use Rattle.plans.specs.inside.Lowered.{AreLowered}
use Rattle.plans.specs.Operation.{AreInstructions}
use Rattle.lowering.proofs.PlanLines.{written_instructions}
use Rattle.lowering.proofs.plan.lower.Goals as goal

-- parts of the plan of a program are those of the plan that knows it
known : (is : List Instruction) (f : FunctionKernels) (vs : List Vector) (ss : List ℕ) (ns gs : List (List ℕ)) (p q : ProgramTree) (s : ScheduleTree) → q ≡ p → ArePartsOf is f vs ss ns gs p s
    → AreLowered is f vs ss ns gs q
known is f vs ss ns gs p q s same parts = record { schedule = s; planned = subst (λ (r : ProgramTree). ArePartsOf is f vs ss ns gs r s) (sym same) parts }

pub invariant_of-result : goal.invariant_of-result
invariant_of-result c =
    let p = program_tree c.args.program.now in
    let s = c.args.schedule.now in
    let code : AreInstructions c.in_ok-instructions.instructions.items (plan_of p s) = written_instructions p _ _ c.in_ok-instructions.ensures in
    let parts : ArePartsOf c.in_ok-instructions.instructions.items c.in_ok-functions.functions c.in_ok-vectors.vectors.items c.in_ok-sets.sets.items c.in_ok-names.names.items
    c.in_ok-groups.groups.items p s =
    search rules in
    record { lowered = merely (known _ _ _ _ _ _ p (program_tree c.of-2.result.value) s (ap program_tree c.of-2.ensures) parts) }

pub returns-clause-plan : goal.returns-clause-plan
returns-clause-plan c =
    let p = program_tree c.args.program.now in
    let s = c.args.schedule.now in
    let code : AreInstructions c.in_ok-instructions.instructions.items (plan_of p s) = written_instructions p _ _ c.in_ok-instructions.ensures in
    search rules
