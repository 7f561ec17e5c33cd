use Rattle.typed_tree.specs.ProgramTree.{ProgramTree}
use Rattle.apply_options.specs.ScheduleTree.{ScheduleTree}
use Rattle.lowering.specs.Text.{HasText, text_of}
use Rattle.lowering.proofs.PlanLines.{Writes}
use Rattle.lowering.proofs.written_plan.write.Given as goal

-- with the lines that are left it is the text of the plan
abbrev pub invariant-instructions : goal.invariant-instructions
invariant-instructions l =
    (p : ProgramTree) (s : ScheduleTree) → HasText l.plan p s → Writes p l.plan.instructions.items l.index l.text.items (text_of p s)
