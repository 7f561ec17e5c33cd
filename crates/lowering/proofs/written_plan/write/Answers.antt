-- Proofs of `write`, src/written_plan.rt.
use Rattle.std.proofs.Common.{rules, ◌≡◌, ◌<◌, List, length, get_or}
use Rattle.plans.specs.declared.instruction.Instruction.{Instruction}
use Rattle.lowering.specs.Text.{text_of}
use Rattle.lowering.proofs.PlanLines.{writes_next}
use Rattle.lowering.proofs.written_plan.write.Goals as goal

pub instructions-preserved : goal.instructions-preserved
instructions-preserved c = λ p s has.
    let is : List Instruction = c.args.plan.now.instructions.items in
    let index = c.instructions.index in
    let here : Instruction = c.instruction-item.result in
    let inside : index < length is = search rules in
    let item : here ≡ get_or is index here = search rules in
    writes_next p is index c.instructions.text.items c.put_line.new.text.items (text_of p s) here inside item
    (c.instructions.invariant p s has) (c.in_ok-put_line.ensures p)
