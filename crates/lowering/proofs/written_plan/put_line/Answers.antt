-- Proofs of `put_line`, src/written_plan.rt.
use Rattle.std.proofs.Common.{rules, ◌≡◌, ◌++◌, ◌∷◌, []}
use Rattle.std.proofs.lemmas.Result.{on_ok_weaker}
use Rattle.lowering.proofs.PlanLines.{line_written}
use Rattle.lowering.proofs.written_plan.put_line.Goals as goal

pub returns : goal.returns
returns c =
    let space : c.push.new.self.items ≡ c.push_number.new.out.items ++ 32 ∷ [] = search rules in
    let words : c.extend_from_slice.new.self.items ≡ c.push.new.self.items ++ c.args.instruction.now.words.items = search rules in
    on_ok_weaker c.end_line.result (λ ends p t written.
    line_written p c.args.index c.args.instruction.now t c.args.text.now.items c.push_number.new.out.items c.push.new.self.items c.extend_from_slice.new.self.items c.put_target.new.text.items
    c.end_line.new.out.items written c.in_ok-push_number.ensures.ok space words c.in_ok-put_target.ensures ends)
    c.end_line.ensures
