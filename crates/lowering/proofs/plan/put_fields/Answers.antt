-- Proofs of `put_fields`, src/plan.rt.
use Rattle.std.proofs.lemmas.Result.{on_ok_weaker}
use Rattle.typed_tree.specs.ProgramTree.{program_tree}
use Rattle.plan_text.specs.Lines.{group_words}
use Rattle.plan_text.proofs.Spaces.{absurd_cons}
use Rattle.lowering.proofs.plan.put_fields.Goals as goal

pub returns : goal.returns
returns c =
    on_ok_weaker c.end_line.result (λ ends.
    ends c.args.fields.now.items (group_words (program_tree c.args.lines.program.now) c.args.vectors.now) (absurd_cons _ _) c.in_ok-put_group.ensures)
    c.end_line.ensures
