-- Proofs of `update_list`, src/runs.rt.
use Rattle.std.proofs.Common.{sym, ◌∙◌}
use Rattle.std.proofs.lemmas.Result.{IfOk-weaker}
use Rattle.vertex_blocks.proofs.Decisions.{updated_nothing}
use Rattle.vertex_blocks.proofs.runs.update_list.Goals as goal

pub returns-then-is_empty-clause-list : goal.returns-then-is_empty-clause-list
returns-then-is_empty-clause-list c =
    rw (c.is_empty.ensures.0 c.if-is_empty.true) (IfOk-weaker c.collect_added.result _ _ (λ t is. is ∙ sym (updated_nothing c.args.updates.now)) c.collect_added.ensures.list)
