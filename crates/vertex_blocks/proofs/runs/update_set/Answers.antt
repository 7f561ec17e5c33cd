-- Proofs of `update_set`, src/runs.rt.
use Rattle.std.proofs.Common.{◌∙◌}
use Rattle.std.proofs.lemmas.Result.{IfOk-weaker}
use Rattle.vertex_blocks.proofs.Decisions.{set_updated}
use Rattle.vertex_blocks.proofs.runs.update_set.Goals as goal

pub returns : goal.returns
returns c =
    IfOk-weaker c.remove_ascending.result _ _
    (λ t is. set_updated t c.args.set.now c.in_ok-grown.grown c.lent.result c.deref.result.now c.args.updates.now c.len.ensures.valid.ascending c.requires (c.lent.ensures ∙ c.in_ok-added.ensures.added)
    (c.deref.ensures.value ∙ c.in_ok-added.ensures.removed) c.in_ok-grown.ensures is)
    c.remove_ascending.ensures
