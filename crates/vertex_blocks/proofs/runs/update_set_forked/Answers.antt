-- Proofs of `update_set_forked`, src/runs.rt.
use Rattle.std.proofs.Common.{None, ◌∙◌, ap}
use Rattle.std.specs.Map.{keys_of}
use Rattle.tail_codec.proofs.Columns.{keys_in}
use Rattle.std.proofs.lemmas.Result.{IfOk-weaker}
use Rattle.vertex_blocks.proofs.Decisions.{set_updated}
use Rattle.vertex_blocks.proofs.runs.update_set_forked.Goals as goal

pub make_set-requires-2 : goal.make_set-requires-2
make_set-requires-2 g c = rw (c.of_keys.ensures, keys_in c.deref.result.now None tt, c.deref.ensures.value) c.in_ok-added.ensures.removed_ascend

pub returns : goal.returns
returns g c =
    let fewer = ap keys_of (c.in_ok-fewer.ensures.entries ∙ c.of_keys.ensures) ∙ keys_in c.deref.result.now None tt ∙ c.deref.ensures.value ∙ c.in_ok-added.ensures.removed in
    IfOk-weaker c.same_size_difference_forked.result _ _
    (λ t is. set_updated t c.args.set.now c.in_ok-grown.grown c.in_ok-more.more.entries (keys_of c.in_ok-fewer.fewer.entries) c.args.updates.now c.len.ensures.valid.ascending c.requires
    (c.in_ok-more.ensures.entries ∙ c.lent.ensures ∙ c.in_ok-added.ensures.added) fewer c.in_ok-grown.ensures is)
    c.same_size_difference_forked.ensures
