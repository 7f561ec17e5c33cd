-- Proofs of `len`, src/view.rt.
use Rattle.std.proofs.Common.{length, ap, ◌∙◌}
use Rattle.tail_codec.proofs.Writing.{few_entries}
use Rattle.c_tree.specs.Chunks.{ChunkedSet}
use Rattle.c_tree.specs.inside.Chunks.{together}
use Rattle.c_tree.proofs.view.View.len.Goals as goal

pub total_len-requires : goal.total_len-requires
total_len-requires c =
    let v = c.self.inside in
    rw c.new.ensures.heads (few_entries 0 (together v.prefix.now v.chunks.now.entries) c.self.invariant.ascending)

pub returns : goal.returns
returns c =
    let v = c.self.inside in
    c.total_len.ensures ∙ ap (λ cs. length (together v.prefix.now cs)) c.new.ensures.heads ∙ ap (λ (s : ChunkedSet). length s.entries) c.self.view_is
