-- Proofs of `heads`, src/view.rt.
use Rattle.std.proofs.Common.{sym, ap, ◌∙◌}
use Rattle.c_tree.specs.Chunks.{ChunkedSet, chunks_of}
use Rattle.c_tree.proofs.Chunking.{chunks_together}
use Rattle.c_tree.proofs.view.View.heads.Goals as goal

pub returns : goal.returns
returns c =
    let p = c.self.inside in
    c.new.ensures.heads ∙ sym (chunks_together p.chunk_size p.prefix.now p.chunks.now.entries c.self.invariant.front c.self.invariant.each)
    ∙ ap (λ (s : ChunkedSet). chunks_of s.chunk_size s.entries) c.self.view_is
