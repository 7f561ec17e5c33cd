-- Proofs of `heads`, src/ctree.rt.
use Rattle.std.proofs.Common.{◌∙◌}
use Rattle.c_tree.proofs.Chunking.{one_chunks}
use Rattle.c_tree.proofs.ctree.CTree.heads.Goals as goal

pub returns-clause-heads : goal.returns-clause-heads
returns-clause-heads c =
    let s = c.args.self.now in
    c.new.ensures.heads ∙ one_chunks s.chunk_size s.entries _ _ c.parts.ensures.chunked

pub returns-clause-bounded : goal.returns-clause-bounded
returns-clause-bounded c =
    let s = c.args.self.now in
    let cut = one_chunks s.chunk_size s.entries _ _ c.parts.ensures.chunked in
    rw (← cut) c.new.ensures.bounded
