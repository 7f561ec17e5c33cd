-- Proofs of `prefix`, src/ctree.rt.
use Rattle.c_tree.proofs.Chunking.{one_prefix}
use Rattle.c_tree.proofs.ctree.CTree.prefix.Goals as goal

pub returns : goal.returns
returns c =
    let s = c.args.self.now in
    one_prefix s.chunk_size s.entries _ _ c.parts.ensures.chunked
