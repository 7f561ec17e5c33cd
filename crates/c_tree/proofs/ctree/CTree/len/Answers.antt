-- Proofs of `len`, src/ctree.rt.
use Rattle.tail_codec.proofs.Writing.{few_entries}
use Rattle.c_tree.specs.inside.Chunks.{together}
use Rattle.c_tree.proofs.ctree.CTree.len.Goals as goal

pub returns-clause-bounded : goal.returns-clause-bounded
returns-clause-bounded c =
    let t = c.self.inside in
    rw c.self.invariant.0.count (few_entries 0 (together t.prefix t.chunks.entries) c.self.invariant.0.part.ascending)
