-- Proofs of `iter`, src/ctree.rt.
use Rattle.tail_codec.proofs.Writing.{few_entries}
use Rattle.c_tree.proofs.ctree.CTree.iter.Goals as goal

pub returns-clause-bounded : goal.returns-clause-bounded
returns-clause-bounded c = few_entries 0 c.args.self.now.entries c.parts.ensures.valid.ascending
