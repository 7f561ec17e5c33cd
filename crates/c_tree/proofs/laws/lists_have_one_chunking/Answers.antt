-- Proofs of `lists_have_one_chunking`, src/laws.rt.
use Rattle.c_tree.proofs.Chunking.{whole_again, chunking, one_prefix, one_chunks}
use Rattle.c_tree.proofs.laws.lists_have_one_chunking.Goals as goal

pub returns : goal.returns
returns c = record {
  whole = whole_again;
  chunked = chunking;
  once = λ b xs prefix chunks is. (one_prefix b xs prefix chunks is, one_chunks b xs prefix chunks is);
}
