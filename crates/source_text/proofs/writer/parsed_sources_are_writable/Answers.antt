-- Proofs of `parsed_sources_are_writable`, src/writer.rt.
use Rattle.source_text.proofs.ReadBack.{parsed-IsWritable}
use Rattle.source_text.proofs.writer.parsed_sources_are_writable.Goals as goal

pub returns : goal.returns
returns c = parsed-IsWritable
