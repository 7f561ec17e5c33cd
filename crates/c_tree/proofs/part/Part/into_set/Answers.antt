-- Proofs of `into_set`, src/part.rt.
use Rattle.c_tree.specs.inside.Chunks.{entries_of}
use Rattle.c_tree.proofs.Making.{keys_front}
use Rattle.c_tree.proofs.part.Part.into_set.Goals as goal

pub over-requires : goal.over-requires
over-requires c =
    let p = c.into_parts-prefix.result in
    keys_front 0 p.0.entries (entries_of p.1.entries) c.into_parts-prefix.ensures.part.ascending
