-- Proofs of `from_ascending`, src/building.rt.
use Rattle.std.proofs.Common.{◌≡◌, ◌∙◌, ap, arith}
use Rattle.std.specs.Map.{keys_of}
use Rattle.ascending_lists.specs.Ascending.{least}
use Rattle.ascending_lists.proofs.Ascending.{ascends_from}
use Rattle.tail_codec.specs.Spelling.{BasedList}
use Rattle.c_tree.specs.Chunks.{ChunkedSet, before_head, chunks_of}
use Rattle.c_tree.proofs.Chunking.{before_from_head, chunks_from_head}
use Rattle.c_tree.proofs.Making.{before_ascends, ascends_from_head, chunks_map, made, made_whole}
use Rattle.c_tree.proofs.part.Part.from_ascending.Goals as goal

pub write-requires : goal.write-requires
write-requires c = rw c.split_at_head-front.ensures.front (before_ascends c.args.chunk_size (least c.args.base) c.args.entries.now c.requires)

pub write_chunks-requires-clause-ascending : goal.write_chunks-requires-clause-ascending
write_chunks-requires-clause-ascending c =
    let es = c.args.entries.now in
    rw c.split_at_head-front.ensures.rest (ascends_from_head c.args.chunk_size 0 es (ascends_from 0 (least c.args.base) (keys_of es) (omega arith) c.requires))

pub write_chunks-requires-clause-cut : goal.write_chunks-requires-clause-cut
write_chunks-requires-clause-cut c = rw c.split_at_head-front.ensures.rest (before_from_head c.args.chunk_size c.args.entries.now)

pub from_ascending-requires : goal.from_ascending-requires
from_ascending-requires c =
    let b = c.args.chunk_size in
    let es = c.args.entries.now in
    let items : c.in_ok-chunks.chunks.items ≡ chunks_of b es =
    c.in_ok-chunks.ensures ∙ ap (chunks_of b) c.split_at_head-front.ensures.rest ∙ chunks_from_head b es in
    rw items (chunks_map b es (ascends_from 0 (least c.args.base) (keys_of es) (omega arith) c.requires))

pub new-requires : goal.new-requires
new-requires c =
    let b = c.args.chunk_size in
    let es = c.args.entries.now in
    let items : c.in_ok-chunks-2.chunks.entries ≡ chunks_of b es =
    c.in_ok-chunks-2.ensures ∙ c.in_ok-chunks.ensures ∙ ap (chunks_of b) c.split_at_head-front.ensures.rest ∙ chunks_from_head b es in
    let front : c.in_ok-prefix.prefix.entries ≡ before_head b es = ap (λ (t : BasedList). t.entries) c.in_ok-prefix.ensures ∙ c.split_at_head-front.ensures.front in
    made b es c.in_ok-prefix.prefix c.in_ok-chunks-2.chunks.entries front items (ascends_from 0 (least c.args.base) (keys_of es) (omega arith) c.requires)

pub returns : goal.returns
returns c =
    let b = c.args.chunk_size in
    let es = c.args.entries.now in
    let items : c.in_ok-chunks-2.chunks.entries ≡ chunks_of b es =
    c.in_ok-chunks-2.ensures ∙ c.in_ok-chunks.ensures ∙ ap (chunks_of b) c.split_at_head-front.ensures.rest ∙ chunks_from_head b es in
    let front : c.in_ok-prefix.prefix.entries ≡ before_head b es = ap (λ (t : BasedList). t.entries) c.in_ok-prefix.ensures ∙ c.split_at_head-front.ensures.front in
    record {
      entries = ap (λ (s : ChunkedSet). s.entries) c.new.ensures ∙ made_whole b es c.in_ok-prefix.prefix c.in_ok-chunks-2.chunks.entries front items;
      chunk_size = ap (λ (s : ChunkedSet). s.chunk_size) c.new.ensures;
    }
