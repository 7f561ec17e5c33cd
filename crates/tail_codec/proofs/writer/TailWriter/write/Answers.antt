-- Proofs of `write`, src/writer.rt.
use Rattle.std.proofs.Common.{◌≡◌, ℕ, ℤ, Option, List, length, take, sym, ◌∙◌, ap}
use Rattle.ascending_lists.specs.Ascending.{least}
use Rattle.tail_codec.specs.Spelling.{Spells}
use Rattle.tail_codec.specs.inside.Decoding.{entries_over}
use Rattle.tail_codec.specs.inside.Writing.{WritesList}
use Rattle.tail_codec.proofs.Lists.{decoded_list}
use Rattle.tail_codec.proofs.Writing.{few_entries}
use Rattle.tail_codec.proofs.writer.TailWriter.write.Goals as goal

read_back : (base : Option ℕ) (low : ℕ) (es : List (ℕ × ℤ)) (buffer : List ℕ) (len : ℕ) → low ≡ least base → WritesList low es buffer len → entries_over base (take len buffer) ≡ es
read_back base low es buffer len is writes =
    let spells : Spells base es (take len buffer) = rw is at writes.spells in
    decoded_list (least base) es (take len buffer) spells

pub room_for-room-requires : goal.room_for-room-requires
room_for-room-requires c = few_entries (least c.args.base) c.args.entries.now c.requires

pub from_spelling-requires-clause-spelled : goal.from_spelling-requires-clause-spelled
from_spelling-requires-clause-spelled c =
    let w = c.write_list-len in
    rw (read_back c.args.base c.least_over.result c.args.entries.now w.new.buffer w.result c.least_over.ensures.low w.ensures) (rw c.least_over.ensures.low at w.ensures.spells)

pub from_spelling-requires-clause-count : goal.from_spelling-requires-clause-count
from_spelling-requires-clause-count c =
    let w = c.write_list-len in
    c.len-2.ensures ∙ ap length (sym (read_back c.args.base c.least_over.result c.args.entries.now w.new.buffer w.result c.least_over.ensures.low w.ensures))

pub returns : goal.returns
returns c =
    let w = c.write_list-len in
    rw (read_back c.args.base c.least_over.result c.args.entries.now w.new.buffer w.result c.least_over.ensures.low w.ensures) at c.from_spelling.ensures
