-- Proofs of `write_list`, src/packed_list.rt.
use Rattle.std.proofs.Common.{arith}
use Rattle.pages.proofs.PackedLists.{list_written, is_packed}
use Rattle.pages.proofs.packed_list.write_list.Goals as goal

pub returns-clause-packed : goal.returns-clause-packed
returns-clause-packed c =
    is_packed c.args.width c.args.weight_width c.write.new.bytes c.write_weights.new.bytes c.args.keys.now c.requires.some c.write.ensures.list c.write_weights.ensures.front c.requires.width
    c.requires.few c.requires.ascending (omega (arith, c.requires.room, c.write.auto.bytes, c.write_weights.auto.bytes))

pub returns-clause-list : goal.returns-clause-list
returns-clause-list c =
    list_written c.args.width c.args.weight_width c.write.new.bytes c.write_weights.new.bytes c.args.keys.now c.requires.some c.write.ensures.list c.write_weights.ensures.front c.args.weights.now
    c.write_weights.ensures.weights
