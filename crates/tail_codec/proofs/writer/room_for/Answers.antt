-- Proofs of `room_for`, src/writer.rt.
use Rattle.std.proofs.Common.{arith}
use Rattle.tail_codec.proofs.Writing.{list_room_small, list_room_ones}
use Rattle.tail_codec.proofs.writer.room_for.Goals as goal

pub returns-then-has_only_ones : goal.returns-then-has_only_ones
returns-then-has_only_ones c = omega (arith, c.len.ensures, list_room_ones c.args.entries.now (c.has_only_ones.ensures c.if-has_only_ones.true))

pub returns : goal.returns
returns c = omega (arith, c.len-2.ensures, list_room_small c.args.entries.now)
