use Rattle.std.proofs.Common.{◌≡◌, ◌+◌, ◌≤◌, take, drop}
use Rattle.std.specs.Map.{keys_of}
use Rattle.tail_codec.specs.Appending.{least_after}
use Rattle.tail_codec.specs.Spelling.{SpellsFrom}
use Rattle.tail_codec.specs.inside.Writing.{list_room}
use Rattle.tail_codec.proofs.writer.write_list.Given as goal

abbrev pub invariant-loop-position : goal.invariant-loop-position
invariant-loop-position l = record {
  spells : SpellsFrom l.fn.low (take l.position l.entries) (take l.len l.buffer);
  next : l.low ≡ least_after l.fn.low (keys_of (take l.position l.entries));
  room : l.len + list_room (drop l.position l.entries) ≤ list_room l.entries;
}
