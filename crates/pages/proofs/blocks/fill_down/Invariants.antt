use Rattle.std.proofs.Common.{◌≡◌, ◌+◌, take, reverse}
use Rattle.pages.specs.inside.Packed.{list_of}
use Rattle.pages.proofs.blocks.fill_down.Given as goal

abbrev pub invariant-loop-position : goal.invariant-loop-position
invariant-loop-position l = record {
  index : l.index + 1 + l.position-index ≡ l.end;
  front : take l.position-index l.block ≡ take l.position-index (reverse (take l.end (list_of l.packed.first l.packed.width l.packed.len l.packed.offsets.now)));
}
