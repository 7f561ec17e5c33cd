use Rattle.std.proofs.Common.{◌≡◌, ◌+◌, take, drop}
use Rattle.pages.specs.inside.Packed.{list_of}
use Rattle.pages.proofs.blocks.fill_up.Given as goal

abbrev pub invariant-loop-position : goal.invariant-loop-position
invariant-loop-position l = record {
  index : l.index + 1 ≡ l.from + l.position-index;
  front : take l.position-index l.block ≡ take l.position-index (drop l.from (list_of l.packed.first l.packed.width l.packed.len l.packed.offsets.now));
}
