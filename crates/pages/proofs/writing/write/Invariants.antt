use Rattle.std.proofs.Common.{◌≡◌, ◌+◌, ◌-◌, ◌*◌, take, drop}
use Rattle.pages.specs.inside.Packed.{elements_in}
use Rattle.pages.proofs.writing.write.Given as goal

abbrev pub invariant-loop-index : goal.invariant-loop-index
invariant-loop-index l = record {
  at : l.at ≡ l.position + (4 + l.width * (l.index - 1));
  front : take l.position l.bytes ≡ take l.position l.fn.bytes;
  list : elements_in l.width l.index (drop l.position l.bytes) ≡ take l.index l.list;
}
