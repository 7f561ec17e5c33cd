use Rattle.std.proofs.Common.{◌≡◌, ◌+◌, ◌*◌, take, drop}
use Rattle.pages.specs.inside.Weights.{weight_size, weights_from}
use Rattle.pages.proofs.weight_blocks.fill_by.Given as goal

abbrev pub invariant-loop-weight : goal.invariant-loop-weight
invariant-loop-weight l = record {
  position : l.position ≡ l.start + weight_size l.width * l.weight-index;
  front : take l.weight-index l.block ≡ weights_from l.width l.weight-index (drop l.start l.bytes);
}
