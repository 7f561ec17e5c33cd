use Rattle.std.proofs.Common.{◌≡◌, ◌+◌, ◌*◌, take, drop}
use Rattle.pages.specs.inside.Weights.{weight_size, weights_from, column_of}
use Rattle.pages.proofs.writing.write_weights.Given as goal

abbrev pub invariant-loop-index : goal.invariant-loop-index
invariant-loop-index l = record {
  at : l.at ≡ l.position + weight_size l.width * l.index;
  front : take l.position l.bytes ≡ take l.position l.fn.bytes;
  weights : weights_from l.width l.index (drop l.position l.bytes) ≡ column_of l.index l.weights;
}
