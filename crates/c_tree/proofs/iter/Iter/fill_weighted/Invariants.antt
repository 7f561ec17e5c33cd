use Rattle.std.proofs.Common.{◌≡◌, ◌<◌, ◌-◌, [], ◌++◌, length}
use Rattle.c_tree.specs.inside.Chunks.{entries_of}
use Rattle.c_tree.proofs.Filling.{IsFilled}
use Rattle.c_tree.proofs.iter.Iter.fill_weighted.Given as goal

abbrev pub invariant-loop-filled : goal.invariant-loop-filled
invariant-loop-filled l = record {
  keys : IsFilled (λ e. e.0) l.filled l.fn.self (l.self-inside.tail ++ entries_of l.self-inside.chunks) l.fn.keys l.keys;
  weights : IsFilled (λ e. e.1) l.filled l.fn.self (l.self-inside.tail ++ entries_of l.self-inside.chunks) l.fn.weights l.weights;
  columns : length l.weights ≡ length l.keys;
  stopped : l.filled < length l.keys → l.self-inside.tail ≡ [];
}

abbrev pub decreases-loop-filled : goal.decreases-loop-filled
decreases-loop-filled l = length l.initial.keys - l.filled
