use Rattle.std.proofs.Common.{◌≡◌, ◌<◌, ◌-◌, [], ◌++◌, length}
use Rattle.c_tree.specs.inside.Chunks.{entries_of}
use Rattle.c_tree.proofs.Filling.{IsFilled}
use Rattle.c_tree.proofs.iter.Iter.fill.Given as goal

abbrev pub invariant-loop-filled : goal.invariant-loop-filled
invariant-loop-filled l = record {
  read : IsFilled (λ e. e.0) l.filled l.fn.self (l.self-inside.tail ++ entries_of l.self-inside.chunks) l.fn.block l.block;
  stopped : l.filled < length l.block → l.self-inside.tail ≡ [];
}

abbrev pub decreases-loop-filled : goal.decreases-loop-filled
decreases-loop-filled l = length l.initial.block - l.filled
