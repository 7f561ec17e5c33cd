use Rattle.std.proofs.Common.{◌≡◌, ◌++◌, length}
use Rattle.std.specs.List.{filter}
use Rattle.typed_tree.specs.FunctionStatementTree.{FunctionStatementsTree}
use Rattle.algorithm_meaning.specs.Function.{result_of}
use Rattle.algorithm_meaning.specs.State.{StateValue}
use Rattle.kernels.specs.declared.columns.TheConstants.{PAIRS}
use Rattle.kernels.specs.Registers.{HasSizes}
use Rattle.kernels.specs.Kernels.{HasRegisters, IsFilterKernel}
use Rattle.run_state.proofs.Passed.{Ascends}
use Rattle.run_state.proofs.filtering.filtered.Given as goal

-- what is kept, and what passes of the rest, are all that pass
abbrev pub invariant-parts : goal.invariant-parts
invariant-parts l = record {
  size : length l.part ≡ PAIRS;
  ascending : Ascends l.set.vertices 0 (l.kept.items ++ l.left);
  room : HasRegisters l.block l.kernel.room;
  passed : (steps : FunctionStatementsTree) (m : StateValue) → IsFilterKernel l.kernel steps → l.vectors.vectors ≡ m.vectors → HasSizes l.sizes m
      → l.kept.items ++ filter (result_of steps m.sets m.vectors) l.left ≡ filter (result_of steps m.sets m.vectors) l.set.members;
}

abbrev pub decreases-parts : goal.decreases-parts
decreases-parts l = length l.left
