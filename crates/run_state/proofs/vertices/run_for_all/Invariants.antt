use Rattle.std.proofs.Common.{◌≡◌, length}
use Rattle.typed_tree.specs.FunctionStatementTree.{FunctionStatementsTree}
use Rattle.algorithm_meaning.specs.State.{StateValue}
use Rattle.algorithm_meaning.specs.VertexSets.{after_vertices}
use Rattle.kernels.specs.declared.columns.TheConstants.{PAIRS}
use Rattle.kernels.specs.Registers.{HasSizes}
use Rattle.kernels.specs.Meaning.{IsVertexCode}
use Rattle.kernels.specs.RegisterCounts.{RegisterCounts}
use Rattle.kernels.specs.Kernels.{HasRegisters}
use Rattle.vertex_sets.proofs.Ascending.{Rises}
use Rattle.run_state.proofs.vertices.run_for_all.Given as goal

-- what is left to do comes to what was to be done
abbrev pub invariant-parts : goal.invariant-parts
invariant-parts l = record {
  size : length l.part ≡ PAIRS;
  ascending : Rises 0 l.left;
  groups : l.vectors.groups ≡ l.fn.vectors.groups;
  keeps : (other : RegisterCounts) → HasRegisters l.fn.block other → HasRegisters l.block other;
  rest : (steps : FunctionStatementsTree) (m : StateValue) → IsVertexCode l.kernel.code.items steps → l.fn.vectors.vectors ≡ m.vectors → HasSizes l.sizes m
      → after_vertices steps m.sets l.left l.vectors.vectors ≡ after_vertices steps m.sets l.fn.vertices m.vectors;
}

abbrev pub decreases-parts : goal.decreases-parts
decreases-parts l = length l.left
