-- Contexts of an apply: the vectors and sizes of sets that its functions read.
use Rattle.std.specs.Prelude.{◌≡◌, List}
use Rattle.kernels.specs.Registers.{HasSizes}
use Rattle.kernels.specs.State.{StateValue}
use Rattle.kernels.specs.FunctionStatementTree.{FunctionStatementsTree}
use Rattle.edge_fold.specs.declared.apply_context.ApplyContext.{ApplyContext}
use Rattle.edge_fold.specs.declared.apply_context.FoldStart.{FoldStart}
use Rattle.edge_fold.specs.Folded.{AreKernels, are_weighted}
use Rattle.edge_apply.specs.declared.apply.Apply.{Apply}

-- the context of an apply whose new entries begin so
abbrev pub context_of : Apply → FoldStart → ApplyContext
context_of a start = record {
  first = a.first;
  second = a.second;
  weighted = are_weighted a.first.now a.second;
  vectors = a.vectors;
  sizes = a.sizes;
  vertices = a.flat.now.vertices;
  start = start;
}

-- the functions have these statements, and the apply reads the vectors and the sets of a state
pub record IsApplyOf (a : Apply) (m : StateValue) (steps : List FunctionStatementsTree) : Type 0 where
  pub vectors : a.vectors.now.vectors ≡ m.vectors
  pub sizes : HasSizes a.sizes.now m
  pub kernels : AreKernels a.first.now a.second steps
