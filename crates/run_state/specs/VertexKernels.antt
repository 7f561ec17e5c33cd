-- Kernels of vertex functions.
use Rattle.typed_tree.specs.FunctionStatementTree.{FunctionStatementsTree}
use Rattle.kernels.specs.Meaning.{IsVertexCode}
use Rattle.kernels.specs.declared.vertex_kernel.VertexKernel.{VertexKernel}

-- the kernel is that of some vertex function
pub record IsVertexKernel (k : VertexKernel) : Type 0 where
  pub steps : FunctionStatementsTree
  pub code : IsVertexCode k.code.items steps
