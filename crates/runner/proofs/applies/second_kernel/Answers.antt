-- Proofs of `second_kernel`, src/applies.rt.
use Rattle.std.proofs.Common.{subst}
use Rattle.run_state.specs.VertexKernels.{IsVertexKernel}
use Rattle.runner.proofs.Partners.{some_is}
use Rattle.runner.proofs.Ready.{vertex_kernel}
use Rattle.runner.proofs.applies.second_kernel.Goals as goal

pub returns-clause-known : goal.returns-clause-known
returns-clause-known c known x is =
    subst (λ k. ∥ IsVertexKernel k.now ∥₁) (some_is c.get.result x is) (vertex_kernel c.args.functions.now c.in_ok-index.index c.get.result.now c.get.ensures known)
