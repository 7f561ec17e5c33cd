use Rattle.std.proofs.Common.{map, take}
use Rattle.typed_tree.specs.FunctionStatementTree.{function_tree}
use Rattle.plans.specs.Operation.{ArePairwise}
use Rattle.plans.proofs.kernels_at.kernels_of.Given as goal

abbrev pub invariant-functions : goal.invariant-functions
invariant-functions g l = ArePairwise (λ k f. g.K.Kernel.is_of k f.steps) l.kernels.items (map function_tree (take l.function-index l.functions))
