-- Proofs of `of`, src/kernels_at.rt.
use Rattle.std.proofs.Common.{rules, map}
use Rattle.typed_tree.specs.FunctionStatementTree.{NoStep, function_tree}
use Rattle.plans.proofs.Pairwise.{pairwise_at}
use Rattle.plans.proofs.kernels_at.Kernels.of.Goals as goal

pub returns : goal.returns
returns g c =
    let none : g.K.Kernel.is_of c.in_ok-nothing.nothing NoStep = search rules in
    pairwise_at g.K.Kernel.is_of c.in_ok-at.at.items (map function_tree c.args.functions.now) c.in_ok-nothing.nothing c.in_ok-at.ensures none
