-- Proofs of `kernels_of`, src/kernels_at.rt.
use Rattle.std.proofs.Common.{rules, ◌≡◌, ◌++◌, ◌∷◌, ◌+◌, [], map, take, sym, subst}
use Rattle.typed_tree.specs.FunctionStatementTree.{function_tree}
use Rattle.plans.specs.Operation.{ArePairwise}
use Rattle.plans.proofs.Pairwise.{pairwise_next}
use Rattle.plans.proofs.kernels_at.kernels_of.Goals as goal

pub functions-preserved : goal.functions-preserved
functions-preserved g c =
    let next = pairwise_next
    (λ k f. g.K.Kernel.is_of k f.steps) function_tree c.functions.kernels.items c.in_ok-of_function.field-0 c.args.functions.now c.functions.function-index c.function-item.result
    c.functions-test.true c.function-item.is c.functions.invariant c.in_ok-of_function.ensures in
    let pushed : c.push.new.self.items ≡ c.functions.kernels.items ++ c.in_ok-of_function.field-0 ∷ [] = search rules in
    subst (λ ks. ArePairwise (λ k f. g.K.Kernel.is_of k f.steps) ks (map function_tree (take (c.functions.function-index + 1) c.args.functions.now))) (sym pushed) next
