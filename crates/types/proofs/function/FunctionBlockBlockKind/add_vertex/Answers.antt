-- Proofs of `add_vertex` of functions, src/function.rt.
use Rattle.std.proofs.Common.{◌≡◌, ap, subst, sym, ◌∙◌}
use Rattle.typed_tree.specs.FunctionStatementTree.{function_statement_tree}
use Rattle.expression_types.specs.declared.fault.TypeRule.TheVariants as rule
use Rattle.expression_types.specs.Expression.{used_name, value_of}
use Rattle.expression_types.specs.Faults.{outcome, sure, fault_at, ◌>>=◌}
use Rattle.expression_types.specs.ValueTree.{value_tree}
use Rattle.expression_types.proofs.Steps.{outcome_then}
use Rattle.types.specs.Step.{no_add, no_step}
use Rattle.initializer_types.specs.Views.{checker_of}
use Rattle.types.proofs.function.FunctionBlockBlockKind.add_vertex.Goals as goal

pub returns-clause-typed : goal.returns-clause-typed
returns-clause-typed c =
    let checker = checker_of c.args.checker.now in
    let scope = checker.scope in
    let at = c.at-at.result in
    let set = c.args.set.now in
    let e = c.args.vertex.now in
    let first = c.args.checker.now.first_fault in
    let noted = c.wrong-step.new.first_fault in
    let named = c.entity-set.new.first_fault in
    let new = c.type_expression.new.first_fault in
    outcome_then first new (no_add scope set.at set e) (function_statement_tree c.wrong-step.result) (λ s. sure (s, checker))
    (subst (λ at. outcome first (no_add scope at set e) ≡ (function_statement_tree c.wrong-step.result, new)) c.at-at.ensures
    (outcome_then first noted (fault_at at rule.WrongType no_step) no_step (λ s. used_name scope set >>= λ n. value_of scope at e >>= λ v. sure s)
    (ap (λ n. (no_step, n)) (sym c.wrong-step.ensures.first_fault))
    ∙ outcome_then noted named (used_name scope set) c.entity-set.result (λ n. value_of scope at e >>= λ v. sure no_step) c.entity-set.ensures
    ∙ outcome_then named new (value_of scope at e) (value_tree c.in_ok-_vertex._vertex) (λ v. sure no_step) c.in_ok-_vertex.ensures
    ∙ ap (λ s. (s, new)) (sym c.wrong-step.ensures.step)))
