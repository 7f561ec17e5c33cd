-- Proofs of `apply` of functions, src/function.rt.
use Rattle.std.proofs.Common.{◌≡◌, ap, subst, sym, ◌∙◌}
use Rattle.syntax.specs.SourceViews.{ends_tree}
use Rattle.typed_tree.specs.FunctionStatementTree.{function_statement_tree}
use Rattle.expression_types.specs.declared.fault.TypeRule.TheVariants as rule
use Rattle.expression_types.specs.Expression.{used_name}
use Rattle.expression_types.specs.Faults.{outcome, sure, fault_at, ◌>>=◌}
use Rattle.expression_types.proofs.Steps.{outcome_then}
use Rattle.initializer_types.specs.Initial.{apply_end_of}
use Rattle.types.specs.Step.{no_apply, no_step}
use Rattle.initializer_types.specs.Applies.{named_apply_tree}
use Rattle.initializer_types.proofs.Applies.{apply_then}
use Rattle.initializer_types.specs.Views.{checker_of}
use Rattle.types.proofs.function.FunctionBlockBlockKind.apply.Goals as goal

pub returns-clause-typed : goal.returns-clause-typed
returns-clause-typed c =
    let checker = checker_of c.args.checker.now in
    let scope = checker.scope in
    let at = c.at.result in
    let ends = ends_tree c.args.ends.now in
    let between = c.wrong-step.new.first_fault in
    let new = c.read_apply-apply.new.first_fault in
    outcome_then c.args.checker.now.first_fault new (no_apply scope c.args.target.now.at c.args.target.now ends c.args.function.now) (function_statement_tree c.wrong-step.result)
    (λ s. sure (s, checker))
    (subst (λ at. outcome c.args.checker.now.first_fault (no_apply scope at c.args.target.now ends c.args.function.now) ≡ (function_statement_tree c.wrong-step.result, new)) c.at.ensures
    (outcome_then c.args.checker.now.first_fault between (fault_at at rule.WrongType no_step) no_step
    (λ s. used_name scope c.args.target.now >>= λ t. apply_end_of scope ends.from >>= λ a. apply_end_of scope ends.to >>= λ b. used_name scope c.args.function.now >>= λ f. sure s)
    (ap (λ n. (no_step, n)) (sym c.wrong-step.ensures.first_fault))
    ∙ apply_then scope c.args.target.now ends c.args.function.now between new (named_apply_tree c.read_apply-apply.result) (λ a. sure no_step) c.read_apply-apply.ensures
    ∙ ap (λ s. (s, new)) (sym c.wrong-step.ensures.step)))
