-- Proofs of `function`, src/declaration.rt.
use Rattle.std.proofs.Common.{ap, subst, ◌∙◌, map, option_map}
use Rattle.syntax.specs.SourceViews.{block_tree as source_block, parameter_tree}
use Rattle.typed_tree.specs.FunctionStatementTree.{NoStep, function_statements_tree}
use Rattle.expression_types.specs.Faults.{ReportsFaults, ◌>>=◌}
use Rattle.expression_types.specs.ScopeTree.{left}
use Rattle.expression_types.proofs.Steps.{reports_then}
use Rattle.initializer_types.specs.Views.{checker_of, function_kind_tree}
use Rattle.initializer_types.specs.Checker.{in_scope}
use Rattle.types.specs.inside.Declaration.{declared_of}
use Rattle.types.specs.Declaration.{function_declared, kind_fits, opened}
use Rattle.types.specs.Step.{steps_typed}
use Rattle.types.proofs.Kept.{left_again, keeps_on}
use Rattle.types.proofs.declaration.function.Goals as goal

pub returns : goal.returns
returns c =
    let d = declared_of c.args.declared.now in
    let scope = d.checker.scope in
    let kind = function_kind_tree c.args.kind in
    let ps = map parameter_tree c.args.written.parameters.now in
    let r = option_map parameter_tree c.args.written.gives.now in
    let body = source_block c.args.written.body.now in
    let fits = kind_fits c.args.written.at kind in
    let inner = checker_of c.open.new.checker in
    let last = checker_of c.statements.new.checker in
    let b = function_statements_tree c.in_ok-steps.steps.items in
    let new = c.function_is.new.declared.checker.first_fault in
    let kept = keeps_on scope c.open.new.checker.scope c.statements.new.checker.scope c.in_ok-open.ensures.kept c.in_ok-steps.ensures.kept in
    let again = c.leave.ensures ∙ ap (λ m. left m c.statements.new.checker.scope) c.mark-mark.ensures.mark ∙ left_again scope c.statements.new.checker.scope kept in
    reports_then (λ _. declared_of c.function_is.new.declared) c.args.declared.now.checker.first_fault c.want_kind.new.first_fault new fits fits.value
    (λ f. opened d.checker kind ps r >>= λ k. steps_typed k NoStep body >>= λ b. function_declared (record d { checker = in_scope b.1 scope }) kind c.args.written.name.now b.0)
    c.function_is.result (λ i. (fits.value, c.want_kind.ensures i))
    (reports_then (λ _. declared_of c.function_is.new.declared) c.want_kind.new.first_fault c.open.new.checker.first_fault new (opened d.checker kind ps r) inner
    (λ k. steps_typed k NoStep body >>= λ b. function_declared (record d { checker = in_scope b.1 scope }) kind c.args.written.name.now b.0)
    c.function_is.result c.in_ok-open.ensures.opened
    (reports_then (λ _. declared_of c.function_is.new.declared) c.open.new.checker.first_fault c.statements.new.checker.first_fault new (steps_typed inner NoStep body) (b, last)
    (λ b. function_declared (record d { checker = in_scope b.1 scope }) kind c.args.written.name.now b.0) c.function_is.result c.in_ok-steps.ensures.typed
    (subst (λ s. ReportsFaults (λ _. declared_of c.function_is.new.declared) c.statements.new.checker.first_fault new c.function_is.result
    (function_declared (record d { checker = in_scope last s }) kind c.args.written.name.now b))
    again c.function_is.ensures)))
