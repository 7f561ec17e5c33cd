-- Proofs of `open`, src/declaration.rt.
use Rattle.std.proofs.Common.{◌≡◌, ap, subst, ◌∙◌, [], map, option_map}
use Rattle.syntax.specs.SourceViews.{parameter_tree}
use Rattle.typed_tree.specs.declared.expression.Endpoint.TheVariants.{Source}
use Rattle.expression_types.specs.Faults.{outcome}
use Rattle.expression_types.specs.ScopeTree.{entered}
use Rattle.expression_types.proofs.Steps.{reports_then}
use Rattle.initializer_types.specs.Views.{checker_of, function_kind_tree}
use Rattle.initializer_types.specs.Checker.{in_scope}
use Rattle.types.specs.Declaration.{inside_of, takes_weight, parameters_declared, result_declared}
use Rattle.types.specs.Step.{with_writes}
use Rattle.types.proofs.declaration.open.Goals as goal

pub returns-clause-opened : goal.returns-clause-opened
returns-clause-opened c =
    let checker = checker_of c.args.checker.now in
    let kind = function_kind_tree c.args.kind in
    let ps = map parameter_tree c.args.parameters.now in
    let d = checker_of c.declare_parameters.new.checker in
    let new = c.declare_parameters.new.checker.first_fault in
    let inside : c.enter.new.self ≡ entered (inside_of kind) checker.scope = c.enter.ensures ∙ ap (λ i. entered i checker.scope) c.inside.ensures in
    reports_then (λ _. checker_of c.declare_result.new.checker) c.args.checker.now.first_fault new c.declare_result.new.checker.first_fault
    (parameters_declared (takes_weight kind) (with_writes (in_scope checker (entered (inside_of kind) checker.scope)) []) Source ps) d
    (λ d. result_declared d kind (option_map parameter_tree c.args.gives.now)) c.declare_result.result
    (subst (λ w. outcome c.args.checker.now.first_fault (parameters_declared w (with_writes (in_scope checker (entered (inside_of kind) checker.scope)) []) Source ps) ≡ (d, new)) c.takes_weight.ensures
    (subst (λ s. outcome c.args.checker.now.first_fault (parameters_declared c.takes_weight.result (with_writes (in_scope checker s) []) Source ps) ≡ (d, new)) inside
    (subst (λ ws. outcome c.args.checker.now.first_fault (parameters_declared c.takes_weight.result (with_writes (in_scope checker c.enter.new.self) ws) Source ps) ≡ (d, new)) c.new.ensures
    c.in_ok-declare_parameters.ensures.declared))) c.declare_result.ensures.declared
