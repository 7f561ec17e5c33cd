use Rattle.std.proofs.Common.{◌≡◌, drop, map}
use Rattle.syntax.specs.SourceViews.{parameter_tree}
use Rattle.typed_tree.specs.declared.expression.Endpoint.TheVariants.{Source}
use Rattle.expression_types.specs.Faults.{outcome}
use Rattle.expression_types.specs.ScopeTree.{KeepsNames}
use Rattle.initializer_types.specs.Views.{checker_of}
use Rattle.types.specs.Declaration.{parameters_declared}
use Rattle.types.proofs.declaration.declare_parameters.Given as goal

abbrev pub invariant-parameters : goal.invariant-parameters
invariant-parameters l =
    (outcome l.fn.checker.first_fault (parameters_declared l.weighted (checker_of l.fn.checker) Source (map parameter_tree l.parameters))
    ≡ outcome l.checker.first_fault (parameters_declared l.weighted (checker_of l.checker) l.endpoint (map parameter_tree (drop l.parameter-index l.parameters))))
    × KeepsNames l.fn.checker.scope l.checker.scope
