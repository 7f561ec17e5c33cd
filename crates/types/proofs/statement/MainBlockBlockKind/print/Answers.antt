-- Proofs of `print` of `main`, src/statement.rt.
use Rattle.std.proofs.Common.{◌∙◌}
use Rattle.typed_tree.specs.BlockTree.{statement_kind_tree}
use Rattle.expression_types.specs.Expression.{value_of}
use Rattle.expression_types.specs.Faults.{sure}
use Rattle.expression_types.specs.ValueTree.{value_tree}
use Rattle.expression_types.proofs.Steps.{outcome_then}
use Rattle.types.specs.Statement.{print, printed}
use Rattle.initializer_types.specs.Views.{checker_of}
use Rattle.types.proofs.statement.MainBlockBlockKind.print.Goals as goal

pub returns-clause-typed : goal.returns-clause-typed
returns-clause-typed c =
    let checker = checker_of c.args.checker.now in
    let at = c.args.at in
    let v = value_tree c.in_ok-value.value in
    outcome_then c.args.checker.now.first_fault c.print_value.new.first_fault (print checker.scope at c.args.value.now) (statement_kind_tree c.print_value.result) (λ a. sure (a, checker))
    (outcome_then c.args.checker.now.first_fault c.type_expression.new.first_fault (value_of checker.scope at c.args.value.now) v (λ v. printed at v) c.in_ok-value.ensures
    ∙ c.print_value.ensures)
