-- Proofs of `add_vertex` of `main`, src/statement.rt.
use Rattle.std.proofs.Common.{◌∙◌, ◌≡◌, subst}
use Rattle.expression_types.specs.Expression.{used_name, value_of}
use Rattle.expression_types.specs.Faults.{◌>>=◌, outcome, sure}
use Rattle.expression_types.specs.ValueTree.{value_tree}
use Rattle.expression_types.proofs.Steps.{outcome_then}
use Rattle.types.specs.Statement.{added_to_set, add_vertex}
use Rattle.typed_tree.specs.BlockTree.{statement_kind_tree}
use Rattle.initializer_types.specs.Views.{checker_of}
use Rattle.types.proofs.statement.MainBlockBlockKind.add_vertex.Goals as goal

pub returns-clause-typed : goal.returns-clause-typed
returns-clause-typed c =
    let checker = checker_of c.args.checker.now in
    let scope = checker.scope in
    let at = c.at-at.result in
    let s = c.entity-entity.result in
    let v = value_tree c.in_ok-value.value in
    outcome_then c.args.checker.now.first_fault c.add_value.new.first_fault (add_vertex scope c.args.set.now.at c.args.set.now c.args.vertex.now) (statement_kind_tree c.add_value.result)
    (λ a. sure (a, checker))
    (subst (λ at. outcome c.args.checker.now.first_fault (add_vertex scope at c.args.set.now c.args.vertex.now) ≡ (statement_kind_tree c.add_value.result, c.add_value.new.first_fault)) c.at-at.ensures
    (outcome_then c.args.checker.now.first_fault c.entity-entity.new.first_fault (used_name scope c.args.set.now) s
    (λ s. value_of scope at c.args.vertex.now >>= λ v. added_to_set at v s) c.entity-entity.ensures
    ∙ outcome_then c.entity-entity.new.first_fault c.type_expression.new.first_fault (value_of scope at c.args.vertex.now) v (λ v. added_to_set at v s) c.in_ok-value.ensures
    ∙ c.add_value.ensures))
