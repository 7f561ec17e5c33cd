-- Proofs of `set_entry` of `main`, src/statement.rt.
use Rattle.std.proofs.Common.{sym, ◌∙◌, ◌≡◌, subst}
use Rattle.typed_tree.specs.IntExpressionTree.{int_expression_tree}
use Rattle.std.specs.Option.{option_map}
use Rattle.expression_types.specs.Expression.{value_of, vector_index}
use Rattle.expression_types.specs.Faults.{sure, ◌>>=◌, outcome}
use Rattle.expression_types.specs.ValueTree.{value_tree}
use Rattle.expression_types.proofs.Steps.{outcome_then}
use Rattle.types.specs.Statement.{entry_set, set_entry}
use Rattle.initializer_types.specs.Checker.{as_index, integer_in}
use Rattle.typed_tree.specs.BlockTree.{statement_kind_tree}
use Rattle.initializer_types.specs.Views.{checker_of}
use Rattle.types.proofs.statement.MainBlockBlockKind.set_entry.Goals as goal

pub returns-clause-typed : goal.returns-clause-typed
returns-clause-typed c =
    let checker = checker_of c.args.checker.now in
    let scope = checker.scope in
    let at = c.at-at.result in
    let vector = c.vector-vector.result in
    let v = value_tree c.in_ok-index.index in
    let i = option_map int_expression_tree c.index_of-index.result in
    let x = int_expression_tree c.in_ok-value.value in
    outcome_then c.args.checker.now.first_fault c.integer.new.first_fault (set_entry scope c.args.written.vector.now.at c.args.written.vector.now c.args.written.index.now c.args.value.now)
    (statement_kind_tree c.setting.result) (λ a. sure (a, checker))
    (subst (λ at. outcome c.args.checker.now.first_fault (set_entry scope at c.args.written.vector.now c.args.written.index.now c.args.value.now) ≡
    (statement_kind_tree c.setting.result, c.integer.new.first_fault)) c.at-at.ensures
    (outcome_then c.args.checker.now.first_fault c.vector-vector.new.first_fault (vector_index scope at c.args.written.vector.now) vector
    (λ vector. value_of scope at c.args.written.index.now >>= λ v. as_index at v >>= λ i. integer_in scope at c.args.value.now >>= λ x. sure (entry_set vector i x)) c.vector-vector.ensures
    ∙ outcome_then c.vector-vector.new.first_fault c.type_expression.new.first_fault (value_of scope at c.args.written.index.now) v
    (λ v. as_index at v >>= λ i. integer_in scope at c.args.value.now >>= λ x. sure (entry_set vector i x)) c.in_ok-index.ensures
    ∙ outcome_then c.type_expression.new.first_fault c.index_of-index.new.first_fault (as_index at v) i
    (λ i. integer_in scope at c.args.value.now >>= λ x. sure (entry_set vector i x)) c.index_of-index.ensures
    ∙ outcome_then c.index_of-index.new.first_fault c.integer.new.first_fault (integer_in scope at c.args.value.now) x (λ x. sure (entry_set vector i x)) c.in_ok-value.ensures
    ∙ (λ j. (sym c.setting.ensures j, c.integer.new.first_fault))))
