-- Proofs of `set_entry` of functions, src/function.rt.
use Rattle.std.proofs.Common.{◌≡◌, ap, subst, sym, ◌∙◌}
use Rattle.typed_tree.specs.IntExpressionTree.{int_expression_tree}
use Rattle.expression_types.specs.Expression.{index_value, vector_index}
use Rattle.expression_types.specs.Faults.{sure, outcome, ◌>>=◌}
use Rattle.expression_types.specs.ValueTree.{value_tree}
use Rattle.expression_types.proofs.Steps.{outcome_then}
use Rattle.types.specs.Step.{entry_step, may_set, own_vertex, written_at, set_entry_step}
use Rattle.initializer_types.specs.Checker.{integer_in}
use Rattle.typed_tree.specs.FunctionStatementTree.{function_statement_tree}
use Rattle.initializer_types.specs.Views.{checker_of}
use Rattle.types.proofs.function.FunctionBlockBlockKind.set_entry.Goals as goal

pub returns-clause-typed : goal.returns-clause-typed
returns-clause-typed c =
    let checker = checker_of c.args.checker.now in
    let scope = checker.scope in
    let at = c.at-at.result in
    let may = c.may_set_entry-may.result in
    let vector = c.vector-vector.result in
    let v = value_tree c.in_ok-index.index in
    let own = c.is_own-own.result in
    let x = int_expression_tree c.in_ok-value.value in
    outcome_then c.args.checker.now.first_fault c.integer.new.first_fault (set_entry_step scope c.args.written.vector.now.at c.args.written.vector.now c.args.written.index.now c.args.value.now)
    (function_statement_tree c.setting.result) (λ s. sure (s, checker))
    (subst (λ at. outcome c.args.checker.now.first_fault (set_entry_step scope at c.args.written.vector.now c.args.written.index.now c.args.value.now) ≡
    (function_statement_tree c.setting.result, c.integer.new.first_fault)) c.at-at.ensures
    (outcome_then c.args.checker.now.first_fault c.may_set_entry-may.new.first_fault (may_set at scope.inside) may
    (λ may. vector_index scope at c.args.written.vector.now >>= λ vector. index_value scope at c.args.written.index.now >>= λ v. written_at at
    (own_vertex scope.inside) v >>= λ own. integer_in scope at c.args.value.now >>= λ x. sure (entry_step may own vector x))
    (subst (λ i. outcome c.args.checker.now.first_fault (may_set at i) ≡ (may, c.may_set_entry-may.new.first_fault)) c.inside.ensures c.may_set_entry-may.ensures)
    ∙ outcome_then c.may_set_entry-may.new.first_fault c.vector-vector.new.first_fault (vector_index scope at c.args.written.vector.now) vector
    (λ vector. index_value scope at c.args.written.index.now >>= λ v. written_at at (own_vertex scope.inside) v >>= λ own. integer_in scope at c.args.value.now >>= λ x. sure
    (entry_step may own vector x)) c.vector-vector.ensures
    ∙ outcome_then c.vector-vector.new.first_fault c.type_index.new.first_fault (index_value scope at c.args.written.index.now) v
    (λ v. written_at at (own_vertex scope.inside) v >>= λ own. integer_in scope at c.args.value.now >>= λ x. sure (entry_step may own vector x)) c.in_ok-index.ensures
    ∙ outcome_then c.type_index.new.first_fault c.is_own-own.new.first_fault (written_at at (own_vertex scope.inside) v) own
    (λ own. integer_in scope at c.args.value.now >>= λ x. sure (entry_step may own vector x))
    (subst (λ o. outcome c.type_index.new.first_fault (written_at at o v) ≡ (own, c.is_own-own.new.first_fault)) (c.vertex_of-own_vertex.ensures ∙ ap own_vertex c.inside-2.ensures) c.is_own-own.ensures)
    ∙ outcome_then c.is_own-own.new.first_fault c.integer.new.first_fault (integer_in scope at c.args.value.now) x (λ x. sure (entry_step may own vector x)) c.in_ok-value.ensures
    ∙ (λ j. (sym c.setting.ensures j, c.integer.new.first_fault))))
