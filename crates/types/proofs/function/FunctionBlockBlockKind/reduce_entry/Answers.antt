-- Proofs of `reduce_entry` of functions, src/function.rt.
use Rattle.std.proofs.Common.{ℕ, Bool, List, ◌≡◌, ap, subst, sym, ◌∙◌}
use Rattle.apply_options.specs.declared.reduction.Reduction.{Reduction}
use Rattle.typed_tree.specs.IntExpressionTree.{int_expression_tree}
use Rattle.expression_types.specs.Expression.{index_value, vector_index}
use Rattle.expression_types.specs.Faults.{sure, outcome, ◌>>=◌}
use Rattle.expression_types.specs.ValueTree.{value_tree}
use Rattle.expression_types.proofs.Steps.{outcome_then}
use Rattle.initializer_types.specs.Views.{checker_of}
use Rattle.types.specs.Step.{may_reduce, own_vertex, reduction_step, with_writes, written_at, reduce_entry_step}
use Rattle.initializer_types.specs.Checker.{integer_in}
use Rattle.typed_tree.specs.FunctionStatementTree.{function_statement_tree}
use Rattle.types.proofs.function.FunctionBlockBlockKind.reduce_entry.Goals as goal

pub returns-clause-typed : goal.returns-clause-typed
returns-clause-typed c =
    let checker = checker_of c.args.checker.now in
    let scope = checker.scope in
    let at = c.at-at.result in
    let vector = c.vector-vector.result in
    let may : Bool × List (ℕ × Reduction) = (c.in_ok-may.may, c.may_reduce_entry.new.writes) in
    let v = value_tree c.in_ok-index.index in
    let own = c.is_own-own.result in
    let x = int_expression_tree c.in_ok-value.value in
    subst (λ at. outcome c.args.checker.now.first_fault (reduce_entry_step checker at c.args.written.vector.now c.args.written.index.now c.args.by c.args.value.now) ≡
    ((function_statement_tree c.reducing.result, with_writes checker may.1), c.integer.new.first_fault)) c.at-at.ensures
    (outcome_then c.args.checker.now.first_fault c.vector-vector.new.first_fault (vector_index scope at c.args.written.vector.now) vector
    (λ vector. may_reduce at scope.inside vector c.args.by checker.writes >>= λ may. index_value scope at c.args.written.index.now >>= λ v. written_at at
    (own_vertex scope.inside) v >>= λ own. integer_in scope at c.args.value.now >>= λ x. sure (reduction_step may.0 own vector c.args.by x, with_writes checker may.1)) c.vector-vector.ensures
    ∙ outcome_then c.vector-vector.new.first_fault c.may_reduce_entry.new.first_fault (may_reduce at scope.inside vector c.args.by checker.writes) may
    (λ may. index_value scope at c.args.written.index.now >>= λ v. written_at at (own_vertex scope.inside) v >>= λ own. integer_in scope at c.args.value.now >>= λ x. sure
    (reduction_step may.0 own vector c.args.by x, with_writes checker may.1)) (subst
    (λ i. outcome c.vector-vector.new.first_fault (may_reduce at i vector c.args.by checker.writes) ≡ (may, c.may_reduce_entry.new.first_fault)) c.inside-inside.ensures c.in_ok-may.ensures)
    ∙ outcome_then c.may_reduce_entry.new.first_fault c.type_index.new.first_fault (index_value scope at c.args.written.index.now) v
    (λ v. written_at at (own_vertex scope.inside) v >>= λ own. integer_in scope at c.args.value.now >>= λ x. sure
    (reduction_step may.0 own vector c.args.by x, with_writes checker may.1)) c.in_ok-index.ensures
    ∙ outcome_then c.type_index.new.first_fault c.is_own-own.new.first_fault (written_at at (own_vertex scope.inside) v) own
    (λ own. integer_in scope at c.args.value.now >>= λ x. sure (reduction_step may.0 own vector c.args.by x, with_writes checker may.1))
    (subst (λ o. outcome c.type_index.new.first_fault (written_at at o v) ≡ (own, c.is_own-own.new.first_fault)) (c.vertex_of.ensures ∙ ap own_vertex c.inside-inside.ensures) c.is_own-own.ensures)
    ∙ outcome_then c.is_own-own.new.first_fault c.integer.new.first_fault (integer_in scope at c.args.value.now) x
    (λ x. sure (reduction_step may.0 own vector c.args.by x, with_writes checker may.1)) c.in_ok-value.ensures
    ∙ (λ j. ((sym c.reducing.ensures j, with_writes checker may.1), c.integer.new.first_fault)))
