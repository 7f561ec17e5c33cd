-- Proofs of `statements` and its mutually recursive functions, src/block.rt.
use Rattle.std.proofs.Common.{◌≡◌, ap, subst, sym, ◌∙◌, ◌+◌, drop, arith}
use Rattle.syntax.specs.SourceViews.{statement_kind_tree, block_tree}
use Rattle.syntax.specs.declared.statement.Action.TheViews.{the_lemmas}
use Rattle.typed_tree.specs.BoolExpressionTree.{bool_expression_tree}
use Rattle.typed_tree.specs.IntExpressionTree.{int_expression_tree}
use Rattle.expression_types.specs.Faults.{ReportsFaults, outcome, sure, ◌>>=◌}
use Rattle.expression_types.specs.ScopeTree.{KeepsNames, left}
use Rattle.expression_types.proofs.Steps.{outcome_then}
use Rattle.initializer_types.specs.Checker.{in_scope, with_label}
use Rattle.types.specs.inside.BlockMeaning.{For, block_typed}
use Rattle.initializer_types.specs.Views.{checker_of}
use Rattle.types.proofs.Kept.{keeps_on, keeps_same, left_again}
use Rattle.types.proofs.Walk.{ends_on, for_on, if_on, if_else_on, statement_on, while_on}
use Rattle.types.proofs.block.+statements.Goals as goal

pub action-returns-in_ok-body-in-While-clause-typed : goal.action-returns-in_ok-body-in-While-clause-typed
action-returns-in_ok-body-in-While-clause-typed g t c =
    let m = g.K.BlockKind.meaning in
    while_on m g.met.K.BlockKind.walked (checker_of c.args.checker.now) (checker_of c.inner.new.checker) c.args.action.now c.in-While.at c.in-While.test c.in-While.body c.deref.result.now
    (bool_expression_tree c.in_ok-test-in-While.test) (m.row_tree c.in_ok-body-in-While.body.items) c.args.checker.now.first_fault c.note_loop.new.first_fault c.condition.new.first_fault
    c.inner.new.checker.first_fault c.deref.ensures.value c.in-While.is c.note_loop.ensures c.in_ok-test-in-While.ensures c.in_ok-body-in-While.ensures.typed
    ∙ ap (λ a. ((a, checker_of c.inner.new.checker), c.inner.new.checker.first_fault)) (sym c.with_blocks.ensures)

pub action-returns-in_ok-body-in-If-clause-typed : goal.action-returns-in_ok-body-in-If-clause-typed
action-returns-in_ok-body-in-If-clause-typed g t c =
    let m = g.K.BlockKind.meaning in
    if_on m g.met.K.BlockKind.walked (checker_of c.args.checker.now) (checker_of c.inner-in-If.new.checker) c.args.action.now c.in-If.at c.in-If.test c.in-If.body c.deref-in-If.result.now
    (bool_expression_tree c.in_ok-test-in-If.test) (m.row_tree c.in_ok-body-in-If.body.items) c.args.checker.now.first_fault c.condition-in-If.new.first_fault c.inner-in-If.new.checker.first_fault
    c.deref-in-If.ensures.value c.in-If.is c.in_ok-test-in-If.ensures c.in_ok-body-in-If.ensures.typed
    ∙ ap (λ a. ((a, checker_of c.inner-in-If.new.checker), c.inner-in-If.new.checker.first_fault)) (sym c.with_blocks-in-If.ensures)

pub action-returns-in_ok-other-in-IfElse-clause-typed : goal.action-returns-in_ok-other-in-IfElse-clause-typed
action-returns-in_ok-other-in-IfElse-clause-typed g t c =
    let m = g.K.BlockKind.meaning in
    if_else_on m g.met.K.BlockKind.walked (checker_of c.args.checker.now) (checker_of c.inner-in-IfElse.new.checker) (checker_of c.inner-in-IfElse-2.new.checker) c.args.action.now
    c.in-IfElse.at c.in-IfElse.test c.in-IfElse.body c.in-IfElse.otherwise c.deref-in-IfElse.result.now c.deref-in-IfElse-2.result.now (bool_expression_tree c.in_ok-test-in-IfElse.test)
    (m.row_tree c.in_ok-body-in-IfElse.body.items) (m.row_tree c.in_ok-other-in-IfElse.other.items)
    c.args.checker.now.first_fault c.condition-in-IfElse.new.first_fault c.inner-in-IfElse.new.checker.first_fault c.inner-in-IfElse-2.new.checker.first_fault
    c.deref-in-IfElse.ensures.value c.deref-in-IfElse-2.ensures.value c.in-IfElse.is c.in_ok-test-in-IfElse.ensures c.in_ok-body-in-IfElse.ensures.typed c.in_ok-other-in-IfElse.ensures.typed
    ∙ ap (λ a. ((a, checker_of c.inner-in-IfElse-2.new.checker), c.inner-in-IfElse-2.new.checker.first_fault)) (sym c.with_blocks-in-IfElse.ensures)

pub action-returns-in-For-clause-typed : goal.action-returns-in-For-clause-typed
action-returns-in-For-clause-typed g t c =
    let m = g.K.BlockKind.meaning in
    subst (λ a. ReportsFaults (λ s. (m.action_tree s, checker_of c.repeat.new.checker)) c.args.checker.now.first_fault c.repeat.new.checker.first_fault c.repeat.result
    (m.action_typed (checker_of c.args.checker.now) a)) (sym (ap statement_kind_tree c.in-For.is)) c.repeat.ensures.typed

pub repeat-returns-clause-typed : goal.repeat-returns-clause-typed
repeat-returns-clause-typed g t c =
    let m = g.K.BlockKind.meaning in
    let checker = checker_of c.args.checker.now in
    let scope = checker.scope in
    let a = int_expression_tree c.in_ok-first.first in
    let z = int_expression_tree c.in_ok-limit.limit in
    let d = checker_of c.declare_loop_variable.new.checker in
    let last = checker_of c.statements.new.checker in
    let b = m.row_tree c.in_ok-body.body.items in
    let new = c.statements.new.checker.first_fault in
    let kept = keeps_on scope c.declare_loop_variable.new.checker.scope c.statements.new.checker.scope c.in_ok-slot.ensures.kept c.in_ok-body.ensures.kept in
    let again = c.leave.ensures ∙ ap (λ m. left m c.statements.new.checker.scope) c.mark-mark.ensures.mark ∙ left_again scope c.statements.new.checker.scope kept in
    for_on m g.met.K.BlockKind.walked checker d last c.args.for_loop.now c.deref.result.now a z b c.args.checker.now.first_fault c.note_loop.new.first_fault c.integer.new.first_fault
    c.integer-2.new.first_fault c.declare_loop_variable.new.checker.first_fault new c.deref.ensures.value c.note_loop.ensures c.in_ok-first.ensures c.in_ok-limit.ensures
    c.in_ok-slot.ensures.declared c.in_ok-body.ensures.typed
    ∙ (λ i. ((m.compound (For (ap (λ s. s.name) (sym c.in_ok-slot.ensures.slot) i) a z b), in_scope last (sym again i)), new))
    ∙ ap (λ x. ((x, in_scope last c.leave.new.self), new)) (sym c.with_blocks.ensures)

pub statements-statements-preserved : goal.statements-statements-preserved
statements-statements-preserved g t c =
    let m = g.K.BlockKind.meaning in
    let d = checker_of c.one.new.checker in
    let new = c.one.new.checker.first_fault in (
      c.statements.invariant.0 ∙ statement_on m g.met.K.BlockKind.walked (checker_of c.statements.checker) d c.statements.typed.items c.in_ok-next.next c.args.block.now c.statements.statement-index
          c.statement-item.result c.statements.checker.first_fault new c.statements-test.true c.statement-item.is c.in_ok-next.ensures.typed
          ∙ ap (λ xs. outcome new (m.row_typed d (m.row_tree xs) (block_tree (drop (c.statements.statement-index + 1) c.args.block.now)))) (sym c.in_ok-push.ensures.items),
      keeps_on c.args.checker.now.scope c.statements.checker.scope c.one.new.checker.scope c.statements.invariant.1 c.in_ok-next.ensures.kept,
    )

pub statements-returns-clause-typed : goal.statements-returns-clause-typed
statements-returns-clause-typed g t c =
    let m = g.K.BlockKind.meaning in
    c.statements.invariant.0 ∙ ends_on m g.met.K.BlockKind.walked (checker_of c.statements.checker) (m.row_tree c.statements.typed.items) c.args.block.now c.statements.statement-index
    c.statements.checker.first_fault c.statements-test.false

pub inner-returns-clause-typed : goal.inner-returns-clause-typed
inner-returns-clause-typed g t c =
    let m = g.K.BlockKind.meaning in
    let checker = checker_of c.args.checker.now in
    let last = checker_of c.statements.new.checker in
    let b = m.row_tree c.in_ok-typed.typed.items in
    let new = c.statements.new.checker.first_fault in
    let again = c.leave.ensures ∙ ap (λ m. left m last.scope) c.mark-mark.ensures.mark ∙ left_again checker.scope last.scope c.in_ok-typed.ensures.kept in
    outcome_then c.args.checker.now.first_fault new (block_typed m checker (block_tree c.args.block.now)) (b, last) (λ b. sure (b.0, in_scope b.1 checker.scope)) c.in_ok-typed.ensures.typed
    ∙ (λ i. ((b, in_scope last (sym again i)), new))

pub inner-returns-clause-kept : goal.inner-returns-clause-kept
inner-returns-clause-kept g t c =
    let scope = c.args.checker.now.scope in
    let last = c.statements.new.checker.scope in
    keeps_same scope c.leave.new.self (c.leave.ensures ∙ ap (λ m. left m last) c.mark-mark.ensures.mark ∙ left_again scope last c.in_ok-typed.ensures.kept)

pub one-returns-clause-kept : goal.one-returns-clause-kept
one-returns-clause-kept g t c =
    subst (λ scope. KeepsNames scope c.action.new.checker.scope) (c.in_ok-number.ensures.kept ∙ c.in_ok-label.ensures.kept) c.in_ok-action.ensures.kept

pub one-returns-clause-typed : goal.one-returns-clause-typed
one-returns-clause-typed g t c =
    let m = g.K.BlockKind.meaning in
    let checker = checker_of c.args.checker.now in
    let labelled = checker_of c.label.new.checker in
    let index = c.in_ok-label.label in
    let action = statement_kind_tree c.args.statement.now.action in
    let a = m.action_tree c.in_ok-action.action in
    let last = checker_of c.action.new.checker in
    outcome_then c.args.checker.now.first_fault c.label.new.checker.first_fault (with_label checker c.args.statement.now.label) (index, labelled)
    (λ l. m.action_typed (m.counted l.1) action >>= λ a. sure (m.labelled (m.number l.1) l.0 a.0, a.1)) c.in_ok-label.ensures.labelled
    ∙ outcome_then c.label.new.checker.first_fault c.action.new.checker.first_fault (m.action_typed (m.counted labelled) action) (a, last)
    (λ a. sure (m.labelled (m.number labelled) index a.0, a.1))
    (subst (λ f. outcome f (m.action_typed (m.counted labelled) action) ≡ ((a, last), c.action.new.checker.first_fault)) c.in_ok-number.ensures.first_fault
    (subst (λ d. outcome c.number.new.checker.first_fault (m.action_typed d action) ≡ ((a, last), c.action.new.checker.first_fault)) c.in_ok-number.ensures.counted c.in_ok-action.ensures.typed))
    ∙ (λ i. ((m.labelled (sym c.in_ok-number.ensures.number i) index a, last), c.action.new.checker.first_fault))
    ∙ ap (λ s. ((s, last), c.action.new.checker.first_fault)) (sym c.labelled.ensures)

pub repeat-returns-clause-kept : goal.repeat-returns-clause-kept
repeat-returns-clause-kept g t c =
    let scope = c.args.checker.now.scope in
    let last = c.statements.new.checker.scope in
    let kept = keeps_on scope c.declare_loop_variable.new.checker.scope last c.in_ok-slot.ensures.kept c.in_ok-body.ensures.kept in
    keeps_same scope c.leave.new.self (c.leave.ensures ∙ ap (λ m. left m last) c.mark-mark.ensures.mark ∙ left_again scope last kept)

pub action-returns-in_ok-body-in-While-clause-kept : goal.action-returns-in_ok-body-in-While-clause-kept
action-returns-in_ok-body-in-While-clause-kept g t c = c.in_ok-body-in-While.ensures.kept

pub action-returns-in_ok-body-in-If-clause-kept : goal.action-returns-in_ok-body-in-If-clause-kept
action-returns-in_ok-body-in-If-clause-kept g t c = c.in_ok-body-in-If.ensures.kept

pub action-returns-in_ok-other-in-IfElse-clause-kept : goal.action-returns-in_ok-other-in-IfElse-clause-kept
action-returns-in_ok-other-in-IfElse-clause-kept g t c =
    keeps_on c.args.checker.now.scope c.inner-in-IfElse.new.checker.scope c.inner-in-IfElse-2.new.checker.scope c.in_ok-body-in-IfElse.ensures.kept c.in_ok-other-in-IfElse.ensures.kept

pub action-inner-requires-in-IfElse : goal.action-inner-requires-in-IfElse
action-inner-requires-in-IfElse g t c κs within = (grind (arith, the_lemmas), within)

pub action-inner-requires-in-IfElse-2 : goal.action-inner-requires-in-IfElse-2
action-inner-requires-in-IfElse-2 g t c κs within = (grind (arith, the_lemmas), within)
