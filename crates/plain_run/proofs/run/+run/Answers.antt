-- Proofs of the mutually recursive functions of src/run.rt.
use Rattle.std.proofs.Common.{ℕ, ◌<◌, ◌≤◌, true, false, Bool, Option, Some, length, ap, sym, ◌∙◌, subst, arith}
use Rattle.typed_tree.specs.IntExpressionTree.{int_expression_tree}
use Rattle.typed_tree.specs.BoolExpressionTree.{bool_expression_tree}
use Rattle.typed_tree.specs.BlockTree.{statement_kind_tree, block_tree}
use Rattle.typed_tree.specs.ProgramTree.{program_tree}
use Rattle.typed_tree.proofs.Blocks.{statement_kind_tree-If, statement_kind_tree-IfElse, statement_kind_tree-While, statement_kind_tree-For}
use Rattle.algorithm_meaning.specs.declared.outcome.End.{End}
use Rattle.algorithm_meaning.specs.declared.state.LoopCounter.{LoopCounter}
use Rattle.algorithm_meaning.specs.Loop.{for_test, for_body, next_of, while_body, while_test}
use Rattle.algorithm_meaning.specs.Meaning.{after_all}
use Rattle.plain_run.specs.inside.Seen.{graph_of, stand, state_of}
use Rattle.plain_run.proofs.InOrder.{all_done, ends_in, goes_on}
use Rattle.plain_run.proofs.Loops.{Again, again_faults, again_goes, again_over, again_stops}
use Rattle.plain_run.proofs.Blocks.{after-If_true, after-IfElse, after-For}
use Rattle.plain_run.proofs.run.+run.Goals as goal

pub run_statement-returns-in-Some-true-clause-meaning :
    goal.run_statement-returns-in-Some-true-clause-meaning
run_statement-returns-in-Some-true-clause-meaning t c =
    let tree = ap statement_kind_tree c.in-If.is ∙ statement_kind_tree-If c.in-If.c c.in-If.body in
    let holds = sym c.decide.ensures ∙ c.in-Some-true.is ∙ ap (λ (b : Bool). Some b) c.in-Some-true.field-0-test in
    let step = after-If_true (program_tree c.args.input.program.now) (graph_of c.args.input.graph.now) c.args.statement.now.number (bool_expression_tree c.in-If.c) (block_tree c.in-If.body.items)
    (state_of c.args.state.now) holds in
    rw (tree, step, ← c.deref.ensures.value) c.run_inside.ensures.meaning

pub run_statement-returns-in-Some-true-decide-clause-meaning :
    goal.run_statement-returns-in-Some-true-decide-clause-meaning
run_statement-returns-in-Some-true-decide-clause-meaning t c =
    let tree = ap statement_kind_tree c.in-IfElse.is ∙ statement_kind_tree-IfElse c.in-IfElse.c c.in-IfElse.body c.in-IfElse.other in
    let holds = sym c.decide-in-IfElse.ensures ∙ c.in-Some-true-decide.is ∙ ap (λ (b : Bool). Some b) c.in-Some-true-decide.field-0-test in
    let step = after-IfElse (program_tree c.args.input.program.now) (graph_of c.args.input.graph.now) c.args.statement.now.number (bool_expression_tree c.in-IfElse.c)
    (block_tree c.in-IfElse.body.items) (block_tree c.in-IfElse.other.items) (state_of c.args.state.now) true holds in
    rw (tree, step, ← c.deref-in-Some-true-decide.ensures.value) c.run_inside-in-Some-true-decide.ensures.meaning

pub run_statement-returns-in-Some-false-decide-clause-meaning :
    goal.run_statement-returns-in-Some-false-decide-clause-meaning
run_statement-returns-in-Some-false-decide-clause-meaning t c =
    let tree = ap statement_kind_tree c.in-IfElse.is ∙ statement_kind_tree-IfElse c.in-IfElse.c c.in-IfElse.body c.in-IfElse.other in
    let fails = sym c.decide-in-IfElse.ensures ∙ c.in-Some-false-decide.is ∙ ap (λ (b : Bool). Some b) c.in-Some-false-decide.field-0-test in
    let step = after-IfElse (program_tree c.args.input.program.now) (graph_of c.args.input.graph.now) c.args.statement.now.number (bool_expression_tree c.in-IfElse.c)
    (block_tree c.in-IfElse.body.items) (block_tree c.in-IfElse.other.items) (state_of c.args.state.now) false fails in
    rw (tree, step, ← c.deref-in-Some-false-decide.ensures.value) c.run_inside-in-Some-false-decide.ensures.meaning

pub run_statement-returns-in-While-clause-meaning :
    goal.run_statement-returns-in-While-clause-meaning
run_statement-returns-in-While-clause-meaning t c =
    let tree = ap statement_kind_tree c.in-While.is ∙ statement_kind_tree-While c.in-While.c c.in-While.body in
    rw (tree, ← c.deref-in-While.ensures.value) c.run_while.ensures.meaning

pub run_statement-returns-in-Some-clause-meaning :
    goal.run_statement-returns-in-Some-clause-meaning
run_statement-returns-in-Some-clause-meaning t c =
    let tree = ap statement_kind_tree c.in-For.is ∙ statement_kind_tree-For c.in-For.field-0 c.in-For.first c.in-For.end c.in-For.body in
    let counter = sym c.counter_of.ensures ∙ c.in-Some.is in
    let step = after-For (program_tree c.args.input.program.now) (graph_of c.args.input.graph.now) c.args.statement.now.number c.in-For.field-0 (int_expression_tree c.in-For.first)
    (int_expression_tree c.in-For.end) (block_tree c.in-For.body.items) (state_of c.args.state.now) c.in-Some.counter counter in
    rw (tree, step, ← c.deref-in-Some.ensures.value) c.run_for.ensures.meaning

pub run_for-returns-then-is_some-clause-meaning : goal.run_for-returns-then-is_some-clause-meaning
run_for-returns-then-is_some-clause-meaning t c =
    let body = for_body (after_all (program_tree c.args.input.program.now) (graph_of c.args.input.graph.now) (block_tree c.args.body.now)) in
    let below = ap (λ (b : Bool). Some b) (sym c.is_below.ensures ∙ c.if-not-is_below.false) in
    again_over LoopCounter for_test body next_of c.args.number c.args.counter (state_of c.args.state.now) c.turns.counter (state_of c.turns.state) (state_of c.run_for_turn.new.state) c.in_ok-end.end
    c.turns.invariant.0 below c.in_ok-end.ensures.meaning (sym c.is_some.ensures ∙ c.if-is_some.true)

pub run_all-statements-preserved : goal.run_all-statements-preserved
run_all-statements-preserved t c =
    let within : c.statements.statement-index < length c.args.block.now = omega (arith, c.statements-test.true, c.statements.auto.statement-index-end) in
    let goes = sym c.is_some.ensures ∙ c.if-is_some.false in (
      goes_on (program_tree c.args.input.program.now) (graph_of c.args.input.graph.now) c.args.block.now c.statements.statement-index c.statement-item.result c.statement-item.result
          (state_of c.statements.state) (state_of c.run_statement.new.state) c.in_ok-end.end _ within c.statement-item.is c.in_ok-end.ensures.meaning goes c.statements.invariant.0,
      omega (arith, c.statements.invariant.1, c.in_ok-end.ensures.turns),
    )

pub run_all-returns-then-is_some-clause-meaning : goal.run_all-returns-then-is_some-clause-meaning
run_all-returns-then-is_some-clause-meaning t c =
    let within : c.statements.statement-index < length c.args.block.now = omega (arith, c.statements-test.true, c.statements.auto.statement-index-end) in
    ends_in (program_tree c.args.input.program.now) (graph_of c.args.input.graph.now) c.args.block.now c.statements.statement-index c.statement-item.result c.statement-item.result
    (state_of c.statements.state) (state_of c.run_statement.new.state) c.in_ok-end.end _ within c.statement-item.is c.in_ok-end.ensures.meaning
    (sym c.is_some.ensures ∙ c.if-is_some.true) c.statements.invariant.0

pub run_all-returns-clause-meaning : goal.run_all-returns-clause-meaning
run_all-returns-clause-meaning t c =
    let past : length c.args.block.now ≤ c.statements.statement-index = omega (arith, c.statements-test.false, c.statements.auto.statement-index-end) in
    all_done (program_tree c.args.input.program.now) (graph_of c.args.input.graph.now) c.args.block.now c.statements.statement-index (state_of c.statements.state) _ past c.statements.invariant.0

pub run_for-turns-preserved : goal.run_for-turns-preserved
run_for-turns-preserved t c =
    let body = for_body (after_all (program_tree c.args.input.program.now) (graph_of c.args.input.graph.now) (block_tree c.args.body.now)) in
    let below = ap (λ (b : Bool). Some b) (sym c.is_below.ensures ∙ c.if-not-is_below.false) in
    let again = again_goes LoopCounter for_test body next_of c.args.number c.args.counter (state_of c.args.state.now) c.turns.counter (state_of c.turns.state)
    (state_of c.run_for_turn.new.state) c.in_ok-end.end
    c.turns.invariant.0 below c.in_ok-end.ensures.meaning (sym c.is_some.ensures ∙ c.if-is_some.false) c.in_ok-end.ensures.fewer in (
      subst (λ (b : LoopCounter). Again LoopCounter for_test body next_of c.args.number c.args.counter (state_of c.args.state.now) b (state_of c.run_for_turn.new.state)) (sym c.go_on.ensures) again,
      omega (arith, c.turns.invariant.1, c.in_ok-end.ensures.turns),
    )

pub run_while-turns-preserved : goal.run_while-turns-preserved
run_while-turns-preserved t c =
    let test = while_test c.args.input.graph.now.vertices (bool_expression_tree c.args.test.now) in
    let body = while_body (after_all (program_tree c.args.input.program.now) (graph_of c.args.input.graph.now) (block_tree c.args.body.now)) in
    let holds = sym c.decide.ensures ∙ c.in-Some-true.is ∙ ap (λ (b : Bool). Some b) c.in-Some-true.field-0-test in (
      again_goes ℕ test body (λ (n : ℕ). n) c.args.number 0 (state_of c.args.state.now) 0 (state_of c.turns.state) (state_of c.run_turn.new.state) c.in_ok-end.end
          c.turns.invariant.0 holds c.in_ok-end.ensures.meaning (sym c.is_some.ensures ∙ c.if-is_some.false) c.in_ok-end.ensures.fewer,
      omega (arith, c.turns.invariant.1, c.in_ok-end.ensures.turns),
    )

pub run_while-returns-then-is_some-clause-meaning : goal.run_while-returns-then-is_some-clause-meaning
run_while-returns-then-is_some-clause-meaning t c =
    let test = while_test c.args.input.graph.now.vertices (bool_expression_tree c.args.test.now) in
    let body = while_body (after_all (program_tree c.args.input.program.now) (graph_of c.args.input.graph.now) (block_tree c.args.body.now)) in
    let holds = sym c.decide.ensures ∙ c.in-Some-true.is ∙ ap (λ (b : Bool). Some b) c.in-Some-true.field-0-test in
    again_over ℕ test body (λ (n : ℕ). n) c.args.number 0 (state_of c.args.state.now) 0 (state_of c.turns.state) (state_of c.run_turn.new.state) c.in_ok-end.end
    c.turns.invariant.0 holds c.in_ok-end.ensures.meaning (sym c.is_some.ensures ∙ c.if-is_some.true)

pub run_while-returns-in-None-clause-meaning : goal.run_while-returns-in-None-clause-meaning
run_while-returns-in-None-clause-meaning t c =
    let test = while_test c.args.input.graph.now.vertices (bool_expression_tree c.args.test.now) in
    let body = while_body (after_all (program_tree c.args.input.program.now) (graph_of c.args.input.graph.now) (block_tree c.args.body.now)) in
    let here = state_of c.turns.state in
    ap (λ (end : Option End). stand end here) c.fault.ensures
    ∙ again_faults ℕ test body (λ (n : ℕ). n) c.args.number 0 (state_of c.args.state.now) 0 here c.turns.invariant.0 (sym c.decide.ensures ∙ c.in-None.is)

pub run_while-returns-in-Some-false-clause-meaning : goal.run_while-returns-in-Some-false-clause-meaning
run_while-returns-in-Some-false-clause-meaning t c =
    let test = while_test c.args.input.graph.now.vertices (bool_expression_tree c.args.test.now) in
    let body = while_body (after_all (program_tree c.args.input.program.now) (graph_of c.args.input.graph.now) (block_tree c.args.body.now)) in
    let fails = sym c.decide.ensures ∙ c.in-Some-false.is ∙ ap (λ (b : Bool). Some b) c.in-Some-false.field-0-test in
    again_stops ℕ test body (λ (n : ℕ). n) c.args.number 0 (state_of c.args.state.now) 0 (state_of c.turns.state) c.turns.invariant.0 fails
