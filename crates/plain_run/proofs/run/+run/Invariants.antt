use Rattle.std.proofs.Common.{◌≡◌, ℕ, ◌≤◌, drop}
use Rattle.typed_tree.specs.BoolExpressionTree.{bool_expression_tree}
use Rattle.typed_tree.specs.BlockTree.{block_tree}
use Rattle.typed_tree.specs.ProgramTree.{program_tree}
use Rattle.algorithm_meaning.specs.declared.state.LoopCounter.{LoopCounter}
use Rattle.algorithm_meaning.specs.Loop.{while_test, while_body, for_test, for_body, next_of}
use Rattle.algorithm_meaning.specs.Meaning.{after_all}
use Rattle.plain_run.specs.inside.Seen.{graph_of, state_of}
use Rattle.plain_run.proofs.Loops.{Again}
use Rattle.plain_run.proofs.run.+run.Given as goal

-- what is left to do from here comes to what was to be done
abbrev pub invariant-run_all-statements : goal.invariant-run_all-statements
invariant-run_all-statements l =
    (after_all (program_tree l.input.program.now) (graph_of l.input.graph.now) (block_tree (drop l.statement-index l.block)) (state_of l.state)
    ≡ after_all (program_tree l.input.program.now) (graph_of l.input.graph.now) (block_tree l.block) (state_of l.fn.state))
    × (l.state.turns ≤ l.fn.state.turns)

abbrev pub invariant-run_for-turns : goal.invariant-run_for-turns
invariant-run_for-turns l =
    Again LoopCounter for_test (for_body (after_all (program_tree l.input.program.now) (graph_of l.input.graph.now) (block_tree l.body))) next_of l.number
    l.fn.counter (state_of l.fn.state) l.counter (state_of l.state)
    × (l.state.turns ≤ l.fn.state.turns)

abbrev pub decreases-run_for-turns : goal.decreases-run_for-turns
decreases-run_for-turns l = l.state.turns

abbrev pub invariant-run_while-turns : goal.invariant-run_while-turns
invariant-run_while-turns l =
    Again ℕ (while_test l.input.graph.now.vertices (bool_expression_tree l.test)) (while_body (after_all (program_tree l.input.program.now) (graph_of l.input.graph.now) (block_tree l.body)))
    (λ (n : ℕ). n) l.number
    0 (state_of l.fn.state) 0 (state_of l.state)
    × (l.state.turns ≤ l.fn.state.turns)

abbrev pub decreases-run_while-turns : goal.decreases-run_while-turns
decreases-run_while-turns l = l.state.turns
