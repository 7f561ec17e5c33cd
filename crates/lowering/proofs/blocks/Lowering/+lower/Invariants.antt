use Rattle.std.proofs.Common.{◌≡◌, ◌≤◌, ◌+◌, ◌*◌, false, length}
use Rattle.typed_tree.specs.BlockTree.{statement_kind_tree, block_tree}
use Rattle.typed_tree.specs.ProgramTree.{program_tree}
use Rattle.plans.specs.Plan.{depth_after_all, plan_all}
use Rattle.lowering.specs.inside.Visible.{depth_of}
use Rattle.lowering.proofs.Measures.{action_size, block_size}
use Rattle.lowering.proofs.Statements.{HasPut}
use Rattle.lowering.proofs.blocks.Lowering.+lower.Given as goal

abbrev pub invariant-put_all-statements : goal.invariant-put_all-statements
invariant-put_all-statements l =
    let p = program_tree l.self.program.now in
    let s = l.self.schedule.now in
    let whole = plan_all p s (length l.fn.code.items) (depth_of l.fn.visible) false (block_tree l.fn.statements) in
    record {
      put : HasPut p s whole l.fn.code.items l.code.items (depth_of l.visible) l.is_done (block_tree l.left);
      size : block_size (block_tree l.left) ≤ block_size (block_tree l.fn.statements);
      visible : depth_after_all (block_tree l.fn.statements) (depth_of l.fn.visible) ≡ depth_after_all (block_tree l.left) (depth_of l.visible);
    }

abbrev pub decreases-put_all-statements : goal.decreases-put_all-statements
decreases-put_all-statements l = length l.left

abbrev pub decreases-put_all : goal.decreases-put_all
decreases-put_all l = 6 * block_size (block_tree l.statements.now)

abbrev pub decreases-put_next : goal.decreases-put_next
decreases-put_next l = 6 * action_size (statement_kind_tree l.statement.now.action) + 1

abbrev pub decreases-put_statement : goal.decreases-put_statement
decreases-put_statement l = 6 * action_size (statement_kind_tree l.statement.now.action)

abbrev pub decreases-put_if : goal.decreases-put_if
decreases-put_if l = 6 * block_size (block_tree l.body.now) + 2

abbrev pub decreases-put_apply_schedule : goal.decreases-put_apply_schedule
decreases-put_apply_schedule l = 6 * (block_size (block_tree l.branches.body.now) + block_size (block_tree l.branches.other.now)) + 2

abbrev pub decreases-put_while : goal.decreases-put_while
decreases-put_while l = 6 * block_size (block_tree l.body.now) + 2

abbrev pub decreases-put_for : goal.decreases-put_for
decreases-put_for l = 6 * block_size (block_tree l.body.now) + 2

abbrev pub decreases-put_inside : goal.decreases-put_inside
decreases-put_inside l = 6 * block_size (block_tree l.body.now) + 1
