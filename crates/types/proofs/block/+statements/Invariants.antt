use Rattle.std.proofs.Common.{◌≡◌, drop}
use Rattle.syntax.specs.SourceViews.{block_tree}
use Rattle.expression_types.specs.Faults.{outcome}
use Rattle.expression_types.specs.ScopeTree.{KeepsNames}
use Rattle.types.specs.inside.BlockMeaning.{block_typed}
use Rattle.initializer_types.specs.Views.{checker_of}
use Rattle.types.proofs.block.+statements.Given as goal

-- what the statements that are left give after those so far is what all give
abbrev pub invariant-statements-statements : goal.invariant-statements-statements
invariant-statements-statements g l =
    let m = g.K.BlockKind.meaning in
    (outcome l.fn.checker.first_fault (block_typed m (checker_of l.fn.checker) (block_tree l.block))
    ≡ outcome l.checker.first_fault (m.row_typed (checker_of l.checker) (m.row_tree l.typed.items) (block_tree (drop l.statement-index l.block))))
    × KeepsNames l.fn.checker.scope l.checker.scope
