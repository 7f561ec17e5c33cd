use Rattle.std.proofs.Common.{◌≡◌, ◌++◌, drop}
use Rattle.typed_tree.specs.ProgramTree.{program_tree}
use Rattle.plan_text.specs.inside.Rows.{connected_words}
use Rattle.plan_text.specs.Expressions.{spaced}
use Rattle.plan_text.proofs.expressions.+conditions.Given as goal

-- with what is left to put it is what was to be put
abbrev pub invariant-put_connected-conditions : goal.invariant-put_connected-conditions
invariant-put_connected-conditions l =
    l.out.items ++ spaced (connected_words (program_tree l.lines.program.now) l.connective (drop l.condition-index l.conditions))
    ≡ l.fn.out.items ++ spaced (connected_words (program_tree l.lines.program.now) l.connective l.conditions)
