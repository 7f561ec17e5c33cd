use Rattle.std.proofs.Common.{◌≡◌, ◌++◌, drop}
use Rattle.typed_tree.specs.ProgramTree.{program_tree}
use Rattle.plan_text.specs.inside.Rows.{operand_words}
use Rattle.plan_text.specs.Expressions.{spaced}
use Rattle.plan_text.proofs.expressions.+integers.Given as goal

-- with what is left to put it is what was to be put
abbrev pub invariant-put_operands-operands : goal.invariant-put_operands-operands
invariant-put_operands-operands l =
    l.out.items ++ spaced (operand_words (program_tree l.lines.program.now) (drop l.operand-index l.operands))
    ≡ l.fn.out.items ++ spaced (operand_words (program_tree l.lines.program.now) l.operands)
