-- Beside `ValueTree`: definitions that no public contract cites.
use Rattle.std.specs.Prelude.{[], Bool, false, ◌||◌, List, ◌∷◌}
use Rattle.typed_tree.specs.declared.expression.Operand.{Operand}
use Rattle.typed_tree.specs.IntExpressionTree.{int_expression_tree}
use Rattle.expression_types.specs.ValueTree.{reads_entry}

-- in one of the operands
abbrev pub operands_read_entry : List Operand → Bool
operands_read_entry [] = false
operands_read_entry (o ∷ others) = reads_entry (int_expression_tree o.integer) || operands_read_entry others
