use Rattle.std.proofs.Common.{◌≡◌, drop}
use Rattle.expression_types.specs.inside.ValueTree.{operands_read_entry}
use Rattle.expression_types.proofs.value.+entries.Given as goal

-- in none of the operands before was an entry read
abbrev pub invariant-any_reads_entry-operands : goal.invariant-any_reads_entry-operands
invariant-any_reads_entry-operands l = operands_read_entry l.operands ≡ operands_read_entry (drop l.operand-index l.operands)
