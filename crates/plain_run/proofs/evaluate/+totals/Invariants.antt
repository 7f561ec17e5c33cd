use Rattle.std.proofs.Common.{◌≡◌, drop}
use Rattle.plain_run.specs.inside.Chain.{operands_value}
use Rattle.plain_run.specs.inside.Seen.{scope_of}
use Rattle.plain_run.proofs.evaluate.+totals.Given as goal

-- what is left to do from here comes to what was to be done
abbrev pub invariant-before_operands-operands : goal.invariant-before_operands-operands
invariant-before_operands-operands l =
    operands_value l.vectors l.sets (scope_of l.scope) l.total.number (drop l.operand-index l.operands)
    ≡ operands_value l.vectors l.sets (scope_of l.scope) l.fn.left.number l.operands
