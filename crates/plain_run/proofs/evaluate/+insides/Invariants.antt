use Rattle.std.proofs.Common.{◌≡◌, drop}
use Rattle.plain_run.specs.inside.Chain.{operands_stay_inside}
use Rattle.plain_run.specs.inside.Seen.{scope_of}
use Rattle.plain_run.proofs.evaluate.+insides.Given as goal

-- all operands so far stay inside
abbrev pub invariant-are_inside-operands : goal.invariant-are_inside-operands
invariant-are_inside-operands l =
    operands_stay_inside l.vertices l.vectors l.sets (scope_of l.scope) (drop l.operand-index l.operands)
    ≡ operands_stay_inside l.vertices l.vectors l.sets (scope_of l.scope) l.operands
