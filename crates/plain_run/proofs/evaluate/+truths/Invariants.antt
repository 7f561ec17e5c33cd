use Rattle.std.proofs.Common.{◌≡◌, drop}
use Rattle.plain_run.specs.inside.Chain.{conditions_truth}
use Rattle.plain_run.specs.inside.Seen.{scope_of}
use Rattle.plain_run.proofs.evaluate.+truths.Given as goal

-- what is left to do from here comes to what was to be done
abbrev pub invariant-before_conditions-conditions : goal.invariant-before_conditions-conditions
invariant-before_conditions-conditions l =
    conditions_truth l.vectors l.sets (scope_of l.scope) l.connective l.all (drop l.c-index l.conditions)
    ≡ conditions_truth l.vectors l.sets (scope_of l.scope) l.connective l.left l.conditions
