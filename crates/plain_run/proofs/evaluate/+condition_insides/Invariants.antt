use Rattle.std.proofs.Common.{◌≡◌, drop}
use Rattle.plain_run.specs.inside.Chain.{conditions_stay_inside}
use Rattle.plain_run.specs.inside.Seen.{scope_of}
use Rattle.plain_run.proofs.evaluate.+condition_insides.Given as goal

-- all conditions so far stay inside
abbrev pub invariant-conditions_are_inside-conditions : goal.invariant-conditions_are_inside-conditions
invariant-conditions_are_inside-conditions l =
    conditions_stay_inside l.vertices l.vectors l.sets (scope_of l.scope) (drop l.c-index l.conditions)
    ≡ conditions_stay_inside l.vertices l.vectors l.sets (scope_of l.scope) l.conditions
