use Rattle.std.proofs.Common.{◌≡◌, drop}
use Rattle.typed_tree.specs.Fold.{all_pass, conditions_fold}
use Rattle.typed_tree.proofs.accesses.+conditions.Given as goal

-- all conditions so far pass
abbrev pub invariant-conditions_pass-conditions : goal.invariant-conditions_pass-conditions
invariant-conditions_pass-conditions g l =
    let f = all_pass (g.T.AccessTest.passes l.test) in
    conditions_fold f (drop l.c-index l.conditions) ≡ conditions_fold f l.conditions
