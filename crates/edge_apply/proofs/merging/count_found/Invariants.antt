use Rattle.std.proofs.Common.{◌≡◌, ◌-◌, ◌^◌, min, take}
use Rattle.edge_apply.specs.GatheredNumbers.{numbers_found}
use Rattle.edge_apply.proofs.merging.count_found.Given as goal

-- the numbers of the pieces that have come are counted
abbrev pub invariant-found : goal.invariant-found
invariant-found l = l.numbers ≡ min (numbers_found (take l.one-index l.found)) (2 ^ 64 - 1)
