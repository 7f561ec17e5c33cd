use Rattle.std.proofs.Common.{◌≡◌, ◌-◌, ◌^◌, min, take}
use Rattle.edge_apply.specs.GatheredNumbers.{numbers_for}
use Rattle.edge_apply.proofs.merging.count_numbers.Given as goal

-- the numbers of the vectors that have come are counted
abbrev pub invariant-vectors : goal.invariant-vectors
invariant-vectors l = l.numbers ≡ min (numbers_for (take l.of_vector-index l.vectors)) (2 ^ 64 - 1)
