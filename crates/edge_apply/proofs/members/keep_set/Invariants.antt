use Rattle.std.proofs.lemmas.List.Filters.{FiltersInPlace}
use Rattle.edge_apply.specs.Words.{is_set}
use Rattle.edge_apply.proofs.members.keep_set.Given as goal

-- those that pass among the positions that have come are at the front, and the others are as they were
abbrev pub invariant-positions : goal.invariant-positions
invariant-positions l = FiltersInPlace (is_set l.words) l.fn.block l.block l.kept l.position
