use Rattle.std.proofs.Common.{◌≡◌, ◌-◌}
use Rattle.std.specs.List.{range_with_len}
use Rattle.edge_apply.proofs.vertices.number_between.Given as goal

-- the numbers below the next are there
abbrev pub invariant-vertices : goal.invariant-vertices
invariant-vertices l = l.part.items ≡ range_with_len l.first (l.vertex - l.first)
