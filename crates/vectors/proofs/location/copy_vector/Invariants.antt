use Rattle.std.proofs.Common.{◌≡◌, map}
use Rattle.std.specs.List.{range_with_len}
use Rattle.vectors.specs.Lanes.{lane_entry}
use Rattle.vectors.proofs.location.copy_vector.Given as goal

-- the entries of the vertices so far
abbrev pub invariant-vertices : goal.invariant-vertices
invariant-vertices l = l.entries.items ≡ map (λ v. lane_entry l.lane v) (range_with_len 0 l.vertex)
