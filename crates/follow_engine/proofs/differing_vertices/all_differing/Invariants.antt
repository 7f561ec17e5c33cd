use Rattle.std.proofs.Common.{◌≡◌, ◌-◌, ◌++◌}
use Rattle.std.specs.List.{filter, range_with_len}
use Rattle.algorithm_meaning.specs.VertexSets.{all_below}
use Rattle.follow_engine.specs.Differing.{differ_at}
use Rattle.follow_engine.proofs.differing_vertices.all_differing.Given as goal

-- those found so far, and those among the vertices that are left, are all
abbrev pub invariant-vertices : goal.invariant-vertices
invariant-vertices l =
    l.found.items ++ filter (differ_at l.now.vectors l.was.vectors l.count) (range_with_len l.vertex (l.n - l.vertex))
    ≡ filter (differ_at l.now.vectors l.was.vectors l.count) (all_below l.n)
