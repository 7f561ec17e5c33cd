use Rattle.std.proofs.Common.{◌≡◌, ◌++◌, drop}
use Rattle.std.specs.List.{filter}
use Rattle.follow_engine.specs.Differing.{differ_at}
use Rattle.follow_engine.proofs.differing_vertices.differing.Given as goal

-- those found so far, and those among the vertices that are left, are all
abbrev pub invariant-vertices : goal.invariant-vertices
invariant-vertices l =
    l.found.items ++ filter (differ_at l.now.vectors l.was.vectors l.count) (drop l.vertex-index l.vertices)
    ≡ filter (differ_at l.now.vectors l.was.vectors l.count) l.vertices
