use Rattle.std.proofs.Common.{◌≡◌, ◌-◌, ◌++◌}
use Rattle.std.specs.List.{filter, range_with_len}
use Rattle.algorithm_meaning.specs.EdgeApply.{modified, is_modified}
use Rattle.plain_run.proofs.edge_apply.modified_vertices.Given as goal

-- the vertices so far, and those that are to come, are all
abbrev pub invariant-vertices : goal.invariant-vertices
invariant-vertices l =
    l.changed.items ++ filter (is_modified l.vector l.before l.after) (range_with_len l.vertex (l.vertices - l.vertex))
    ≡ modified l.vertices l.vector l.before l.after
