use Rattle.std.proofs.Common.{◌≡◌, ◌-◌, ◌++◌}
use Rattle.std.specs.List.{range_with_len}
use Rattle.plain_run.proofs.initial_state.vertices_below.Given as goal

-- the vertices so far, and those that are to come, are all
abbrev pub invariant-vertices : goal.invariant-vertices
invariant-vertices l = l.members.items ++ range_with_len l.vertex (l.vertices - l.vertex) ≡ range_with_len 0 l.vertices
