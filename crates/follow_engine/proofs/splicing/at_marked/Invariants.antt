use Rattle.std.proofs.Common.{◌≡◌, ◌++◌, drop}
use Rattle.std.specs.List.{filter}
use Rattle.vertex_marks.specs.Marks.{is_marked}
use Rattle.follow_engine.proofs.splicing.at_marked.Given as goal

-- those that have come and those that are left are all
abbrev pub invariant-changes : goal.invariant-changes
invariant-changes l =
    l.marked.items ++ filter (λ c. is_marked l.marks c.vertex) (drop l.change-index l.changes) ≡ filter (λ c. is_marked l.marks c.vertex) l.changes
