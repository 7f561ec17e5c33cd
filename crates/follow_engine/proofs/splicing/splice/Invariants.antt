use Rattle.std.proofs.Common.{◌≡◌, ◌++◌, length}
use Rattle.vertex_marks.specs.Marks.{is_marked}
use Rattle.follow_engine.specs.Spliced.{merged, spliced}
use Rattle.follow_engine.specs.inside.Runs.{unmarked}
use Rattle.follow_engine.proofs.splicing.splice.Given as goal

-- what is there, and what is left on both sides, is all
abbrev pub invariant-runs : goal.invariant-runs
invariant-runs l = l.all.items ++ merged l.left (unmarked l.marks l.rest) ≡ spliced (is_marked l.marks) l.found l.recorded

abbrev pub decreases-runs : goal.decreases-runs
decreases-runs l = length l.rest
