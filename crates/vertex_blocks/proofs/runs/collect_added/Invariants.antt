use Rattle.std.proofs.Common.{◌≡◌, ◌++◌, drop}
use Rattle.vertex_blocks.specs.inside.Runs.{added_in}
use Rattle.vertex_blocks.proofs.runs.collect_added.Given as goal

abbrev pub invariant-loop-index : goal.invariant-loop-index
invariant-loop-index l = l.added ++ added_in (drop l.index l.updates) ≡ added_in l.updates
