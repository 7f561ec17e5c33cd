use Rattle.std.proofs.Common.{◌≡◌, false}
use Rattle.follow_engine.specs.Differing.{differ_at}
use Rattle.follow_engine.proofs.differing_vertices.differ.Given as goal

-- none of the vectors so far differs
abbrev pub invariant-vectors : goal.invariant-vectors
invariant-vectors l = differ_at l.now.vectors l.was.vectors l.vector l.vertex ≡ false
