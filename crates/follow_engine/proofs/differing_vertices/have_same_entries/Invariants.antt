use Rattle.std.proofs.Common.{◌≡◌, ℕ, false}
use Rattle.follow_engine.specs.Differing.{differ_at}
use Rattle.follow_engine.proofs.differing_vertices.have_same_entries.Given as goal

-- the first vectors differ nowhere
abbrev pub invariant-vectors : goal.invariant-vectors
invariant-vectors l = (v : ℕ) → differ_at l.now.vectors l.was.vectors l.vector v ≡ false
