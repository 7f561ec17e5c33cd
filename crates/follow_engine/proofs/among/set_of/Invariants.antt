use Rattle.std.proofs.Common.{◌≡◌, ℕ, ◌<◌, take}
use Rattle.kernels.specs.EdgeApply.{is_member}
use Rattle.follow_engine.proofs.among.set_of.Given as goal

-- the vertices that have come are members
abbrev pub invariant-members : goal.invariant-members
invariant-members l = record {
  vertices : l.set.vertices ≡ l.vertices;
  members : (v : ℕ) → v < l.vertices → is_member v l.set.members ≡ is_member v (take l.member-index l.members);
}
