use Rattle.std.proofs.Common.{◌≡◌, ℕ, ◌<◌, ◌||◌, take}
use Rattle.kernels.specs.EdgeApply.{is_member}
use Rattle.vertex_marks.specs.Marks.{is_marked, room}
use Rattle.follow_engine.proofs.reached.mark_all.Given as goal

-- the vertices that have come are marked
abbrev pub invariant-named : goal.invariant-named
invariant-named l = record {
  room : room l.marks ≡ room l.fn.marks;
  marks : (v : ℕ) → v < l.vertices → is_marked l.marks v ≡ is_marked l.fn.marks v || is_member v (take l.vertex-index l.named);
}
