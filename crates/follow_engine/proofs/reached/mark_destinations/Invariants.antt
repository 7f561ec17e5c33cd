use Rattle.std.proofs.Common.{◌≡◌, ℕ, ◌<◌, ◌||◌, take}
use Rattle.vertex_marks.specs.Marks.{is_marked, room}
use Rattle.follow_engine.specs.Reached.{is_edge_reached}
use Rattle.follow_engine.proofs.reached.mark_destinations.Given as goal

-- the destinations of the edges that have come are marked
abbrev pub invariant-edges : goal.invariant-edges
invariant-edges l = record {
  room : room l.marks ≡ room l.fn.marks;
  marks : (v : ℕ) → v < l.vertices → is_marked l.marks v ≡ is_marked l.fn.marks v || is_edge_reached l.now l.was (take l.edge-index l.edges) v;
}
