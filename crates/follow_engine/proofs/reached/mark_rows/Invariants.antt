use Rattle.std.proofs.Common.{◌≡◌, ℕ, ◌+◌, ◌<◌, ◌||◌, drop, take}
use Rattle.vertex_marks.specs.Marks.{is_marked, room}
use Rattle.follow_engine.specs.Reached.{is_row_reached}
use Rattle.follow_engine.specs.Work.{edges_from_some}
use Rattle.follow_engine.proofs.reached.mark_rows.Given as goal

-- the rows of the sources that have come are marked, and their edges are taken off the budget
abbrev pub invariant-sources : goal.invariant-sources
invariant-sources l = record {
  room : room l.marks ≡ room l.fn.marks;
  marks : (v : ℕ) → v < l.flat.vertices → is_marked l.marks v ≡ is_marked l.fn.marks v || is_row_reached l.flat.edges l.end (take l.source-index l.sources) v;
  left : l.left + edges_from_some l.flat.edges l.end l.sources ≡ l.budget + edges_from_some l.flat.edges l.end (drop l.source-index l.sources);
}
