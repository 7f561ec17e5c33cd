use Rattle.std.proofs.Common.{◌≡◌, ℕ, ◌<◌, ◌==◌, ◌||◌}
use Rattle.std.specs.List.{list_any}
use Rattle.vertex_marks.specs.Marks.{is_marked, room}
use Rattle.follow_engine.specs.Reached.{leads}
use Rattle.follow_engine.proofs.reached.mark_row.Given as goal

-- what is marked, with the destinations that are left, is the row
abbrev pub invariant-destinations : goal.invariant-destinations
invariant-destinations l = record {
  room : room l.marks ≡ room l.fn.marks;
  marks : (v : ℕ) → v < l.flat.vertices → is_marked l.marks v || list_any (λ d. d.0 == v) l.destination-iterator ≡ is_marked l.fn.marks v || leads l.flat.edges l.source v;
}
