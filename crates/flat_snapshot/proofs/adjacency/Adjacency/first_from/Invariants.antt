use Rattle.std.proofs.Common.{◌≡◌, ℕ, ◌-◌, ◌<◌, ◌≤◌, []}
use Rattle.pages.specs.Vertices.{neighbours_of}
use Rattle.flat_snapshot.proofs.adjacency.Adjacency.first_from.Given as goal

abbrev pub invariant-loop-vertex : goal.invariant-loop-vertex
invariant-loop-vertex l = record {
  from : l.fn.from ≤ l.vertex;
  none : (w : ℕ) → l.fn.from ≤ w → w < l.vertex → neighbours_of w l.fn.self ≡ [];
}

abbrev pub decreases-loop-vertex : goal.decreases-loop-vertex
decreases-loop-vertex l = l.end - l.vertex
