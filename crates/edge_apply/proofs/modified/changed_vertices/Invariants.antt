use Rattle.std.proofs.Common.{◌≡◌, ℕ, ◌≤◌, ℤ, List, drop}
use Rattle.kernels.specs.Value.{entry}
use Rattle.edge_fold.specs.Changed.{changed}
use Rattle.vertex_sets.specs.VertexSet.{IsAscendingBelow}
use Rattle.edge_apply.proofs.Differences.{HasFound}
use Rattle.edge_apply.proofs.modified.changed_vertices.Given as goal

-- the vertices below the next are found
abbrev pub invariant-changes : goal.invariant-changes
invariant-changes l = record {
  inside : l.next ≤ l.vertices;
  ascending : IsAscendingBelow l.next l.members.items;
  found : (before after : List (List ℤ)) (vector : ℕ) → l.changes ≡ changed l.vertices (entry before vector) (entry after vector)
      → HasFound l.vertices (entry before vector) (entry after vector) l.members.items l.next (drop l.change-index l.changes);
}
