use Rattle.std.proofs.Common.{◌≡◌, ℕ, ◌<◌, ◌||◌, take}
use Rattle.kernels.specs.EdgeApply.{is_member}
use Rattle.edge_apply.proofs.passing.insert_all.Given as goal

-- the vertices that have come are members
abbrev pub invariant-vertices : goal.invariant-vertices
invariant-vertices l = record {
  vertices : l.set.vertices ≡ l.fn.set.vertices;
  form : l.set.form ≡ l.fn.set.form;
  members : (v : ℕ) → v < l.fn.set.vertices → is_member v l.set.members ≡ is_member v l.fn.set.members || is_member v (take l.vertex-index l.vertices);
}
