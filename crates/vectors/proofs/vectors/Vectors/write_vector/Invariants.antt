use Rattle.std.proofs.Common.{◌≡◌, drop}
use Rattle.vectors.specs.Changes.{with_changes}
use Rattle.vectors.proofs.vectors.Vectors.write_vector.Given as goal

-- what is left to write comes to what was to be written
abbrev pub invariant-changes : goal.invariant-changes
invariant-changes l = record {
  rest : with_changes l.vector (drop l.change-index l.changes) l.self.vectors ≡ with_changes l.vector l.changes l.fn.self.vectors;
  groups : l.self.groups ≡ l.fn.self.groups;
}
