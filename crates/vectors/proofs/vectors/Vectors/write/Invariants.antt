use Rattle.std.proofs.Common.{◌≡◌, drop}
use Rattle.vectors.specs.Changes.{with_all_changes}
use Rattle.vectors.proofs.vectors.Vectors.write.Given as goal

-- what is left to write comes to what was to be written
abbrev pub invariant-vectors : goal.invariant-vectors
invariant-vectors l = record {
  rest : with_all_changes (drop l.of_vector-index l.of_vector-items) l.self.vectors ≡ with_all_changes l.changes.vectors.items l.fn.self.vectors;
  groups : l.self.groups ≡ l.fn.self.groups;
}
