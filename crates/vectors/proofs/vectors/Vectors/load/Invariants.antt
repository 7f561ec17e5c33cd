use Rattle.std.proofs.Common.{◌≡◌}
use Rattle.vectors.proofs.Loads.{IsLoaded}
use Rattle.vectors.proofs.vectors.Vectors.load.Given as goal

abbrev pub invariant-numbers : goal.invariant-numbers
invariant-numbers l = record {
  groups : l.self.groups ≡ l.fn.self.groups;
  loaded : IsLoaded l.fn.self.vectors l.vector l.numbers l.vertex l.self.vectors;
}
