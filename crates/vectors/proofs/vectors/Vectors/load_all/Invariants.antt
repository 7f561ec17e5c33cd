use Rattle.std.proofs.Common.{◌≡◌, ℕ, ◌<◌, [], get_or, length}
use Rattle.vectors.proofs.vectors.Vectors.load_all.Given as goal

abbrev pub invariant-arrays : goal.invariant-arrays
invariant-arrays l = record {
  groups : l.self.groups ≡ l.fn.self.groups;
  count : length l.self.vectors ≡ length l.arrays;
  even : (i : ℕ) → length (get_or l.arrays i []) ≡ length (get_or l.self.vectors i []);
  loaded : (i : ℕ) → i < l.vector → get_or l.self.vectors i [] ≡ get_or l.arrays i [];
}
