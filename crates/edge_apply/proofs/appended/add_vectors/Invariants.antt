use Rattle.std.proofs.Common.{◌≡◌, ℕ, false, [], take}
use Rattle.edge_fold.specs.Changed.{AreApart, changes_of, changes_or, is_named}
use Rattle.edge_apply.specs.inside.Merged.{changes_in_parts}
use Rattle.edge_apply.proofs.appended.add_vectors.Given as goal

-- the first vectors of the part are there
abbrev pub invariant-vectors : goal.invariant-vectors
invariant-vectors l = record {
  once : AreApart l.fn.vectors.items → AreApart l.vectors.items;
  all : (x : ℕ) → changes_or x l.fn.vectors.items (changes_in_parts x l.parts) ≡ changes_in_parts x l.parts → changes_or x l.vectors.items (changes_in_parts x l.parts) ≡ changes_in_parts x l.parts;
  named : (x : ℕ) → is_named x l.vectors.items ≡ false → (is_named x l.fn.vectors.items ≡ false) × (changes_of x (take l.of_vector-index l.part) ≡ []);
}
