use Rattle.std.proofs.Common.{◌≡◌, ℕ, false, [], take}
use Rattle.edge_fold.specs.Changed.{AreApart, changes_or, is_named}
use Rattle.edge_apply.specs.inside.Merged.{changes_in_parts}
use Rattle.edge_apply.proofs.appended.append_changes.Given as goal

-- what is there is whole, and a vector that is not there has no change in the parts that have come
abbrev pub invariant-parts : goal.invariant-parts
invariant-parts l = record {
  once : AreApart l.vectors.items;
  whole : (x : ℕ) → changes_or x l.vectors.items (changes_in_parts x l.parts) ≡ changes_in_parts x l.parts;
  none : (x : ℕ) → is_named x l.vectors.items ≡ false → changes_in_parts x (take l.part-index l.parts) ≡ [];
}
