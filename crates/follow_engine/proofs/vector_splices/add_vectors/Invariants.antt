use Rattle.std.proofs.Common.{◌≡◌, ℕ, false, [], take}
use Rattle.edge_fold.specs.Changed.{AreApart, changes_of, is_named}
use Rattle.vertex_marks.specs.Marks.{is_marked}
use Rattle.follow_engine.specs.inside.Among.{HasSpliced}
use Rattle.follow_engine.proofs.vector_splices.add_vectors.Given as goal

-- the first vectors of the list are there
abbrev pub invariant-listed : goal.invariant-listed
invariant-listed l = record {
  once : AreApart l.fn.vectors.items → AreApart l.vectors.items;
  all : (x : ℕ) → HasSpliced (is_marked l.marks) l.found l.recorded x l.fn.vectors.items → HasSpliced (is_marked l.marks) l.found l.recorded x l.vectors.items;
  named : (x : ℕ) → is_named x l.vectors.items ≡ false → (is_named x l.fn.vectors.items ≡ false) × (changes_of x (take l.of_vector-index l.listed) ≡ []);
}
