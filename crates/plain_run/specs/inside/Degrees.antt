-- Edges counted one by one, each at its source.
use Rattle.std.specs.Prelude.{ℕ, ℤ, pos, ◌+ℤ◌, List, [], ◌∷◌, slice_index_or, slice_set}
use Rattle.weighted_edges.specs.Edge.{Edge}
use Rattle.algorithm_meaning.specs.Arithmetic.{wrapped}

abbrev pub counted_once : ℕ → List ℤ → List ℤ
counted_once v degrees = slice_set degrees v (wrapped (slice_index_or degrees v (pos 0) +ℤ pos 1))

abbrev pub counted : List Edge → List ℤ → List ℤ
counted [] degrees = degrees
counted (edge ∷ edges) degrees = counted edges (counted_once edge.0 degrees)
