-- The vertices at which vectors differ.
use Rattle.std.specs.Prelude.{ℕ, suc, zero, ℤ, Bool, false, not, ◌||◌, List}
use Rattle.algorithm_meaning.specs.Arithmetic.{int_equal}
use Rattle.algorithm_meaning.specs.Value.{entry}

-- whether one of the first n vectors has another entry at a vertex
abbrev pub differ_at : (a b : List (List ℤ)) → (n v : ℕ) → Bool
differ_at a b zero v = false
differ_at a b (suc n) v = differ_at a b n v || not (int_equal (entry a n v) (entry b n v))
