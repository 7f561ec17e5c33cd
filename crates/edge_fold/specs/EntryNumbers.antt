-- Numbers of sources and weights.
use Rattle.std.specs.Prelude.{[], ℕ, ℤ, List, ◌∷◌}
use Rattle.apply_options.specs.declared.reduction.Reduction.{Reduction}
use Rattle.algorithm_meaning.specs.Arithmetic.{arithmetic, reduced}
use Rattle.vectors.specs.Lanes.{lane_entry}
use Rattle.edge_fold.specs.declared.entry_numbers.EntryWith.{EntryWith}

-- the source's entry on the left of the operator, and the weight on its right
abbrev pub entry_with : EntryWith → (source : ℕ) → (weight : ℤ) → ℤ
entry_with e s w = arithmetic e.operator (lane_entry e.lane s) w

-- a number reduced with those of entries
abbrev pub reduced_over : Reduction → (number : ℕ → ℤ → ℤ) → ℤ → List (ℕ × ℤ) → ℤ
reduced_over r number n [] = n
reduced_over r number n (e ∷ es) = reduced_over r number (reduced r n (number e.0 e.1)) es
