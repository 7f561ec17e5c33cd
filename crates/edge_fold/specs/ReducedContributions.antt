-- Reduced contributions: what several sources give a destination, as one number.
use Rattle.std.specs.Prelude.{[], ℕ, ℤ, List, ◌∷◌}
use Rattle.apply_options.specs.declared.reduction.Reduction.{Reduction}
use Rattle.algorithm_meaning.specs.Arithmetic.{reduced}

-- a number reduced with those of sources
abbrev pub reduced_with : Reduction → (number : ℕ → ℤ) → ℤ → List ℕ → ℤ
reduced_with r number n [] = n
reduced_with r number n (s ∷ ss) = reduced_with r number (reduced r n (number s)) ss
