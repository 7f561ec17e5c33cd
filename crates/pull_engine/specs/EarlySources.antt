-- Early sources: the value of several sources where one decides alone.
use Rattle.std.specs.Prelude.{◌≢◌, ℕ, ℤ, Option, Some, None, List, [], ◌∷◌}
use Rattle.kernels.specs.Arithmetic.{reduced}
use Rattle.apply_options.specs.declared.reduction.Reduction.{Reduction}
use Rattle.apply_options.specs.declared.reduction.Reduction.TheVariants as reduction

-- a number reduced with that of a source, where there is one
abbrev pub reduced_once : Reduction → (number : ℕ → ℤ) → ℤ → Option ℕ → ℤ
reduced_once r number n None = n
reduced_once r number n (Some s) = reduced r n (number s)

-- reducing with a number a second time changes nothing
abbrev pub CountsOnce : Reduction → Type 0
CountsOnce r = r ≢ reduction.Plus

-- the first of a list, where there is one
abbrev pub first_of : List ℕ → Option ℕ
first_of [] = None
first_of (x ∷ xs) = Some x

-- the last of a list, or another where there is none
abbrev pub last_or : Option ℕ → List ℕ → Option ℕ
last_or other [] = other
last_or other (x ∷ xs) = last_or (Some x) xs

abbrev pub last_source : List ℕ → Option ℕ
last_source xs = last_or None xs
