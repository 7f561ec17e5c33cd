-- Numbers by vertices, beside the unit of a reduction for those that do not pass.
use Rattle.std.specs.Prelude.{ℕ, ℤ, if◌then◌else◌, Bool, ◌≡◌, ◌<◌, pos, List, length, slice_index_or}
use Rattle.apply_options.specs.declared.reduction.Reduction.{Reduction}
use Rattle.typed_tree.specs.declared.expression.Operator.TheVariants as operator
use Rattle.algorithm_meaning.specs.Laws.{unit_of}
use Rattle.kernels.specs.Arithmetic.{arithmetic}
use Rattle.kernels.specs.Value.{entry}
use Rattle.kernels.specs.declared.shape.Shape.{Shape}
use Rattle.kernels.specs.declared.shape.Shape.TheVariants as shape

-- the number of a vertex that passes, and the unit for another
abbrev pub number_or_unit : Reduction → (number : ℕ → ℤ) → (passes : ℕ → Bool) → (vertex : ℕ) → ℤ
number_or_unit r number passes v = if passes v then number v else unit_of r

-- a list of these, by their vertices
abbrev pub AreMasked : Reduction → (number : ℕ → ℤ) → (passes : ℕ → Bool) → List ℤ → Type 0
AreMasked r number passes xs = (v : ℕ) → v < length xs → slice_index_or xs v (pos 0) ≡ number_or_unit r number passes v

-- a list of what a function of a shape gives at the vertices that pass, over these vectors; an empty list is one too
abbrev pub IsMaskOf : Shape → List (List ℤ) → (passes : ℕ → Bool) → List ℤ → Type 0
IsMaskOf shape.Other vs passes xs = Unit
IsMaskOf (shape.Source x r) vs passes xs = AreMasked r (λ s. pos s) passes xs
IsMaskOf (shape.Entry x r y) vs passes xs = AreMasked r (λ s. entry vs y s) passes xs
IsMaskOf (shape.EntryPlus x r y n) vs passes xs = AreMasked r (λ s. arithmetic operator.Add (entry vs y s) n) passes xs
IsMaskOf (shape.Constant x r n) vs passes xs = AreMasked r (λ s. n) passes xs
IsMaskOf (shape.EntryWith x r y o) vs passes xs = Unit
