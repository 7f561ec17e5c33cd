-- What a set operation makes of two ascending lists.
use Rattle.std.specs.Prelude.{ℕ, ◌+◌, List}
use Rattle.ascending_lists.specs.Sets.{union, difference}
use Rattle.ascending_lists.specs.declared.set_operation.Operation.{Operation}
use Rattle.ascending_lists.specs.declared.set_operation.Operation.TheVariants.{Union, Difference}

-- the elements of the answer
abbrev pub combined : Operation → List ℕ → List ℕ → List ℕ
combined Union xs ys = union xs ys
combined Difference xs ys = difference xs ys

-- how many elements the answer for lists of m and n elements has if they have none in common
abbrev pub most : Operation → ℕ → ℕ → ℕ
most Union m n = m + n
most Difference m n = m
