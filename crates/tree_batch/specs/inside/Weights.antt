-- Columns of weights as lists.
use Rattle.std.specs.Prelude.{ℤ, List}
use Rattle.tree_batch.specs.declared.weights.Weights.{Weights}
use Rattle.tree_batch.specs.declared.weights.Weights.TheVariants.{Bytes, Longs}

-- the weights of a column
abbrev pub weights_in : Weights → List ℤ
weights_in (Bytes weights) = weights.items
weights_in (Longs weights) = weights.items
