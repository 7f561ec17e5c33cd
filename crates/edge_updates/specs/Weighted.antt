-- Lists in columns: things, and their weights in a column beside them.
use Rattle.std.specs.Prelude.{ℤ, pos, List, [], ◌∷◌}

-- each thing with the weight at its index; where the column is over, all weights are 1
abbrev pub weighted : {X : Type 0} → List X → List ℤ → List (X × ℤ)
weighted [] ws = []
weighted (x ∷ xs) [] = (x, pos 1) ∷ weighted xs []
weighted (x ∷ xs) (w ∷ ws) = (x, w) ∷ weighted xs ws
