-- Updates with weights as pairs.
use Rattle.std.specs.Prelude.{ℤ, List, map}
use Rattle.edge_updates.specs.declared.edge_update.EdgeUpdate.{EdgeUpdate}
use Rattle.edge_updates.specs.declared.weighted_update.WeightedUpdate.{WeightedUpdate}

-- the update and its weight
abbrev pub weighted_pair : WeightedUpdate → EdgeUpdate × ℤ
weighted_pair w = (w.update, w.weight)

-- each update with its weight
abbrev pub pairs_in : List WeightedUpdate → List (EdgeUpdate × ℤ)
pairs_in ws = map weighted_pair ws
