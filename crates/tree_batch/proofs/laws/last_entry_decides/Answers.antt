-- Proofs of `last_entry_decides`, src/laws.rt.
use Rattle.std.proofs.Common.{unwrap_or, ◌∷◌, ◌++◌, ◌∙◌, ap}
use Rattle.tree_batch.specs.Edge.{weight_in, vertices_after, weight_after}
use Rattle.tree_batch.proofs.AllEdges.{weight_within}
use Rattle.tree_batch.proofs.Deciding.{last_decides, none_decides}
use Rattle.tree_batch.proofs.laws.last_entry_decides.Goals as goal

pub returns-clause-named : goal.returns-clause-named
returns-clause-named c g front entry back p within names none =
    let batch = front ++ entry ∷ back in
    weight_within (weight_after g.edges batch) (vertices_after g.vertices batch) p within ∙ ap (λ o. unwrap_or o (weight_in p g.edges)) (last_decides front entry back p names none)

pub returns-clause-others : goal.returns-clause-others
returns-clause-others c g batch p within none =
    weight_within (weight_after g.edges batch) (vertices_after g.vertices batch) p within ∙ ap (λ o. unwrap_or o (weight_in p g.edges)) (none_decides batch p none)
