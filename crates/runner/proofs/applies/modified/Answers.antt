-- Proofs of `modified`, src/applies.rt.
use Rattle.std.proofs.Common.{◌∙◌, ◌≤◌, length, ap, arith}
use Rattle.vertex_sets.specs.VertexSet.{VertexSubset}
use Rattle.runner.proofs.Applying.{none_modified}
use Rattle.runner.proofs.Showing.{if_ok}
use Rattle.runner.proofs.applies.modified.Goals as goal

pub returns-else-vector-vector_count-clause-members : goal.returns-else-vector-vector_count-clause-members
returns-else-vector-vector_count-clause-members c =
    let s = c.args.state.now in
    let valid = c.vertices-else-vector-vector_count.ensures.valid in
    let past : length s.state.vectors ≤ c.args.vector = omega (arith, c.if-vector-vector_count.false, c.vector_count.ensures) in
    if_ok _ _ c.empty.result (λ set is after are. ap (λ (x : VertexSubset). x.members) is
    ∙ none_modified s.vertices c.args.vector s.state.vectors after c.args.changes.now.vectors.items valid.vectors past are) c.empty.ensures.members
