-- Proofs of `members`, src/named_sets.rt.
use Rattle.std.proofs.Common.{List, slice_get, ap, ◌∙◌}
use Rattle.algorithm_meaning.specs.Value.{members_of}
use Rattle.vertex_sets.specs.VertexSet.{VertexSubset}
use Rattle.run_state.specs.View.{members_in}
use Rattle.run_state.specs.State.{RunState}
use Rattle.run_state.proofs.Named.{named_members}
use Rattle.run_state.proofs.named_sets.NamedSets.members.Goals as goal

pub returns : goal.returns
returns c = λ index.
    let s = c.self.inside in
    ap (λ (ms : List VertexSubset). members_in (slice_get ms index)) c.as_slice.ensures.value
    ∙ named_members s.names.items s.members.items index c.self.invariant.count
    ∙ ap (λ (r : RunState). members_of (slice_get r.state.sets index)) c.self.view_is
