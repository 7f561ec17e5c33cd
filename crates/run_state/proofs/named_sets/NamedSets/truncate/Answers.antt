-- Proofs of `truncate`, src/named_sets.rt.
use Rattle.std.proofs.Common.{List, ℕ, ap, ap₂, ◌∙◌}
use Rattle.vertex_sets.specs.VertexSet.{VertexSubset}
use Rattle.run_state.specs.inside.NamedSets.{named, sets_alone, with_first_sets}
use Rattle.run_state.specs.State.{RunState, with_state}
use Rattle.run_state.proofs.Named.{named_take, taken}
use Rattle.run_state.proofs.named_sets.NamedSets.truncate.Goals as goal

pub invariant_of-self : goal.invariant_of-self
invariant_of-self c =
    let s = c.self.inside in
    rw (c.truncate.ensures.items, c.truncate-2.ensures.items, c.truncate-3.ensures.items)
    (taken s.vertices c.args.count s.names.items s.members.items s.sizes.items c.self.invariant)

pub returns : goal.returns
returns c =
    let s = c.self.inside in
    let k = c.args.count in
    let whole = sets_alone s.vertices in
    ap₂ (λ (xs : List ℕ) (ys : List VertexSubset). whole (named xs ys)) c.truncate.ensures.items c.truncate-2.ensures.items
    ∙ ap whole (named_take k s.names.items s.members.items)
    ∙ ap (λ (r : RunState). with_state r (with_first_sets k r.state)) c.self.view_is
