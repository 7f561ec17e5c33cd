-- Proofs of `shown`, src/named_sets.rt.
use Rattle.std.proofs.Common.{◌≡◌, ℕ, List, IfOk, map, take, ap, ap₂, subst, ◌∙◌}
use Rattle.algorithm_meaning.specs.declared.outcome.NamedSet.{NamedSet}
use Rattle.algorithm_meaning.specs.Meaning.{named_set}
use Rattle.algorithm_meaning.specs.State.{StateValue}
use Rattle.vertex_sets.specs.VertexSet.{VertexSubset}
use Rattle.run_state.specs.inside.NamedSets.{named}
use Rattle.run_state.specs.State.{RunState}
use Rattle.run_state.proofs.Named.{named_take}
use Rattle.run_state.proofs.named_sets.NamedSets.shown.Goals as goal

pub returns : goal.returns
returns c =
    let s = c.self.inside in
    let k = c.args.count in
    let names = c.args.names.now in
    subst (λ (shown : List NamedSet). IfOk c.name_sets.result (λ v. v.items ≡ shown))
    (ap₂ (λ (xs : List ℕ) (ys : List VertexSubset). map (named_set names) (named xs ys).sets) (c.first-set_names.ensures ∙ ap (take k) c.deref.ensures.value)
    (c.first.ensures ∙ ap (take k) c.deref-2.ensures.value)
    ∙ ap (λ (state : StateValue). map (named_set names) state.sets) (named_take k s.names.items s.members.items)
    ∙ ap (λ (r : RunState). map (named_set names) (take k r.state.sets)) c.self.view_is)
    c.name_sets.ensures
