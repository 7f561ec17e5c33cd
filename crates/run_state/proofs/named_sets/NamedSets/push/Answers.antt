-- Proofs of `push`, src/named_sets.rt.
use Rattle.std.proofs.Common.{◌≡◌, ℕ, List, [], ◌∷◌, ◌++◌, FitsSigned, w64, rules, ap, ap₂, subst, sym, ◌∙◌}
use Rattle.std.proofs.lemmas.Int.{to_z-of_z}
use Rattle.algorithm_meaning.specs.VertexSets.{with_new_set}
use Rattle.vertex_sets.specs.VertexSet.{IsAscendingBelow, VertexSubset}
use Rattle.run_state.specs.inside.NamedSets.{named, sets_alone}
use Rattle.run_state.specs.State.{RunState, with_state}
use Rattle.run_state.proofs.Named.{named_push, pushed}
use Rattle.run_state.proofs.named_sets.NamedSets.push.Goals as goal

pub invariant_of-self-2 : goal.invariant_of-self-2
invariant_of-self-2 c =
    let s = c.self.inside in
    let set = c.args.set in
    let fits : FitsSigned w64 c.size_of.result = search rules in
    let many : set.vertices ≡ s.vertices = c.requires ∙ sym (ap (λ (r : RunState). r.vertices) c.self.view_is) in
    let valid = subst (λ (k : ℕ). IsAscendingBelow k set.members) many c.size_of.ensures.valid in
    rw (c.push_reserved.ensures.items, c.push_reserved-2.ensures.items, c.push_reserved-3.ensures.items, c.make_room.ensures.names, c.make_room.ensures.members, c.make_room.ensures.sizes)
    (pushed s.vertices s.names.items s.members.items s.sizes.items c.self.invariant c.args.name set _ many valid (to_z-of_z w64 c.size_of.result fits ∙ c.size_of.ensures.size))

pub returns-clause-ok : goal.returns-clause-ok
returns-clause-ok c =
    let s = c.self.inside in
    let set = c.args.set in
    let name = c.args.name in
    let whole = sets_alone s.vertices in
    let names : c.push_reserved.new.self.items ≡ s.names.items ++ name ∷ [] = c.push_reserved.ensures.items ∙ ap (λ (xs : List ℕ). xs ++ name ∷ []) c.make_room.ensures.names in
    let members : c.push_reserved-3.new.self.items ≡ s.members.items ++ set ∷ [] = c.push_reserved-3.ensures.items ∙ ap (λ (xs : List VertexSubset). xs ++ set ∷ []) c.make_room.ensures.members in
    ap₂ (λ (xs : List ℕ) (ys : List VertexSubset). whole (named xs ys)) names members
    ∙ ap whole (named_push s.names.items s.members.items name set c.self.invariant.count)
    ∙ ap (λ (r : RunState). with_state r (with_new_set r.state name set.members)) c.self.view_is
