-- Proofs of `replace`, src/named_sets.rt.
use Rattle.std.proofs.Common.{◌≡◌, ℕ, ◌+◌, ◌<◌, length, FitsSigned, w64, rules, ap, subst, sym, ◌∙◌, arith}
use Rattle.std.proofs.lemmas.Int.{to_z-of_z}
use Rattle.algorithm_meaning.specs.VertexSets.{with_members}
use Rattle.vertex_sets.specs.VertexSet.{IsAscendingBelow}
use Rattle.run_state.specs.inside.NamedSets.{sets_alone}
use Rattle.run_state.specs.State.{RunState, with_state}
use Rattle.run_state.proofs.Named.{named_replaced, replaced, replaced_outside}
use Rattle.run_state.proofs.named_sets.NamedSets.replace.Goals as goal

pub invariant_of-self : goal.invariant_of-self
invariant_of-self c =
    let s = c.self.inside in
    let set = c.args.set in
    let fits : FitsSigned w64 c.size_of.result = search rules in
    let many : set.vertices ≡ s.vertices = c.requires ∙ sym (ap (λ (r : RunState). r.vertices) c.self.view_is) in
    let valid = subst (λ (k : ℕ). IsAscendingBelow k set.members) many c.size_of.ensures.valid in
    replaced s.vertices s.names.items s.members.items s.sizes.items c.self.invariant c.args.index set _ many valid (to_z-of_z w64 c.size_of.result fits ∙ c.size_of.ensures.size)

pub returns-then-index-len : goal.returns-then-index-len
returns-then-index-len c =
    let s = c.self.inside in
    let set = c.args.set in
    let index = c.args.index in
    let whole = sets_alone s.vertices in
    ap whole (named_replaced s.names.items s.members.items index set c.self.invariant.count)
    ∙ ap (λ (r : RunState). with_state r (with_members r.state index set.members)) c.self.view_is

pub returns-else-index-len : goal.returns-else-index-len
returns-else-index-len c =
    let s = c.self.inside in
    let set = c.args.set in
    let index = c.args.index in
    let whole = sets_alone s.vertices in
    let outside : length s.members.items < index + 1 = omega (arith, s.members.ok) in
    sym c.self.view_is
    ∙ ap whole (replaced_outside s.names.items s.members.items index set.members outside)
    ∙ ap (λ (r : RunState). with_state r (with_members r.state index set.members)) c.self.view_is
