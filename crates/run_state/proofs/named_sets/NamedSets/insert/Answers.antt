-- Proofs of `insert`, src/named_sets.rt.
use Rattle.std.proofs.Common.{◌≡◌, ℕ, ◌+◌, ◌<◌, List, length, slice_get, FitsSigned, w64, rules, refl, ap, subst, sym, ◌∙◌, arith, get_or-set_same}
use Rattle.std.proofs.lemmas.Int.{to_z-of_z}
use Rattle.std.proofs.lemmas.Option.{slice_get_read}
use Rattle.algorithm_meaning.specs.Value.{members_of}
use Rattle.algorithm_meaning.specs.VertexSets.{inserted, with_members}
use Rattle.vertex_sets.specs.VertexSet.{IsAscendingBelow, VertexSubset}
use Rattle.run_state.specs.View.{members_in}
use Rattle.run_state.specs.inside.NamedSets.{named, sets_alone, size_of}
use Rattle.run_state.specs.State.{RunState, with_state}
use Rattle.run_state.proofs.Inserted.{inserted_is}
use Rattle.run_state.proofs.Named.{found_ascending, found_vertices, named_members, named_replaced, replaced, replaced_outside}
use Rattle.run_state.proofs.named_sets.NamedSets.insert.Goals as goal

pub insert-requires : goal.insert-requires
insert-requires c =
    let s = c.self.inside in
    let ms = s.members.items in
    let old = c.index_mut.result.now in
    let inside : c.args.index < length ms = omega (arith, s.members.ok) in
    let found = slice_get_read ms (length ms) c.args.index old refl inside c.index_mut.ensures.value in
    let many : old.vertices ≡ s.vertices = found_vertices s.vertices ms c.args.index old (sym found) c.self.invariant.each in
    let all = ap (λ (r : RunState). r.vertices) c.self.view_is in
    let below = c.requires in
    omega arith

pub invariant_of-self-then-index-len : goal.invariant_of-self-then-index-len
invariant_of-self-then-index-len c =
    let s = c.self.inside in
    let ms = s.members.items in
    let index = c.args.index in
    let old = c.index_mut.result.now in
    let new = c.insert.new.self in
    let inside : index < length ms = omega (arith, s.members.ok) in
    let found = slice_get_read ms (length ms) index old refl inside c.index_mut.ensures.value in
    let many : new.vertices ≡ s.vertices = c.in_ok-insert.ensures.added.vertices ∙ found_vertices s.vertices ms index old (sym found) c.self.invariant.each in
    let valid = subst (λ (k : ℕ). IsAscendingBelow k new.members) many c.insert.ensures.valid in
    let fits : FitsSigned w64 c.size_of.result = search rules in
    let here : c.index.result.now ≡ new = c.index.ensures ∙ get_or-set_same ms index new c.index.result.now inside in
    replaced s.vertices s.names.items ms s.sizes.items c.self.invariant index new _ many valid
    (to_z-of_z w64 c.size_of.result fits ∙ c.size_of.ensures.size ∙ ap (λ (set : VertexSubset). size_of set.members) here)

pub returns-in_ok-insert-clause-ok : goal.returns-in_ok-insert-clause-ok
returns-in_ok-insert-clause-ok c =
    let s = c.self.inside in
    let ns = s.names.items in
    let ms = s.members.items in
    let index = c.args.index in
    let v = c.args.vertex in
    let old = c.index_mut.result.now in
    let new = c.insert.new.self in
    let inside : index < length ms = omega (arith, s.members.ok) in
    let found = slice_get_read ms (length ms) index old refl inside c.index_mut.ensures.value in
    let many : new.vertices ≡ s.vertices = c.in_ok-insert.ensures.added.vertices ∙ found_vertices s.vertices ms index old (sym found) c.self.invariant.each in
    let valid = subst (λ (k : ℕ). IsAscendingBelow k new.members) many c.insert.ensures.valid in
    let before = found_ascending s.vertices ms index old (sym found) c.self.invariant.each in
    let more : new.members ≡ inserted v old.members = inserted_is s.vertices v old.members new.members before valid c.in_ok-insert.ensures.added.members in
    let there : old.members ≡ members_of (slice_get (named ns ms).sets index) = ap members_in (sym found) ∙ named_members ns ms index c.self.invariant.count in
    let whole = sets_alone s.vertices in
    ap whole (named_replaced ns ms index new c.self.invariant.count)
    ∙ ap (λ (xs : List ℕ). whole (with_members (named ns ms) index xs)) (more ∙ ap (inserted v) there)
    ∙ ap (λ (r : RunState). with_state r (with_members r.state index (inserted v (members_of (slice_get r.state.sets index))))) c.self.view_is

pub returns-else-index-len-clause-ok : goal.returns-else-index-len-clause-ok
returns-else-index-len-clause-ok c =
    let s = c.self.inside in
    let ns = s.names.items in
    let ms = s.members.items in
    let index = c.args.index in
    let v = c.args.vertex in
    let whole = sets_alone s.vertices in
    let outside : length ms < index + 1 = omega (arith, s.members.ok) in
    sym c.self.view_is
    ∙ ap whole (replaced_outside ns ms index (inserted v (members_of (slice_get (named ns ms).sets index))) outside)
    ∙ ap (λ (r : RunState). with_state r (with_members r.state index (inserted v (members_of (slice_get r.state.sets index))))) c.self.view_is
