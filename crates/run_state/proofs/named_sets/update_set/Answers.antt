-- Proofs of `update_set`, src/named_sets.rt.
use Rattle.std.proofs.Common.{◌≡◌, ℕ, ◌+◌, ◌<◌, length, FitsSigned, w64, rules, ap, ap₂, subst, sym, ◌∙◌, arith}
use Rattle.std.proofs.lemmas.Int.{to_z-of_z}
use Rattle.vertex_sets.specs.VertexSet.{IsAscendingBelow}
use Rattle.run_state.specs.inside.NamedSets.{named}
use Rattle.run_state.specs.SetUpdate.{IsUpdateOf, with_update}
use Rattle.run_state.proofs.Named.{named_push, named_replaced, pushed, replaced, replaced_outside}
use Rattle.run_state.proofs.named_sets.update_set.Goals as goal

pub returns-in-New-clause-sets : goal.returns-in-New-clause-sets
returns-in-New-clause-sets c =
    let ns = c.args.names.now.items in
    let ms = c.args.members.now.items in
    ap₂ named c.push_reserved.ensures.items c.push_reserved-in-New-2.ensures.items
    ∙ named_push ns ms c.in-New.name c.in-New.set c.requires.counted
    ∙ ap (with_update (named ns ms)) (sym c.in-New.is)

pub returns-in-New-clause-are : goal.returns-in-New-clause-are
returns-in-New-clause-are c = λ n are is.
    let set = c.in-New.set in
    let fits : FitsSigned w64 c.size_of.result = search rules in
    let many : set.vertices ≡ n = subst (IsUpdateOf n) c.in-New.is is in
    let valid = subst (λ (k : ℕ). IsAscendingBelow k set.members) many c.size_of.ensures.valid in
    rw (c.push_reserved.ensures.items, c.push_reserved-in-New.ensures.items, c.push_reserved-in-New-2.ensures.items)
    (pushed n c.args.names.now.items c.args.members.now.items c.args.sizes.now.items are c.in-New.name set _ many valid (to_z-of_z w64 c.size_of.result fits ∙ c.size_of.ensures.size))

pub returns-then-index-len-clause-sets : goal.returns-then-index-len-clause-sets
returns-then-index-len-clause-sets c =
    let ns = c.args.names.now.items in
    let ms = c.args.members.now.items in
    named_replaced ns ms c.in-Other.index c.in-Other.set c.requires.counted
    ∙ ap (with_update (named ns ms)) (sym c.in-Other.is)

pub returns-then-index-len-clause-are : goal.returns-then-index-len-clause-are
returns-then-index-len-clause-are c = λ n are is.
    let set = c.in-Other.set in
    let fits : FitsSigned w64 c.size_of-then-index-len.result = search rules in
    let many : set.vertices ≡ n = subst (IsUpdateOf n) c.in-Other.is is in
    let valid = subst (λ (k : ℕ). IsAscendingBelow k set.members) many c.size_of-then-index-len.ensures.valid in
    replaced n c.args.names.now.items c.args.members.now.items c.args.sizes.now.items are c.in-Other.index set _ many valid
    (to_z-of_z w64 c.size_of-then-index-len.result fits ∙ c.size_of-then-index-len.ensures.size)

pub returns-else-index-len-clause-sets : goal.returns-else-index-len-clause-sets
returns-else-index-len-clause-sets c =
    let ns = c.args.names.now.items in
    let ms = c.args.members.now.items in
    let index = c.in-Other.index in
    let outside : length ms < index + 1 = omega (arith, c.args.members.now.ok) in
    replaced_outside ns ms index c.in-Other.set.members outside
    ∙ ap (with_update (named ns ms)) (sym c.in-Other.is)
