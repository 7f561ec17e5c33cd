-- Proofs of `group`, src/vectors.rt.
use Rattle.std.proofs.Common.{◌≡◌, ◌+◌, ◌<◌, ap, sym, ◌∙◌, subst, arith, [], ℕ, length, get_or}
use Rattle.std.proofs.lemmas.List.{get_or_read}
use Rattle.vectors.specs.Vectors.{HasRows, VectorsValue}
use Rattle.vectors.specs.inside.Layout.{vectors_at}
use Rattle.vectors.proofs.Groupings.{group_has_rows}
use Rattle.vectors.proofs.vectors.Vectors.group.Goals as goal

pub returns : goal.returns
returns c =
    let arrays = c.self.inside.arrays.items in
    let ls = c.self.inside.locations.items in
    let groups = c.self.inside.groups.items in
    let k = c.args.k in
    let inside : k < length groups = omega (arith, c.self.inside.groups.ok) in
    let count : c.len-2.result ≡ length ls = omega (arith, c.self.inside.locations.ok) in
    let all = c.self.invariant.count in
    let below : c.len-2.result + k < length arrays = omega arith in
    let here : c.index.result.now ≡ get_or arrays (c.len-2.result + k) [] = get_or_read arrays (c.len-2.result + k) c.index.result.now below c.index.ensures [] in
    let same : get_or arrays (length ls + k) [] ≡ c.as_slice.result.now = sym (c.as_slice.ensures ∙ here ∙ ap (λ (n : ℕ). get_or arrays (n + k) []) count) in
    let rows = group_has_rows arrays ls groups c.self.invariant k inside in
    subst (λ (now : VectorsValue). (k < length now.groups) × HasRows now.vectors (get_or now.groups k []) c.as_slice.result.now) c.self.view_is
    (inside, subst (HasRows (vectors_at arrays ls) (get_or groups k [])) same rows)
