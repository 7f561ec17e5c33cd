-- Proofs of `put`, src/vectors.rt.
use Rattle.std.proofs.Common.{◌≡◌, ◌+◌, ◌*◌, ◌<◌, ◌≤◌, ◌^◌, ap, sym, ◌∙◌, subst, arith, List, ℤ, length, set, get_or, [], to_z, of_z, w64}
use Rattle.std.proofs.lemmas.Int.{to_z-of_z}
use Rattle.std.proofs.lemmas.List.{get_or_read}
use Rattle.algorithm_meaning.specs.Value.{with_entry}
use Rattle.vectors.specs.declared.location.Location.{Location}
use Rattle.vectors.specs.Vectors.{VectorsValue}
use Rattle.vectors.specs.inside.Layout.{location_at, nowhere, vectors_at}
use Rattle.vectors.proofs.Layouts.{entry_set, entry_set_past, index_fits}
use Rattle.vectors.proofs.vectors.Vectors.put.Goals as goal

pub overflow_mul-position : goal.overflow_mul-position
overflow_mul-position c =
    let ls = c.self.inside.locations.items in
    let l = c.index-location.result.now in
    let hi : c.args.vector < length ls = omega (arith, c.self.inside.locations.ok) in
    let at : l ≡ location_at ls c.args.vector = get_or_read ls c.args.vector l hi c.index-location.ensures nowhere in
    let P : Location → Type 0 = λ m. c.args.vertex < m.vertices in
    let Q : Location → Type 0 = λ m. c.args.vertex * m.stride + m.first < 2 ^ 64 in
    let fits : c.args.vertex * l.stride + l.first < 2 ^ 64 =
    subst Q (sym at) (index_fits c.self.inside.arrays.items ls c.self.inside.groups.items c.self.invariant c.args.vector c.args.vertex hi (subst P at c.if-vertex-location.true)) in
    omega arith

pub overflow_add-position : goal.overflow_add-position
overflow_add-position c =
    let ls = c.self.inside.locations.items in
    let l = c.index-location.result.now in
    let hi : c.args.vector < length ls = omega (arith, c.self.inside.locations.ok) in
    let at : l ≡ location_at ls c.args.vector = get_or_read ls c.args.vector l hi c.index-location.ensures nowhere in
    let P : Location → Type 0 = λ m. c.args.vertex < m.vertices in
    let Q : Location → Type 0 = λ m. c.args.vertex * m.stride + m.first < 2 ^ 64 in
    let fits : c.args.vertex * l.stride + l.first < 2 ^ 64 =
    subst Q (sym at) (index_fits c.self.inside.arrays.items ls c.self.inside.groups.items c.self.invariant c.args.vector c.args.vertex hi (subst P at c.if-vertex-location.true)) in
    omega arith

pub returns-then-vertex-location : goal.returns-then-vertex-location
returns-then-vertex-location c =
    let arrays = c.self.inside.arrays.items in
    let ls = c.self.inside.locations.items in
    let groups = c.self.inside.groups.items in
    let i = c.args.vector in
    let v = c.args.vertex in
    let x = c.args.number in
    let l = c.index-location.result.now in
    let hi : i < length ls = omega (arith, c.self.inside.locations.ok) in
    let at : l ≡ location_at ls i = get_or_read ls i l hi c.index-location.ensures nowhere in
    let P : Location → Type 0 = λ m. v < m.vertices in
    let hv = subst P at c.if-vertex-location.true in
    let known = (c.self.invariant.homes i hi).known in
    let all = c.self.invariant.count in
    let inside : (location_at ls i).array < length arrays = omega arith in
    let Q : Location → Type 0 = λ m. m.array < length arrays in
    let here : c.index_mut.result.now ≡ get_or arrays l.array [] = get_or_read arrays l.array c.index_mut.result.now (subst Q (sym at) inside) c.index_mut.ensures.value [] in
    let position = v * l.stride + l.first in
    let whole = λ (vs : List (List ℤ)). (let w : VectorsValue = record { vectors = vs; groups = groups } in w) in
    let number = to_z-of_z w64 x c.ranges.number in
    ap (λ (ys : List ℤ). whole (vectors_at (set arrays l.array ys) ls)) (c.set.ensures ∙ ap (λ (ys : List ℤ). set ys position (to_z w64 (of_z w64 x))) here
    ∙ ap (set (get_or arrays l.array []) position) number)
    ∙ ap (λ (m : Location). whole (vectors_at (set arrays m.array (set (get_or arrays m.array []) (v * m.stride + m.first) x)) ls)) at
    ∙ ap whole (entry_set arrays ls groups c.self.invariant i v x hi hv)
    ∙ ap (λ (now : VectorsValue). let w : VectorsValue = record now { vectors = with_entry now.vectors i v x } in w) c.self.view_is

pub returns-else-vertex-location : goal.returns-else-vertex-location
returns-else-vertex-location c =
    let arrays = c.self.inside.arrays.items in
    let ls = c.self.inside.locations.items in
    let i = c.args.vector in
    let l = c.index-location.result.now in
    let hi : i < length ls = omega (arith, c.self.inside.locations.ok) in
    let at : l ≡ location_at ls i = get_or_read ls i l hi c.index-location.ensures nowhere in
    let P : Location → Type 0 = λ m. m.vertices ≤ c.args.vertex in
    let nothing = entry_set_past arrays ls i c.args.vertex c.args.number hi (subst P at c.if-vertex-location.false) in
    sym c.self.view_is
    ∙ ap (λ (vs : List (List ℤ)). let v : VectorsValue = record { vectors = vs; groups = c.self.inside.groups.items } in v) nothing
    ∙ ap (λ (now : VectorsValue). let v : VectorsValue = record now { vectors = with_entry now.vectors i c.args.vertex c.args.number } in v) c.self.view_is
