-- Proofs of `lane`, src/vectors.rt.
use Rattle.std.proofs.Common.{◌≡◌, ◌+◌, ◌*◌, ◌<◌, ap, ◌∙◌, arith, if◌then◌else◌, nat_lt, List, ℤ, length, pos}
use Rattle.std.proofs.lemmas.List.{get_or_read}
use Rattle.algorithm_meaning.specs.Value.{entry}
use Rattle.vectors.specs.declared.location.Location.{Location}
use Rattle.vectors.specs.Vectors.{VectorsValue}
use Rattle.vectors.specs.inside.Layout.{location_at, nowhere, number_at}
use Rattle.vectors.proofs.Layouts.{entry_read}
use Rattle.vectors.proofs.vectors.Vectors.lane.Goals as goal

pub returns : goal.returns
returns c = λ v.
    let arrays = c.self.inside.arrays.items in
    let ls = c.self.inside.locations.items in
    let i = c.args.vector in
    let l = c.index.result.now in
    let hi : i < length ls = omega (arith, c.self.inside.locations.ok) in
    let at : l ≡ location_at ls i = get_or_read ls i l hi c.index.ensures nowhere in
    c.lane_of.ensures v
    ∙ ap (λ (xs : List (List ℤ)). if nat_lt v l.vertices then number_at xs l.array (v * l.stride + l.first) else pos 0) c.deref.ensures.value
    ∙ ap (λ (m : Location). if nat_lt v m.vertices then number_at arrays m.array (v * m.stride + m.first) else pos 0) at
    ∙ entry_read arrays ls i v hi
    ∙ ap (λ (now : VectorsValue). entry now.vectors i v) c.self.view_is
