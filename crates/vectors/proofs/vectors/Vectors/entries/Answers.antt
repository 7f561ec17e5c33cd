-- Proofs of `entries`, src/vectors.rt.
use Rattle.std.proofs.Common.{◌≡◌, ◌<◌, ap, sym, ◌∙◌, arith, List, ℤ, [], length, get_or}
use Rattle.std.proofs.lemmas.List.{get_or_read}
use Rattle.vectors.specs.declared.location.Location.{Location}
use Rattle.vectors.specs.Vectors.{VectorsValue}
use Rattle.vectors.specs.inside.Layout.{location_at, nowhere}
use Rattle.vectors.proofs.Layouts.{length-vector, vector_here}
use Rattle.vectors.proofs.vectors.Vectors.entries.Goals as goal

pub returns : goal.returns
returns c =
    let arrays = c.self.inside.arrays.items in
    let ls = c.self.inside.locations.items in
    let i = c.args.vector in
    let l = c.index.result.now in
    let hi : i < length ls = omega (arith, c.self.inside.locations.ok) in
    let at : l ≡ location_at ls i = get_or_read ls i l hi c.index.ensures nowhere in
    ap (λ (m : Location). m.vertices) at
    ∙ sym (length-vector arrays (location_at ls i))
    ∙ ap (λ (xs : List ℤ). length xs) (sym (vector_here arrays ls i hi))
    ∙ ap (λ (now : VectorsValue). length (get_or now.vectors i [])) c.self.view_is
