-- Proofs of `into_arrays`, src/vectors.rt.
use Rattle.std.proofs.Common.{◌≡◌, ◌<◌, ◌∙◌, length, sym, subst, arith, ap, take}
use Rattle.std.proofs.lemmas.List.{get_or_read}
use Rattle.vectors.specs.Vectors.{VectorsValue}
use Rattle.vectors.specs.inside.Layout.{StandsIn, nowhere}
use Rattle.vectors.proofs.HandedOver.{all_home, next_home, none_home, still_stands}
use Rattle.vectors.proofs.vectors.Vectors.into_arrays.Goals as goal

pub positions-init : goal.positions-init
positions-init c = none_home c.self.inside.arrays.items c.self.inside.locations.items _ (λ i. 0)

pub move_home-requires-clause-stands : goal.move_home-requires-clause-stands
move_home-requires-clause-stands c =
    let ls = c.self.inside.locations.items in
    let position = c.positions.position in
    let inside : position < length ls = omega (arith, c.self.inside.locations.ok) in
    let at = get_or_read ls position c.index.result.now inside c.index.ensures nowhere in
    subst (StandsIn c.positions.arrays.items) (sym at)
    (still_stands c.self.inside.arrays.items c.positions.arrays.items ls c.self.inside.groups.items c.self.invariant position inside c.positions.invariant)

pub positions-preserved : goal.positions-preserved
positions-preserved c =
    let ls = c.self.inside.locations.items in
    let position = c.positions.position in
    let inside : position < length ls = omega (arith, c.self.inside.locations.ok) in
    let at = get_or_read ls position c.index.result.now inside c.index.ensures nowhere in
    next_home c.self.inside.arrays.items c.positions.arrays.items c.move_home.new.arrays.items ls c.self.inside.groups.items c.index.result.now c.self.invariant position inside c.positions.invariant
    at
    c.in_ok-move_home.ensures.moved c.in_ok-move_home.ensures.stays

pub returns : goal.returns
returns c =
    let ls = c.self.inside.locations.items in
    let end : c.positions.position ≡ length ls = omega (arith, c.self.inside.locations.ok) in
    c.truncate.ensures.items ∙ ap (λ k. take k c.positions.arrays.items) (let same : _ ≡ c.positions.position = omega arith in same)
    ∙ all_home c.self.inside.arrays.items c.positions.arrays.items ls c.self.inside.groups.items c.self.invariant c.positions.position end c.positions.invariant
    ∙ ap (λ (now : VectorsValue). now.vectors) c.self.view_is
