-- Proofs of `fill_weights_from`, src/neighbours.rt.
use Rattle.std.proofs.Common.{◌≡◌, ◌+◌, ◌-◌, ◌*◌, length, drop, ◌∙◌, ap, arith}
use Rattle.std.proofs.lemmas.Grind.{common_steps}
use Rattle.pages.specs.inside.Weights.{weight_size, weights_from}
use Rattle.pages.proofs.Decoding.{weights_room, weights_are}
use Rattle.pages.proofs.neighbours.Neighbours.fill_weights_from.Goals as goal

pub overflow_mul-start-2 : goal.overflow_mul-start-2
overflow_mul-start-2 c =
    let l = c.self.inside in
    let position : c.size.result * c.args.from ≡ weight_size l.weights * c.args.from = ap (λ s. s * c.args.from) c.size.ensures.size in
    omega (
      arith,
      position,
      c.self.told,
      weights_room l.packed.first l.packed.width l.packed.mask l.packed.len l.weights l.packed.offsets.now c.args.self.now c.self.invariant c.self.view_is c.args.from (length c.args.block.now)
          (grind (arith, common_steps)) c.requires,
    )

pub overflow_add-start : goal.overflow_add-start
overflow_add-start c =
    let l = c.self.inside in
    let position : c.size.result * c.args.from ≡ weight_size l.weights * c.args.from = ap (λ s. s * c.args.from) c.size.ensures.size in
    omega (
      arith,
      position,
      c.self.told,
      weights_room l.packed.first l.packed.width l.packed.mask l.packed.len l.weights l.packed.offsets.now c.args.self.now c.self.invariant c.self.view_is c.args.from (length c.args.block.now)
          (grind (arith, common_steps)) c.requires,
    )

pub fill_weights-requires : goal.fill_weights-requires
fill_weights-requires c =
    let l = c.self.inside in
    let position : c.size.result * c.args.from ≡ weight_size l.weights * c.args.from = ap (λ s. s * c.args.from) c.size.ensures.size in
    omega (
      arith,
      position,
      weights_room l.packed.first l.packed.width l.packed.mask l.packed.len l.weights l.packed.offsets.now c.args.self.now c.self.invariant c.self.view_is c.args.from
          (length c.args.block.now) (grind (arith, common_steps)) c.requires,
    )

pub returns : goal.returns
returns c =
    let l = c.self.inside in
    let position : c.size.result * c.args.from ≡ weight_size l.weights * c.args.from = ap (λ s. s * c.args.from) c.size.ensures.size in
    c.fill_weights.ensures ∙ ap (λ p. weights_from l.weights (length c.args.block.now) (drop (l.packed.width * (l.packed.len - 1) + p) l.packed.offsets.now)) position
    ∙ weights_are l.packed.first l.packed.width l.packed.mask l.packed.len l.weights l.packed.offsets.now c.args.self.now c.self.invariant c.self.view_is c.args.from
    (length c.args.block.now) c.requires
