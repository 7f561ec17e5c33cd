-- Proofs of `weight`, src/neighbours.rt.
use Rattle.std.proofs.Common.{◌≡◌, ◌+◌, ◌-◌, ◌*◌, w64, drop, ◌∙◌, ap, arith, rules}
use Rattle.std.proofs.lemmas.Int.{to_z-of_z}
use mir.Val.{SFits}
use Rattle.pages.specs.inside.Weights.{weight_size, weight_in}
use Rattle.pages.proofs.Decoding.{weights_room, weight_is}
use Rattle.pages.proofs.neighbours.Neighbours.weight.Goals as goal

pub overflow_mul-start-2 : goal.overflow_mul-start-2
overflow_mul-start-2 c =
    let l = c.self.inside in
    let position : c.size.result * c.args.index ≡ weight_size l.weights * c.args.index = ap (λ s. s * c.args.index) c.size.ensures.size in
    omega (
      arith,
      position,
      c.self.told,
      weights_room l.packed.first l.packed.width l.packed.mask l.packed.len l.weights l.packed.offsets.now c.args.self.now c.self.invariant c.self.view_is c.args.index 1 (omega arith)
          (omega (arith, c.requires)),
    )

pub overflow_add-start : goal.overflow_add-start
overflow_add-start c =
    let l = c.self.inside in
    let position : c.size.result * c.args.index ≡ weight_size l.weights * c.args.index = ap (λ s. s * c.args.index) c.size.ensures.size in
    omega (
      arith,
      position,
      c.self.told,
      weights_room l.packed.first l.packed.width l.packed.mask l.packed.len l.weights l.packed.offsets.now c.args.self.now c.self.invariant c.self.view_is c.args.index 1 (omega arith)
          (omega (arith, c.requires)),
    )

pub weight_at-requires : goal.weight_at-requires
weight_at-requires c =
    let l = c.self.inside in
    let position : c.size.result * c.args.index ≡ weight_size l.weights * c.args.index = ap (λ s. s * c.args.index) c.size.ensures.size in
    omega (
      arith,
      position,
      weights_room l.packed.first l.packed.width l.packed.mask l.packed.len l.weights l.packed.offsets.now c.args.self.now c.self.invariant c.self.view_is c.args.index 1
          (omega arith) (omega (arith, c.requires)),
    )

pub returns : goal.returns
returns c =
    let l = c.self.inside in
    let position : c.size.result * c.args.index ≡ weight_size l.weights * c.args.index = ap (λ s. s * c.args.index) c.size.ensures.size in
    let fits : SFits w64 c.weight_at.result = search rules in
    to_z-of_z w64 c.weight_at.result fits ∙ c.weight_at.ensures ∙ ap (λ p. weight_in l.weights (drop (l.packed.width * (l.packed.len - 1) + p) l.packed.offsets.now)) position
    ∙ weight_is l.packed.first l.packed.width l.packed.mask l.packed.len l.weights l.packed.offsets.now c.args.self.now c.self.invariant c.self.view_is c.args.index c.requires
