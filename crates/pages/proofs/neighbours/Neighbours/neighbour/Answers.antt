-- Proofs of `neighbour`, src/neighbours.rt.
use Rattle.std.proofs.Common.{◌≡◌, ℕ, ◌+◌, ◌-◌, ◌∙◌, get_or, ap, arith}
use Rattle.std.specs.Map.{keys_of}
use Rattle.pages.proofs.Decoding.{room_at, read_at, read_first, keys_seen, keys_long}
use Rattle.pages.proofs.neighbours.Neighbours.neighbour.Goals as goal

pub returns-then-index-eq0 : goal.returns-then-index-eq0
returns-then-index-eq0 c =
    let l = c.self.inside in
    let keys = keys_seen l.packed.first l.packed.width l.packed.mask l.packed.len l.weights l.packed.offsets.now c.args.self.now c.self.invariant c.self.view_is in
    let none : 0 ≡ c.args.index = omega arith in
    read_first l.packed.first l.packed.width l.packed.mask l.packed.len l.packed.offsets.now (keys_of c.args.self.now) c.self.invariant.view keys (omega (arith, keys_long c.args.self.now))
    ∙ ap (λ i. get_or (keys_of c.args.self.now) i 0) none

pub offset-requires-clause-room : goal.offset-requires-clause-room
offset-requires-clause-room c =
    let l = c.self.inside in
    let keys = keys_seen l.packed.first l.packed.width l.packed.mask l.packed.len l.weights l.packed.offsets.now c.args.self.now c.self.invariant c.self.view_is in
    room_at l.packed.first l.packed.width l.packed.mask l.packed.len l.packed.offsets.now (keys_of c.args.self.now) c.self.invariant.view keys (c.args.index - 1)
    (omega (arith, keys_long c.args.self.now))

pub overflow_add-result : goal.overflow_add-result
overflow_add-result c =
    let l = c.self.inside in
    let keys = keys_seen l.packed.first l.packed.width l.packed.mask l.packed.len l.weights l.packed.offsets.now c.args.self.now c.self.invariant c.self.view_is in
    omega (
      arith,
      (read_at l.packed.first l.packed.width l.packed.mask l.packed.len l.packed.offsets.now (keys_of c.args.self.now) c.self.invariant.view keys (c.args.index - 1) c.offset.result
          (omega (arith, keys_long c.args.self.now)) c.offset.ensures).1,
    )

pub returns : goal.returns
returns c =
    let l = c.self.inside in
    let k : ℕ = c.args.index - 1 in
    let back : k + 1 ≡ c.args.index = omega arith in
    let keys = keys_seen l.packed.first l.packed.width l.packed.mask l.packed.len l.weights l.packed.offsets.now c.args.self.now c.self.invariant c.self.view_is in
    (read_at l.packed.first l.packed.width l.packed.mask l.packed.len l.packed.offsets.now (keys_of c.args.self.now) c.self.invariant.view keys k c.offset.result
    (omega (arith, keys_long c.args.self.now)) c.offset.ensures).0
    ∙ ap (λ i. get_or (keys_of c.args.self.now) i 0) back
