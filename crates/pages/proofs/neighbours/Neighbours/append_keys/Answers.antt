-- Proofs of `append_keys`, src/neighbours.rt.
use Rattle.std.proofs.Common.{arith}
use Rattle.pages.proofs.Decoding.{entry_count}
use Rattle.pages.proofs.neighbours.Neighbours.append_keys.Goals as goal

pub overflow_add-len : goal.overflow_add-len
overflow_add-len c =
    let l = c.self.inside in
    omega (
      arith,
      c.args.keys.now.small,
      c.self.invariant.view.few,
      entry_count l.packed.first l.packed.width l.packed.mask l.packed.len l.weights l.packed.offsets.now c.args.self.now c.self.invariant c.self.view_is,
    )

pub prove-unreachable-requires : goal.prove-unreachable-requires
prove-unreachable-requires c =
    let l = c.self.inside in
    omega (arith, c.if-prove.true, c.requires, entry_count l.packed.first l.packed.width l.packed.mask l.packed.len l.weights l.packed.offsets.now c.args.self.now c.self.invariant c.self.view_is)
