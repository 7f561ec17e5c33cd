-- Proofs of `len`, src/neighbours.rt.
use Rattle.std.proofs.Common.{sym}
use Rattle.std.specs.Map.{keys_of}
use Rattle.pages.proofs.Decoding.{ascending, keys_seen, entry_count}
use Rattle.pages.proofs.neighbours.Neighbours.len.Goals as goal

pub returns-clause-count : goal.returns-clause-count
returns-clause-count c =
    let l = c.self.inside in
    sym (entry_count l.packed.first l.packed.width l.packed.mask l.packed.len l.weights l.packed.offsets.now c.args.self.now c.self.invariant c.self.view_is)

pub returns-clause-ascending : goal.returns-clause-ascending
returns-clause-ascending c =
    let l = c.self.inside in
    ascending l.packed.first l.packed.width l.packed.mask l.packed.len l.packed.offsets.now (keys_of c.args.self.now) c.self.invariant.view
    (keys_seen l.packed.first l.packed.width l.packed.mask l.packed.len l.weights l.packed.offsets.now c.args.self.now c.self.invariant c.self.view_is)
