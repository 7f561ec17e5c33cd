-- Proofs of `next`, src/iter.rt.
use Rattle.std.proofs.Common.{◌≡◌, ◌+◌, ◌<◌, ◌/◌, pos, ◌∷◌, length, arith, rules}
use Rattle.tail_codec.proofs.Lists.{begins_decoded, step, known_begin}
use Rattle.tail_codec.proofs.EntryNumbers.{small_entry}
use Rattle.tail_codec.proofs.iter.TailIterIterator.next.Goals as goal

pub invariant_of-self : goal.invariant_of-self
invariant_of-self c =
    let low = c.self.inside.low in
    let first = c.in_ok-first.first.now in
    let rest = c.in_ok-first.rest.now in
    let cut : c.self.inside.rest.now ≡ first ∷ rest = search rules in
    let spells = rw cut at c.self.invariant.1 in
    let b = small_entry low first rest (search rules) (search rules) spells in
    rw c.from.ensures (omega (arith, b.small), step low (low + first / 2, pos 1) rest (first ∷ rest) b spells)

pub returns-in_err-key-clause-steps : goal.returns-in_err-key-clause-steps
returns-in_err-key-clause-steps c =
    let some : 0 < length c.self.inside.rest.now = search rules in
    let b = known_begin c.self.inside.low c.self.inside.rest.now some c.self.invariant.1 in
    absurd (c.in_err-key.ensures b.0 b.1 b.2)

pub invariant_of-self-2 : goal.invariant_of-self-2
invariant_of-self-2 c =
    let b = c.in_ok-key.ensures in
    rw c.from-2.ensures (omega (arith, b.small), step c.self.inside.low (c.in_ok-key.key, c.in_ok-key.weight) c.in_ok-key.rest.now c.self.inside.rest.now b c.self.invariant.1)

pub returns-clause-steps : goal.returns-clause-steps
returns-clause-steps c =
    let is = begins_decoded c.self.inside.low (c.in_ok-key.key, c.in_ok-key.weight) c.in_ok-key.rest.now c.self.inside.rest.now c.in_ok-key.ensures in
    search rules

pub returns-clause-goes : goal.returns-clause-goes
returns-clause-goes c =
    let is = begins_decoded c.self.inside.low (c.in_ok-key.key, c.in_ok-key.weight) c.in_ok-key.rest.now c.self.inside.rest.now c.in_ok-key.ensures in
    search rules
