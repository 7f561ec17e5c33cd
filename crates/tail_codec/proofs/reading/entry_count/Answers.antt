-- Proofs of `entry_count`, src/reading.rt.
use Rattle.std.proofs.Common.{ℕ, ◌<◌, ℤ, length, ap, arith, rules}
use Rattle.tail_codec.proofs.Lists.{begins_decoded, step, step_back, known_begin}
use Rattle.tail_codec.proofs.EntryNumbers.{fewer_left}
use Rattle.tail_codec.proofs.reading.entry_count.Goals as goal

pub returns-in_default : goal.returns-in_default
returns-in_default c = λ spells.
    let l = c.loop-rest in
    let some : 0 < length l.rest.now = search rules in
    let b = known_begin l.from l.rest.now some (l.invariant.back spells) in
    c.in_default.ensures b.0 b.1 b.2

pub loop-rest-preserved : goal.loop-rest-preserved
loop-rest-preserved c =
    let l = c.loop-rest in
    let e : ℕ × ℤ = (c.in-Some.key, c.in-Some.field-0-1) in
    let more = c.in-Some.more.now in
    let b = c.in-Some.ensures in
    rw c.from-from.ensures (record {
      low = omega (arith, b.small);
      few = omega (arith, l.invariant.few, fewer_left l.from e more l.rest.now b);
      back = λ spells. step l.from e more l.rest.now b (l.invariant.back spells);
      on = λ spells. l.invariant.on (step_back l.from e more l.rest.now b spells);
      count = omega (arith, l.invariant.count, ap length (begins_decoded l.from e more l.rest.now b));
    })
