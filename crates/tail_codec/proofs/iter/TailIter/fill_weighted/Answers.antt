-- Proofs of `fill_weighted`, src/iter.rt.
use Rattle.std.proofs.Common.{◌≡◌, ℕ, ℤ, pos, ◌<◌, length, to_z, of_z, w64, length-set, ◌∙◌, arith, rules}
use Rattle.tail_codec.proofs.Filling.{taken, written, untouched}
use Rattle.tail_codec.proofs.iter.TailIter.fill_weighted.Goals as goal

pub loop-position-preserved : goal.loop-position-preserved
loop-position-preserved c =
    let l = c.loop-position in
    let k = c.in-Some.key in
    let w = c.in-Some.weight in
    let same : to_z w64 (of_z w64 w) ≡ w = search rules in
    let t = taken c.args.self.now c.next.new.self l.left l.filled (k, w) l.invariant.rest (search rules) in
    let room : l.filled < length l.keys = omega (arith, l.invariant.count, c.loop-position-test.true, l.invariant.long) in
    let room_weights : l.filled < length l.weights = omega (arith, room, l.invariant.long, l.invariant.long_weights) in
    rw same (record {
      count = omega arith;
      within = omega (arith, t.within);
      rest = t.others;
      long = length-set {A = ℕ} l.keys l.position k ∙ l.invariant.long;
      long_weights = length-set {A = ℤ} l.weights l.position w ∙ l.invariant.long_weights;
      front = rw (← l.invariant.count) (written (λ e. e.0) 0 c.args.self.now l.keys l.filled (k, w) t.within room t.entry l.invariant.front);
      front_weights = rw (← l.invariant.count) (written (λ e. e.1) (pos 0) c.args.self.now l.weights l.filled (k, w) t.within room_weights t.entry l.invariant.front_weights);
      back = rw (← l.invariant.count) (untouched l.keys c.args.keys.now l.filled k l.invariant.back);
      back_weights = rw (← l.invariant.count) (untouched l.weights c.args.weights.now l.filled w l.invariant.back_weights);
    })
