-- Proofs of `fill`, src/iter.rt.
use Rattle.std.proofs.Common.{arith, rules}
use Rattle.tail_codec.proofs.Filling.{taken, written, untouched}
use Rattle.tail_codec.proofs.iter.TailIter.fill.Goals as goal

pub loop-position-preserved : goal.loop-position-preserved
loop-position-preserved c =
    let l = c.loop-position in
    let t = taken c.args.self.now c.next.new.self l.entries l.filled c.in-Some.entry l.invariant.rest (search rules) in
    record {
      can = tt;
      finite = tt;
      count = omega arith;
      left = omega (arith, t.within);
      rest = t.others;
      front = rw (← l.invariant.count) (written (λ e. e.0) 0 c.args.self.now l.block l.filled c.in-Some.entry t.within (omega arith) t.entry l.invariant.front);
      back = rw (← l.invariant.count) (untouched l.block c.args.block.now l.filled c.in-Some.entry.0 l.invariant.back);
    }
