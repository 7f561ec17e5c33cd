-- Proofs of `ascends`, src/sorted.rt.
use Rattle.std.proofs.Common.{arith, rules}
use Rattle.shared_tree.proofs.Ascending.{rises_more, least_more, no_map, map_read}
use Rattle.shared_tree.proofs.sorted.ascends.Goals as goal

pub returns-then-position-low : goal.returns-then-position-low
returns-then-position-low g c =
    (λ e. cc, λ m. absurd (no_map c.args.entries.now c.loop-key.key-index c.loop-key-item.result c.loop-key-test.true c.loop-key-item.is c.loop-key.low c.loop-key.invariant.least (omega arith) m))

pub loop-key-preserved : goal.loop-key-preserved
loop-key-preserved g c = record {
  rises = rw c.from-position.ensures (rises_more c.args.entries.now c.loop-key.key-index c.loop-key-item.result c.loop-key-test.true c.loop-key-item.is c.loop-key.low
      (omega arith) c.loop-key.invariant.rises);
  least = rw c.from-position.ensures (least_more c.args.entries.now c.loop-key.key-index c.loop-key-item.result c.loop-key-test.true c.loop-key-item.is);
  fits = omega arith;
}

pub returns : goal.returns
returns g c =
    (λ _. map_read c.args.entries.now c.loop-key.key-index c.loop-key.low c.loop-key-test.false c.loop-key.invariant.fits c.loop-key.invariant.rises, λ _. search rules)
