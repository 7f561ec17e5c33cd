-- Proofs of `merge_front`, src/set_operation.rt.
use Rattle.std.proofs.Common.{◌<◌, ℕ, length, length-set, arith}
use Rattle.ascending_lists.specs.Operations.{combined}
use Rattle.ascending_lists.proofs.Merging.{stepped, less_left, further, some_left}
use Rattle.ascending_lists.proofs.set_operation.merge_front.Goals as goal

pub loop-from_first-preserved : goal.loop-from_first-preserved
loop-from_first-preserved c =
    let l = c.loop-from_first in
    let op = c.args.operation in
    let xs = c.args.first.now in
    let ys = c.args.second.now in
    let all = combined op xs ys in
    let within = c.loop-from_first-test.true in
    let within' = c.if-from_second-second.true in
    let room : l.len < length l.list = omega (arith, l.invariant.room, some_left op xs ys l.from_first l.from_second within within') in
    let on = further op all xs ys l.list l.from_first l.from_second l.len within within' room l.invariant.merging in
    rw (c.from-from_first.ensures, c.from-from_second.ensures, c.from-len.ensures, c.min.ensures, c.takes_second-takes_second.ensures) (record {
      merging = stepped op all xs ys l.list l.from_first l.from_second l.len within within' room l.invariant.merging;
      first = on.0;
      second = on.1;
      room = rw (length-set {A = ℕ}) (omega (arith, less_left op all xs ys l.list l.from_first l.from_second l.len within within' room l.invariant.merging, l.invariant.room));
    })
