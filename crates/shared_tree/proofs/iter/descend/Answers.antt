-- Proofs of `descend`, src/iter.rt.
use Rattle.std.proofs.Common.{◌<◌, ◌++◌, length, take, ap, ◌∙◌, arith, length-set}
use Rattle.shared_tree.specs.inside.Shape.{seen}
use Rattle.shared_tree.specs.inside.Pending.{pending}
use Rattle.shared_tree.proofs.Stacks.{pending_put, room_put, fork_entries, fork_room, fork_smaller}
use Rattle.shared_tree.proofs.iter.descend.Goals as goal

pub loop-next-preserved : goal.loop-next-preserved
loop-next-preserved g c =
    let rooms = fork_room c.loop-next.next.now c.link-next.result.now _ _ _ c.in-Fork.is
    (rw c.deref.ensures at c.link-next.ensures) c.loop-next.top c.loop-next.invariant.balanced c.loop-next.invariant.room in
    let within : c.loop-next.top < length c.loop-next.links = omega (arith, rooms.0) in
    record {
      indices = omega (arith, length-set c.loop-next.links c.loop-next.top c.loop-next.next);
      balanced = c.link-next.ensures.balanced;
      room = rooms.1;
      stack = room_put c.loop-next.links c.loop-next.top c.loop-next.next within c.loop-next.invariant.stack rooms.2;
      entries =
          ap (λ p. (seen c.link-next.result.now).entries ++ p) (pending_put c.loop-next.links c.loop-next.top c.loop-next.next within)
          ∙ fork_entries c.loop-next.next.now c.link-next.result.now _ _ _ c.in-Fork.is (rw c.deref.ensures at c.link-next.ensures) (pending (take c.loop-next.top c.loop-next.links))
          ∙ c.loop-next.invariant.entries;
    }

pub loop-next-smaller : goal.loop-next-smaller
loop-next-smaller g c =
    fork_smaller c.loop-next.next.now c.link-next.result.now _ _ _ c.in-Fork.is (rw c.deref.ensures at c.link-next.ensures) c.loop-next.invariant.balanced

pub returns-clause-entries : goal.returns-clause-entries
returns-clause-entries g c = rw c.in_default.is at c.loop-next.invariant.entries
