use Rattle.std.proofs.Common.{◌≡◌, ◌+◌, ◌≤◌, ◌++◌, length, take}
use Rattle.shared_tree.specs.inside.Shape.{seen, IsBalanced}
use Rattle.shared_tree.specs.inside.Pending.{pending, HasRoom}
use Rattle.shared_tree.proofs.iter.descend.Given as goal

abbrev pub invariant-loop-next : goal.invariant-loop-next
invariant-loop-next g l = record {
  indices : length l.links ≡ 64;
  balanced : IsBalanced l.next;
  room : l.top + (seen l.next).depth ≤ 64;
  stack : HasRoom 0 (take l.top l.links);
  entries : (seen l.next).entries ++ pending (take l.top l.links) ≡ (seen l.initial.next).entries ++ pending (take l.initial.top l.initial.links);
}

abbrev pub decreases-loop-next : goal.decreases-loop-next
decreases-loop-next g l = length (seen l.next).entries
