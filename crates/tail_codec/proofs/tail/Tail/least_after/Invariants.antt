use Rattle.std.proofs.Common.{◌≡◌}
use Rattle.std.specs.Map.{keys_of}
use Rattle.ascending_lists.specs.Ascending.{least}
use Rattle.tail_codec.specs.Appending.{least_after}
use Rattle.tail_codec.proofs.tail.Tail.least_after.Given as goal

abbrev pub invariant-loop-key : goal.invariant-loop-key
invariant-loop-key l = record {
  can : (goal.iterator-loop-key).can_next l.key-iterator;
  finite : (goal.iterator-loop-key).is_finite l.key-iterator;
  after : least_after l.least (keys_of l.key-iterator) ≡ least_after (least l.self.base) (keys_of l.self.entries);
}
