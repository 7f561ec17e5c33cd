use Rattle.std.proofs.Common.{ℕ, ◌-◌, ◌<◌, ◌≤◌, length, get_or}
use Rattle.std.specs.Map.{keys_of}
use Rattle.pages.proofs.neighbours.Neighbours.cut.Given as goal

abbrev pub invariant-loop-low : goal.invariant-loop-low
invariant-loop-low l = record {
  from : l.from ≤ l.low;
  order : l.low ≤ l.high;
  within : l.high ≤ length l.self;
  below : (i : ℕ) → l.from ≤ i → i < l.low → get_or (keys_of l.self) i 0 < l.neighbour;
  above : (i : ℕ) → l.high ≤ i → i < length l.self → l.neighbour < get_or (keys_of l.self) i 0;
}

abbrev pub decreases-loop-low : goal.decreases-loop-low
decreases-loop-low l = l.high - l.low
