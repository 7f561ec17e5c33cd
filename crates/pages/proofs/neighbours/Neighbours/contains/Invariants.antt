use Rattle.std.proofs.Common.{ℕ, ◌-◌, ◌<◌, ◌≤◌, length, get_or}
use Rattle.std.specs.Map.{keys_of}
use Rattle.pages.proofs.neighbours.Neighbours.contains.Given as goal

abbrev pub invariant-loop-low : goal.invariant-loop-low
invariant-loop-low l = record {
  within : l.high ≤ length l.self;
  below : (i : ℕ) → i < l.low → i < length (keys_of l.self) → get_or (keys_of l.self) i 0 < l.neighbour;
  above : (i : ℕ) → l.high ≤ i → i < length (keys_of l.self) → l.neighbour < get_or (keys_of l.self) i 0;
}

abbrev pub decreases-loop-low : goal.decreases-loop-low
decreases-loop-low l = l.high - l.low
