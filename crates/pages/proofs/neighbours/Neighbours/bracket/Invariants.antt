use Rattle.std.proofs.Common.{ℕ, ◌-◌, ◌<◌, ◌≤◌, length, get_or}
use Rattle.std.specs.Map.{keys_of}
use Rattle.pages.proofs.neighbours.Neighbours.bracket.Given as goal

abbrev pub invariant-loop-jump : goal.invariant-loop-jump
invariant-loop-jump l = record {
  from : l.from ≤ l.low;
  within : l.low ≤ length l.self;
  some : 1 ≤ l.jump;
  below : (i : ℕ) → l.from ≤ i → i < l.low → get_or (keys_of l.self) i 0 < l.neighbour;
}

abbrev pub decreases-loop-jump : goal.decreases-loop-jump
decreases-loop-jump l = length l.self - l.low
