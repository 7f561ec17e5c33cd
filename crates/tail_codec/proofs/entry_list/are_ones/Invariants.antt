use Rattle.std.proofs.Common.{◌≡◌, ℕ, ◌<◌, pos, get_or}
use Rattle.tail_codec.proofs.entry_list.are_ones.Given as goal

abbrev pub invariant-loop-weight : goal.invariant-loop-weight
invariant-loop-weight l = (i : ℕ) → i < l.weight-index → get_or l.weights i (pos 0) ≡ pos 1
