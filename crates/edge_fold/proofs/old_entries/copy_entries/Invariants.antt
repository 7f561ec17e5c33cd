use Rattle.std.proofs.Common.{◌≡◌, ◌<◌, ℕ, pos, get_or}
use Rattle.vectors.specs.Lanes.{lane_entry}
use Rattle.edge_fold.proofs.old_entries.copy_entries.Given as goal

-- the values so far are the entries
abbrev pub invariant-rest : goal.invariant-rest
invariant-rest l = (v : ℕ) → v < l.index → get_or l.values v (pos 0) ≡ lane_entry l.old v
