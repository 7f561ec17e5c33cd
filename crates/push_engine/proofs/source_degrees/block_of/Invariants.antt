use Rattle.std.proofs.Common.{◌≡◌, ℕ, ◌+◌, ◌*◌, ◌<◌, get_or}
use Rattle.push_engine.proofs.source_degrees.block_of.Given as goal

-- the vertices so far are those of the block
abbrev pub invariant-vertices : goal.invariant-vertices
invariant-vertices l = (k : ℕ) → k < l.index → get_or l.run k 0 ≡ 64 * l.block + k
