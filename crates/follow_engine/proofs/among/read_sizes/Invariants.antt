use Rattle.std.proofs.Common.{ℕ, ◌<◌, pos, FitsSigned, get_or, w64}
use Rattle.follow_engine.proofs.among.read_sizes.Given as goal

-- the first sizes are ints
abbrev pub invariant-sizes : goal.invariant-sizes
invariant-sizes l = (p : ℕ) → p < l.size-index → FitsSigned w64 (get_or l.sizes p (pos 0))
