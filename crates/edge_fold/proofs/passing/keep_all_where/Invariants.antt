use Rattle.std.proofs.Common.{◌≡◌, ℕ, ◌++◌, ◌<◌, Bool, take, length, get_or}
use Rattle.std.specs.List.{filter}
use Rattle.kernels.specs.Kernels.{passes_at}
use Rattle.edge_fold.proofs.passing.keep_all_where.Given as goal

-- those that the filter lets through among the vertices that have come
abbrev pub invariant-indices : goal.invariant-indices
invariant-indices l = (test : ℕ → Bool) → ((i : ℕ) → i < length l.part → passes_at l.block i ≡ test (get_or l.part i 0)) → l.kept.items ≡ l.fn.kept.items ++ filter test (take l.index l.part)
