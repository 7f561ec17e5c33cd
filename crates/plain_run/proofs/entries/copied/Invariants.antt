use Rattle.std.proofs.Common.{◌≡◌, ◌++◌, drop}
use Rattle.plain_run.proofs.entries.copied.Given as goal

-- the copies, and what is still to be copied, are all
abbrev pub invariant-vectors : goal.invariant-vectors
invariant-vectors l = l.copies.items ++ drop l.vector-index l.vectors ≡ l.vectors
