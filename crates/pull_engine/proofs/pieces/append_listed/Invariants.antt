use Rattle.std.proofs.Common.{◌≡◌, ◌++◌, drop}
use Rattle.pull_engine.specs.Ranges.{all_listed}
use Rattle.pull_engine.proofs.pieces.append_listed.Given as goal

-- what is added, with what is left, is the whole
abbrev pub invariant-vectors : goal.invariant-vectors
invariant-vectors l = l.changes.items ++ all_listed (drop l.of_vector-index l.vectors) ≡ l.fn.changes.items ++ all_listed l.vectors
