use Rattle.std.proofs.Common.{◌≡◌, ◌++◌, take}
use Rattle.edge_differences.specs.Named.{named_in}
use Rattle.edge_differences.proofs.named.push_named.Given as goal

-- the ends that the first entries name are at the end
abbrev pub invariant-entries : goal.invariant-entries
invariant-entries l = l.ends.items ≡ l.fn.ends.items ++ named_in (take l.index l.batch)
