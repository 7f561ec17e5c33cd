use Rattle.std.proofs.Common.{◌≡◌, take}
use Rattle.edge_differences.specs.Named.{named_in_all}
use Rattle.edge_differences.proofs.named.named_edges.Given as goal

-- the ends that the first batches name
abbrev pub invariant-batches : goal.invariant-batches
invariant-batches l = l.ends.items ≡ named_in_all (take l.batch-index l.batches)
