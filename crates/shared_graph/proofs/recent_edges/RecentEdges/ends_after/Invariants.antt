use Rattle.std.proofs.Common.{◌≡◌, take}
use Rattle.shared_graph.specs.inside.Recent.{named_after}
use Rattle.shared_graph.proofs.recent_edges.RecentEdges.ends_after.Given as goal

-- the ends of the first edges that count
abbrev pub invariant-edges : goal.invariant-edges
invariant-edges l = l.ends.items ≡ named_after l.version (take l.index l.self.named.items)
