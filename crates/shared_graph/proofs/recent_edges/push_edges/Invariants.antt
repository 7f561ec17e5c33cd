use Rattle.std.proofs.Common.{◌≡◌, ◌++◌, take}
use Rattle.edge_differences.specs.Named.{named_in}
use Rattle.shared_graph.specs.inside.Recent.{edges_of_version}
use Rattle.shared_graph.proofs.recent_edges.push_edges.Given as goal

-- the edges that the first entries name are at the end
abbrev pub invariant-entries : goal.invariant-entries
invariant-entries l = l.named.items ≡ l.fn.named.items ++ edges_of_version l.version (named_in (take l.index l.batch))
