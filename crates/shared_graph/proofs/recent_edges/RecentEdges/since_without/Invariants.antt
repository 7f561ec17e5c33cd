use Rattle.std.proofs.Common.{◌≡◌, ◌≤◌, ℕ, drop}
use Rattle.shared_graph.specs.inside.Recent.{named_after}
use Rattle.shared_graph.proofs.recent_edges.RecentEdges.since_without.Given as goal

-- from here on the first edges do not count
abbrev pub invariant-edges : goal.invariant-edges
invariant-edges l = record {
  later : l.self.since ≤ l.since;
  same : (k : ℕ) → l.since ≤ k → named_after k (drop l.index l.self.named.items) ≡ named_after k l.self.named.items;
}
