-- The edges that the last commits named, each with the number of the version that its batch made.
use Rattle.std.specs.Prelude.{ℕ, ◌≡◌, ◌≤◌, nat_lt, false, if◌then◌else◌, List, [], ◌∷◌, drop, map}
use Rattle.std.specs.List.{list_any}
use Rattle.std.specs.Arc.{arc_value}
use Rattle.tree_batch.specs.declared.batch.Entry.{Entry as Change}
use Rattle.tree_batch.specs.Edge.{Ends}
use Rattle.edge_differences.specs.Named.{named_in_all}
use Rattle.version_list.specs.Machine.{State}
use Rattle.version_list.specs.Since.{grows}
use Rattle.shared_graph.specs.declared.newest_version.NewestVersion.{NewestVersion}
use Rattle.shared_graph.specs.declared.recent_edges.NamedEdge.{NamedEdge}
use Rattle.shared_graph.specs.declared.recent_edges.RecentEdges.{RecentEdges}
use Rattle.shared_graph.specs.Histories.{IsNewest}

-- the edges of these ends, which the batch of this version names
abbrev pub edges_of_version : ℕ → List Ends → List NamedEdge
edges_of_version version ends = map (λ p. record { version = version; source = p.0; destination = p.1 }) ends

-- the ends of the edges that versions after version k name
abbrev pub named_after : ℕ → List NamedEdge → List Ends
named_after k [] = []
named_after k (e ∷ es) = if nat_lt k e.version then (e.source, e.destination) ∷ named_after k es else named_after k es

-- for each version from some one on: the edges that later versions name are those that the batches since name, and none of these batches asks for a number of
-- vertices
pub record AreRecent (batches : List (List Change)) (recent : RecentEdges) : Type 0 where
  pub named : (k : ℕ) → recent.since ≤ k → named_after k recent.named.items ≡ named_in_all (drop k batches)
  pub steady : (k : ℕ) → recent.since ≤ k → list_any grows (drop k batches) ≡ false

-- the newest version in this state, with the edges that the last commits named
pub record IsNewestVersion (s : State) (v : NewestVersion) : Type 0 where
  pub newest : IsNewest s v.snapshot.number (arc_value v.snapshot.graph)
  pub recent : AreRecent s.batches (arc_value v.recent)
