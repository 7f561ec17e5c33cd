-- The edges in which the newest version may differ from an earlier one.
use Rattle.std.specs.Prelude.{ℕ, ◌≡◌, ◌≤◌, List}
use Rattle.tree_batch.specs.Edge.{Ends}
use Rattle.edge_differences.specs.Listed.{AreAscending, AreSameBut}
use Rattle.version_list.specs.Machine.{State, newest_graph, newest_number, version_graph}

-- version k was made, the newest version has as many vertices and but for the listed ends the same edges, and the list ascends
pub record AreEdgesSince (s : State) (k : ℕ) (listed : List Ends) : Type 0 where
  pub made : k ≤ newest_number s
  pub edges : AreSameBut listed (newest_graph s).edges (version_graph s k).edges
  pub vertices : (newest_graph s).vertices ≡ (version_graph s k).vertices
  pub ascending : AreAscending listed
