-- Held versions, and the history at whose end each was held.
use Rattle.std.specs.Prelude.{ℕ, ◌≡◌, ◌≤◌, List}
use Rattle.tree_batch.specs.Digraph.{Digraph}
use Rattle.version_list.specs.declared.step.Which.{Which}
use Rattle.version_list.specs.Machine.{State, newest_number, number_asked, version_graph}
use Rattle.shared_graph.specs.declared.entry.Entry.{Entry}

-- a ticket, the number of the version that it holds, the version's graph, and the history at whose end it was held
pub record Hold : Type 0 where
  pub ticket : ℕ
  pub version : ℕ
  pub graph : Digraph
  pub history : List Entry

-- the version that is asked for is held, one that was made, with its graph: of the newest all batches folded, of an older one those up to its number
pub record HoldsVersion (s : State) (which : Which) (h : Hold) : Type 0 where
  pub version_is : h.version ≡ number_asked s which
  pub made : h.version ≤ newest_number s
  pub graph_is : h.graph ≡ version_graph s h.version
