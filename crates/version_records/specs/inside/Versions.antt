-- Versions of two states, and the newest version beside a former one.
use Rattle.std.specs.Prelude.{◌≡◌, ℕ, ◌≤◌, List}
use Rattle.tree_batch.specs.Edge.{Ends}
use Rattle.edge_differences.specs.Listed.{AreSameBut}
use Rattle.version_list.specs.Machine.{State, newest_number, version_graph}

-- the newest version has as many vertices as version k and, but for the listed ones, the same edges
pub record IsFormerOfNewest (s : State) (listed : List Ends) (k : ℕ) : Type 0 where
  pub vertices : (version_graph s (newest_number s)).vertices ≡ (version_graph s k).vertices
  pub edges : AreSameBut listed (version_graph s (newest_number s)).edges (version_graph s k).edges

-- the versions of the old state are those of the new one
pub record AreVersionsOf (old new : State) : Type 0 where
  pub made : newest_number old ≤ newest_number new
  pub graphs : (k : ℕ) → k ≤ newest_number old → version_graph new k ≡ version_graph old k
