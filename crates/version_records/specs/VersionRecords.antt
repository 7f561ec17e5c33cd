-- The records of runs on versions.
use Rattle.std.specs.Prelude.{◌≡◌, ◌⊎◌, ℕ, ◌≤◌, nat_eq, Option, Some}
use Rattle.indexmap.specs.IndexMap.{get}
use Rattle.tree_batch.specs.Digraph.{Digraph}
use Rattle.edge_differences.specs.Listed.{AreSameBut}
use Rattle.version_list.specs.Machine.{State, newest_number, version_graph}
use Rattle.version_records.specs.declared.version_records.VersionRecord.{VersionRecord}
use Rattle.version_records.specs.declared.version_records.HeldRun.{HeldRun}
use Rattle.version_records.specs.declared.version_records.Predecessor.{Predecessor}
use Rattle.version_records.specs.declared.version_records.VersionRecords.{VersionRecords}

module _ {R : Type 0} where
  -- the record is that of the program's last run, which was on version k
  pub record IsLast (records : VersionRecords R) (program k : ℕ) (r : R) : Type 0 where
    pub found : VersionRecord R
    pub there : get nat_eq records.last program ≡ Some found
    pub version : found.version ≡ k
    pub run_record : found.run_record ≡ r

  -- the record is that of the last run on version k, which was of the program
  pub record IsOfHeld (records : VersionRecords R) (program k : ℕ) (r : R) : Type 0 where
    pub found : HeldRun R
    pub there : get nat_eq records.held k ≡ Some found
    pub of : found.program ≡ program
    pub run_record : found.run_record ≡ Some r

  -- the record is among those that are kept, as that of a run of the program on version k
  abbrev pub HasRecord : VersionRecords R → (program k : ℕ) → R → Type 0
  HasRecord records program k r = IsLast records program k r ⊎ IsOfHeld records program k r

  -- each record is one from before
  abbrev pub MayLose : (old new : VersionRecords R) → Type 0
  MayLose old new = (program k : ℕ) (r : R) → HasRecord new program k r → HasRecord old program k r

  -- each record is one from before, or this one of a run of the program on version k
  abbrev pub MayKeep : (old : VersionRecords R) → (program k : ℕ) → Option R → (new : VersionRecords R) → Type 0
  MayKeep old program k made new = (p q : ℕ) (r : R) → HasRecord new p q r → HasRecord old p q r ⊎ ((p ≡ program) × (q ≡ k) × (made ≡ Some r))

  -- there is no record
  abbrev pub HaveNone : VersionRecords R → Type 0
  HaveNone records = (program k : ℕ) (r : R) → HasRecord records program k r → ⊥

  -- the record is kept as that of a run of the program on some version whose graph has as many vertices as that of version k and, but for the listed
  -- ones, the same edges
  pub record IsOfFormer (s : State) (records : VersionRecords R) (program k : ℕ) (former : Predecessor R) : Type 0 where
    pub version : ℕ
    pub has : HasRecord records program version former.run_record.now
    pub vertices : (version_graph s k).vertices ≡ (version_graph s version).vertices
    pub edges : AreSameBut former.edges.items (version_graph s k).edges (version_graph s version).edges

  module _ (is_record : (program : ℕ) → R → Digraph → Type 0) where
    -- each record is that of a run of its program on the graph of its version, which was made
    abbrev pub AreRecordsOf : State → VersionRecords R → Type 0
    AreRecordsOf s records = (program k : ℕ) (r : R) → HasRecord records program k r → (k ≤ newest_number s) × is_record program r (version_graph s k)

  -- the record is that of a run on a graph that has as many vertices as this one and, but for the listed ones, the same edges
  pub record IsPredecessor (is_record : R → Digraph → Type 0) (graph : Digraph) (former : Predecessor R) : Type 0 where
    pub former_graph : Digraph
    pub is : is_record former.run_record.now former_graph
    pub vertices : former_graph.vertices ≡ graph.vertices
    pub edges : AreSameBut former.edges.items graph.edges former_graph.edges
