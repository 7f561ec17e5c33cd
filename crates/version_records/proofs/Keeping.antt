-- Records of runs, and the states of the versions.
use Rattle.std.proofs.Common.{◌≡◌, ℕ, ◌≤◌, ◌∙◌, refl, Option, Some, None, IfSome, arith, inl, inr, sym, subst}
use Rattle.tree_batch.specs.Digraph.{Digraph}
use Rattle.edge_differences.specs.Listed.{AreSameBut}
use Rattle.version_list.specs.Machine.{State, newest_number, version_graph}
use Rattle.version_flats.specs.VersionFlats.{IsKept}
use Rattle.version_records.specs.declared.version_records.Predecessor.{Predecessor}
use Rattle.version_records.specs.declared.version_records.VersionRecords.{VersionRecords}
use Rattle.version_records.specs.inside.Versions.{AreVersionsOf}
use Rattle.version_records.specs.VersionRecords.{AreRecordsOf, HaveNone, IsOfFormer, IsPredecessor, MayKeep, MayLose}

module _ {R : Type 0} (is_record : (program : ℕ) → R → Digraph → Type 0) where
  -- what is left are records
  pub AreRecordsOf-lost : (s : State) (old new : VersionRecords R) → MayLose old new → AreRecordsOf is_record s old → AreRecordsOf is_record s new
  AreRecordsOf-lost s old new less are program k r has = are program k r (less program k r has)

  -- they stay records of a later state
  pub AreRecordsOf-later : (s t : State) (records : VersionRecords R) → AreVersionsOf s t → AreRecordsOf is_record s records → AreRecordsOf is_record t records
  AreRecordsOf-later s t records same are program k r has =
      let is = are program k r has in
      (omega (arith, is.0, same.made), subst (λ (g : Digraph). is_record program r g) (sym (same.graphs k is.0)) is.1)

  -- where there is none, all are
  pub AreRecordsOf-none : (s : State) (records : VersionRecords R) → HaveNone records → AreRecordsOf is_record s records
  AreRecordsOf-none s records none program k r has = absurd (none program k r has)

  -- and one of a run on a version that is kept is one more
  pub AreRecordsOf-kept : (s : State) (old new : VersionRecords R) (program k : ℕ) (made : Option R) (g : Digraph) → MayKeep old program k made new → IsKept s k g
      → IfSome made (λ r. is_record program r g) → AreRecordsOf is_record s old → AreRecordsOf is_record s new
  AreRecordsOf-kept s old new program k made g keeps kept is are p q r has = elim (keeps p q r has) [
    | inl before ↦ are p q r before
    | inr here ↦
        let now : is_record program r g = subst (λ (o : Option R). IfSome o (λ x. is_record program x g)) here.2 is in
        let there : is_record program r (version_graph s k) = subst (λ (h : Digraph). is_record program r h) kept.graph now in
        (subst (λ (n : ℕ). n ≤ newest_number s) (sym here.1) kept.made, subst (λ (n : ℕ). is_record n r (version_graph s q)) (sym here.0) (subst (λ (n : ℕ). is_record program r (version_graph s n)) (sym here.1) there))
  ]

  -- a record that is kept is one that a run may follow
  pub IsPredecessor-kept : (s : State) (records : VersionRecords R) (program k : ℕ) (g : Digraph) (former : Predecessor R) → AreRecordsOf is_record s records → IsKept s k g
      → IsOfFormer s records program k former → IsPredecessor (is_record program) g former
  IsPredecessor-kept s records program k g former are kept of = record {
    former_graph = version_graph s of.version;
    is = (are program of.version former.run_record.now of.has).1;
    vertices = sym of.vertices ∙ subst (λ (h : Digraph). (version_graph s k).vertices ≡ h.vertices) (sym kept.graph) refl;
    edges = subst (λ (h : Digraph). AreSameBut former.edges.items h.edges (version_graph s of.version).edges) (sym kept.graph) of.edges;
  }

  -- so it is where there may be one
  pub predecessors : (s : State) (records : VersionRecords R) (program k : ℕ) (g : Digraph) (former : Option (Predecessor R)) → AreRecordsOf is_record s records → IsKept s k g
      → IfSome former (IsOfFormer s records program k) → IfSome former (IsPredecessor (is_record program) g)
  predecessors s records program k g None are kept of = tt
  predecessors s records program k g (Some former) are kept of = IsPredecessor-kept s records program k g former are kept of
