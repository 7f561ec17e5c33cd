-- What is recorded of an apply is true of it, and a record is as long as it is true.
use Rattle.std.proofs.Common.{◌≡◌, ◌≤◌, ℤ, Option, List, [], ◌∷◌, ◌++◌, length, slice_index_or, ap, sym, subst, subst₂, refl, ◌∙◌}
use Rattle.std.specs.Option.{option_map}
use Rattle.kernels.specs.EdgeApply.{after_edges}
use Rattle.kernels.specs.Registers.{HasSizes}
use Rattle.kernels.specs.Value.{entry}
use Rattle.kernels.specs.declared.kernel.EdgeKernel.{EdgeKernel}
use Rattle.vectors.specs.declared.changes.VectorChanges.{VectorChanges}
use Rattle.vectors.specs.Changes.{with_all_changes}
use Rattle.plans.specs.Operation.{kernel_at}
use Rattle.plans.specs.declared.functions.FunctionKernels.{FunctionKernels}
use Rattle.flat_snapshot.specs.Digraph.{Digraph}
use Rattle.edge_fold.specs.Between.{edges_between}
use Rattle.edge_fold.specs.Changed.{AreApart, changed, changes_of}
use Rattle.edge_apply.specs.declared.apply.Apply.{Apply}
use Rattle.run_state.specs.declared.run_view.RunView.{RunView}
use Rattle.follow_engine.specs.Reduced.{AreChangesReduced}
use Rattle.runner.specs.EdgeMap.{IsApplyOfRun}
use Rattle.runner.specs.declared.edge_maps.EdgeMap.{EdgeMap}
use Rattle.run_records.specs.declared.apply_record.ApplyRecord.{ApplyRecord}
use Rattle.run_records.specs.inside.Copies.{AreSameChanges}
use Rattle.run_records.specs.inside.Ends.{IsKeptSet}
use Rattle.run_records.specs.Recorded.{AreKernelsOf, AreRecorded, IsNamedTest, IsRecorded, vectors_through}
use Rattle.run_records.proofs.Copies.{same_apart, same_changes_of, same_vectors}
use Rattle.run_records.proofs.EndTests.{kernels_here, test_of_apply}

pub is_recorded : (run : RunView) (asked : EdgeMap) (x : Apply) (cs : List VectorChanges) (a : ApplyRecord) → IsApplyOfRun run asked x → a.asked ≡ asked
    → a.sizes.items ≡ run.sizes.now → IsKeptSet x.from a.sources → IsKeptSet x.to a.destinations → AreSameChanges a.changes.vectors.items cs
    → AreChangesReduced x cs → IsRecorded run.functions.now run.graph.now run.vectors.now.vectors a
is_recorded run asked x cs a is asks sizes from to same changes m steps from_test to_test vectors has kernels from_named to_named y given long =
    let f = run.functions.now in
    let of_asked = subst (λ (q : EdgeMap). AreKernelsOf (kernel_at f.edge q.first) (option_map (kernel_at f.edge) q.second) steps) asks kernels in
    let here = kernels_here x.first.now x.second steps
    (subst₂ (λ (k : EdgeKernel) (o : Option EdgeKernel). AreKernelsOf k o steps) (sym is.first) (sym is.second) of_asked) in
    let from_here = test_of_apply run asked.ends.from x.from a.sources m from_test is.from from
    (subst (λ (q : EdgeMap). IsNamedTest f q.ends.from a.sources m from_test) asks from_named) in
    let to_here = test_of_apply run asked.ends.to x.to a.destinations m to_test is.to to
    (subst (λ (q : EdgeMap). IsNamedTest f q.ends.to a.destinations m to_test) asks to_named) in
    same_changes_of a.changes.vectors.items cs same y
    ∙ subst (λ (g : Digraph). g.vertices ≤ length (slice_index_or m.vectors y []) → changes_of y cs ≡ changed g.vertices (entry m.vectors y)
    (entry (after_edges steps m.sets m.vectors (edges_between from_test to_test g.edges) m.vectors) y)) is.graph
    (changes m steps from_test to_test (ap (λ vs. vs.vectors) is.vectors ∙ vectors) (subst (λ (ns : List ℤ). HasSizes ns m) (sizes ∙ sym is.sizes) has) here from_here to_here y given)
    long

-- an apply at the end of a record
pub recorded_more : (f : FunctionKernels) (g : Digraph) (vectors : List (List ℤ)) (records : List ApplyRecord) (a : ApplyRecord) → AreRecorded f g vectors records
    → AreApart a.changes.vectors.items → IsRecorded f g (vectors_through records vectors) a → AreRecorded f g vectors (records ++ a ∷ [])
recorded_more f g vectors [] a are once is = ((once, is), tt)
recorded_more f g vectors (b ∷ records) a are once is =
    (are.0, recorded_more f g (with_all_changes b.changes.vectors.items vectors) records a are.1 once is)

pub vectors_through_more : (records : List ApplyRecord) (a : ApplyRecord) (vectors : List (List ℤ))
    → vectors_through (records ++ a ∷ []) vectors ≡ with_all_changes a.changes.vectors.items (vectors_through records vectors)
vectors_through_more [] a vectors = refl
vectors_through_more (b ∷ records) a vectors = vectors_through_more records a (with_all_changes b.changes.vectors.items vectors)

-- how an apply was recorded: what was asked, the sizes, the kept sets and the changes
pub record IsRecordOf (run : RunView) (asked : EdgeMap) (x : Apply) (cs : List VectorChanges) (a : ApplyRecord) : Type 0 where
  pub asks : a.asked ≡ asked
  pub sizes : a.sizes.items ≡ run.sizes.now
  pub from : IsKeptSet x.from a.sources
  pub to : IsKeptSet x.to a.destinations
  pub same : AreSameChanges a.changes.vectors.items cs

-- a record with one more apply is true
pub recorded_one_more : (run : RunView) (asked : EdgeMap) (x : Apply) (cs : List VectorChanges) (a : ApplyRecord) (records : List ApplyRecord) (start : List (List ℤ))
    → IsApplyOfRun run asked x → IsRecordOf run asked x cs a → run.vectors.now.vectors ≡ vectors_through records start → AreApart cs → AreChangesReduced x cs
    → AreRecorded run.functions.now run.graph.now start records → AreRecorded run.functions.now run.graph.now start (records ++ a ∷ [])
recorded_one_more run asked x cs a records start is of here once changes are =
    recorded_more run.functions.now run.graph.now start records a are (same_apart a.changes.vectors.items cs of.same once)
    (subst (λ (vs : List (List ℤ)). IsRecorded run.functions.now run.graph.now vs a) here
    (is_recorded run asked x cs a is of.asks of.sizes of.from of.to of.same changes))

pub through_one_more : (run : RunView) (cs : List VectorChanges) (a : ApplyRecord) (records : List ApplyRecord) (start : List (List ℤ))
    → run.vectors.now.vectors ≡ vectors_through records start → AreSameChanges a.changes.vectors.items cs
    → vectors_through (records ++ a ∷ []) start ≡ with_all_changes cs run.vectors.now.vectors
through_one_more run cs a records start here same =
    vectors_through_more records a start
    ∙ ap (λ (vs : List (List ℤ)). with_all_changes a.changes.vectors.items vs) (sym here)
    ∙ same_vectors a.changes.vectors.items cs same run.vectors.now.vectors
