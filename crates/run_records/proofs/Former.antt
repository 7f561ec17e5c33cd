-- What a recorded apply changed, and in what an apply may differ from it.
use Rattle.std.proofs.Common.{◌≡◌, ℕ, ◌≤◌, ℤ, Option, List, [], length, slice_index_or, ap, sym, subst, subst₂, ◌∙◌}
use Rattle.std.specs.Arc.{arc_value}
use Rattle.std.specs.Option.{option_map}
use Rattle.typed_tree.specs.declared.statement.ApplyEnds.{ApplyEnds}
use Rattle.kernels.specs.FunctionStatementTree.{FunctionStatementsTree}
use Rattle.kernels.specs.EdgeApply.{after_edges}
use Rattle.kernels.specs.Registers.{HasSizes}
use Rattle.kernels.specs.Value.{entry}
use Rattle.kernels.specs.declared.kernel.EdgeKernel.{EdgeKernel}
use Rattle.plans.specs.Operation.{kernel_at}
use Rattle.plans.specs.declared.functions.FunctionKernels.{FunctionKernels}
use Rattle.flat_snapshot.specs.Digraph.{Digraph}
use Rattle.edge_fold.specs.Between.{edges_between}
use Rattle.edge_fold.specs.Changed.{changed, changes_of}
use Rattle.edge_fold.specs.Folded.{AreKernels}
use Rattle.edge_apply.specs.declared.apply.Apply.{Apply}
use Rattle.run_state.specs.declared.run_view.RunView.{RunView}
use Rattle.follow_engine.specs.Reduced.{AreChangesReduced}
use Rattle.runner.specs.EdgeMap.{IsApplyOfRun}
use Rattle.runner.specs.declared.edge_maps.EdgeMap.{EdgeMap}
use Rattle.run_records.specs.declared.apply_record.ApplyRecord.{ApplyRecord}
use Rattle.run_records.specs.declared.former_run.FormerRun.{FormerRun}
use Rattle.run_records.specs.inside.Ends.{AreOfOneKind, IsRecordedEnd}
use Rattle.run_records.specs.inside.FormerRun.{AreKnown, IsRecordedApply}
use Rattle.run_records.specs.Recorded.{AreKernelsOf, IsRecorded}
use Rattle.run_records.proofs.EndTests.{kernels_here, kernels_of_values, one_kind, test_of_record}

-- what is recorded of an apply is what it changes
pub recorded_changes : (r : FormerRun) (a : ApplyRecord) (x : Apply) → IsRecordedApply r a x
    → IsRecorded (arc_value r.run_record.now.plan).functions (arc_value r.run_record.now.graph) r.vectors.vectors a → AreChangesReduced x a.changes.vectors.items
recorded_changes r a x is recorded m steps from to vectors sizes kernels is_from is_to y given long =
    let f = (arc_value r.run_record.now.plan).functions in
    let of_values = subst₂ (λ (k : EdgeKernel) (o : Option EdgeKernel). AreKernelsOf k o steps) is.first is.second (kernels_of_values x.first.now x.second steps kernels) in
    let from_named = test_of_record f a.asked.ends.from a.sources x.from m from is.from is_from in
    let to_named = test_of_record f a.asked.ends.to a.destinations x.to m to is.to is_to in
    subst (λ (g : Digraph). g.vertices ≤ length (slice_index_or m.vectors y []) → changes_of y a.changes.vectors.items ≡ changed g.vertices (entry m.vectors y)
    (entry (after_edges steps m.sets m.vectors (edges_between from to g.edges) m.vectors) y)) (sym is.graph)
    (recorded m steps from to (sym is.vectors ∙ vectors) (subst (λ (ns : List ℤ). HasSizes ns m) is.sizes sizes) of_values from_named to_named y given)
    long

-- an apply and a recorded one of the same functions have the same kernels
pub same_kernels : (run : RunView) (asked : EdgeMap) (now : Apply) (r : FormerRun) (a : ApplyRecord) (was : Apply) → IsApplyOfRun run asked now
    → IsRecordedApply r a was → (arc_value r.run_record.now.plan).functions ≡ run.functions.now → a.asked.first ≡ asked.first → a.asked.second ≡ asked.second
    → (steps : List FunctionStatementsTree) → AreKernels now.first.now now.second steps → AreKernels was.first.now was.second steps
same_kernels run asked now r a was is recorded functions first second steps kernels =
    let here = subst₂ (λ (k : EdgeKernel) (o : Option EdgeKernel). AreKernelsOf k o steps) is.first is.second (kernels_of_values now.first.now now.second steps kernels) in
    let of_record : AreKernelsOf (kernel_at (arc_value r.run_record.now.plan).functions.edge a.asked.first)
    (option_map (kernel_at (arc_value r.run_record.now.plan).functions.edge) a.asked.second) steps =
    subst (λ (f : FunctionKernels). AreKernelsOf (kernel_at f.edge a.asked.first) (option_map (kernel_at f.edge) a.asked.second) steps) (sym functions)
    (subst₂ (λ (i : ℕ) (o : Option ℕ). AreKernelsOf (kernel_at run.functions.now.edge i) (option_map (kernel_at run.functions.now.edge) o) steps) (sym first) (sym second) here) in
    kernels_here was.first.now was.second steps (subst₂ (λ (k : EdgeKernel) (o : Option EdgeKernel). AreKernelsOf k o steps) (sym recorded.first) (sym recorded.second) of_record)

-- the ends of an apply and of a recorded one between the same ends are of one kind
pub kinds_of_ends : (run : RunView) (asked : EdgeMap) (now : Apply) (r : FormerRun) (a : ApplyRecord) (was : Apply) → IsApplyOfRun run asked now
    → IsRecordedApply r a was → (arc_value r.run_record.now.plan).functions ≡ run.functions.now → a.asked.ends ≡ asked.ends
    → AreOfOneKind now.from was.from × AreOfOneKind now.to was.to
kinds_of_ends run asked now r a was is recorded functions ends = (
  one_kind run asked.ends.from a.sources now.from was.from is.from
      (subst₂ (λ (f : FunctionKernels) (e : ApplyEnds). IsRecordedEnd f e.from a.sources was.from) functions ends recorded.from),
  one_kind run asked.ends.to a.destinations now.to was.to is.to
      (subst₂ (λ (f : FunctionKernels) (e : ApplyEnds). IsRecordedEnd f e.to a.destinations was.to) functions ends recorded.to),
)

-- what is known of the vectors of a run is known of those of its apply
pub known_of_apply : (run : RunView) (asked : EdgeMap) (now : Apply) (kept : List (List ℤ)) (candidates : Option (List ℕ)) → IsApplyOfRun run asked now
    → AreKnown run.graph.now.vertices kept candidates run.vectors.now.vectors → AreKnown now.flat.now.vertices kept candidates now.vectors.now.vectors
known_of_apply run asked now kept candidates is known =
    subst₂ (λ (n : ℕ) (vs : List (List ℤ)). AreKnown n kept candidates vs) (sym (ap (λ (g : Digraph). g.vertices) is.graph)) (sym (ap (λ vs. vs.vectors) is.vectors)) known
