-- What engines change, in the words of the meaning.
use Rattle.std.proofs.Common.{◌≡◌, ℕ, ℤ, ◌<◌, ◌≤◌, Some, List, [], Result, Ok, Err, IfOk, length, slice_index_or, ap, sym, ◌∙◌, subst, subst₂}
use Rattle.weighted_edges.specs.Edge.{Edge}
use Rattle.typed_tree.specs.declared.statement.ApplyEnds.{ApplyEnds}
use Rattle.typed_tree.specs.ProgramTree.{ProgramTree}
use Rattle.typed_tree.specs.FunctionStatementTree.{FunctionStatementsTree}
use Rattle.apply_options.specs.declared.reduction.Reduction.{Reduction}
use Rattle.algorithm_meaning.specs.EdgeApply.{after_edge_apply, after_edges, matching, passes, IsGivenBy}
use Rattle.algorithm_meaning.specs.State.{GraphValue, StateValue}
use Rattle.algorithm_meaning.specs.Value.{entry}
use Rattle.flat_snapshot.specs.Digraph.{Digraph, IsDigraph}
use Rattle.flat_snapshot.specs.Edge.{Ends, weight_in, IsWithin}
use Rattle.edge_fold.specs.Between.{edges_between}
use Rattle.edge_fold.specs.Changed.{AreApart, changed, changes_of}
use Rattle.kernels.specs.Registers.{HasSizes}
use Rattle.edge_apply.specs.Applied.{AreChangesOf, AreChangesOn}
use Rattle.edge_apply.specs.declared.apply.Apply.{Apply}
use Rattle.vectors.specs.declared.changes.VectorChanges.{VectorChanges}
use Rattle.plans.specs.Reducing.{AreReduced, indices_of, steps_at}
use Rattle.run_state.specs.declared.run_view.RunView.{RunView}
use Rattle.runner.specs.EdgeMap.{AreChangesTo, AreChangesOfApply, IsApplyOfRun}
use Rattle.runner.specs.declared.edge_maps.EdgeMap.{EdgeMap}
use Rattle.run_state.specs.View.{HasEntryForEach}
use Rattle.runner.proofs.Between.{count_after_edges, entry_past, matching_between, rows_after_edges}
use Rattle.runner.proofs.WrittenChanges.{changes_make}

-- for each vector that has an entry for each vertex and to which the functions give by one reduction, the entries that these edges change
abbrev AreChangesAlong : (n : ℕ) → (edges : List Edge) → StateValue → List FunctionStatementsTree → List VectorChanges → Type 0
AreChangesAlong n edges m steps cs = (x : ℕ) (r : Reduction) → IsGivenBy r x steps m.sets m.vectors → n ≤ length (slice_index_or m.vectors x [])
    → changes_of x cs ≡ changed n (entry m.vectors x) (entry (after_edges steps m.sets m.vectors edges m.vectors) x)

-- changes on the edges that an apply looks at
changes_on_matching : (p : ProgramTree) (m : StateValue) (g : GraphValue) (ends : ApplyEnds) (indices : List ℕ) (cs : List VectorChanges) → HasEntryForEach g.vertices m.vectors
    → AreReduced (steps_at p.edge_functions indices) m → AreApart cs
    → AreChangesAlong g.vertices (matching p.filters g m ends) m (steps_at p.edge_functions indices) cs
    → AreChangesTo g.vertices m.vectors (after_edge_apply p.filters p.edge_functions g ends indices m) cs
changes_on_matching p m g ends indices cs long one apart are =
    let steps = steps_at p.edge_functions indices in
    let edges = matching p.filters g m ends in
    let differing : (x : ℕ) → x < length m.vectors → changes_of x cs ≡ changed g.vertices (entry m.vectors x) (entry (after_edges steps m.sets m.vectors edges m.vectors) x) =
    λ x l. are x (one x).reduction (one x).alone (long x l) in
    record {
      written = changes_make g.vertices cs m.vectors (after_edges steps m.sets m.vectors edges m.vectors) apart
          (count_after_edges steps m m.vectors edges m.vectors)
          (λ x. rows_after_edges steps m m.vectors edges m.vectors x)
          (λ x v past. entry_past p.filters g m ends steps x v past)
          differing;
      differing = differing;
    }

pub changes_are_meant : (d : Digraph) (p : ProgramTree) (m : StateValue) (g : GraphValue) (ends : ApplyEnds) (indices : List ℕ) (cs : List VectorChanges) → IsDigraph d
    → d.vertices ≡ g.vertices → d.edges ≡ g.edges → HasEntryForEach g.vertices m.vectors
    → AreReduced (steps_at p.edge_functions indices) m → AreApart cs
    → AreChangesOn d.vertices (edges_between (passes p.filters m ends.from) (passes p.filters m ends.to) d.edges) m (steps_at p.edge_functions indices) cs
    → AreChangesTo g.vertices m.vectors (after_edge_apply p.filters p.edge_functions g ends indices m) cs
changes_are_meant d p m g ends indices cs graph count edges long one apart are =
    let steps = steps_at p.edge_functions indices in
    let from = passes p.filters m ends.from in
    let to = passes p.filters m ends.to in
    let within : (p : Ends) (w : ℤ) → weight_in p d.edges ≡ Some w → IsWithin g.vertices p =
    subst (λ (n : ℕ). (p : Ends) (w : ℤ) → weight_in p d.edges ≡ Some w → IsWithin n p) count graph.within in
    let looked_at = matching_between p.filters g m ends d.edges edges within in
    changes_on_matching p m g ends indices cs long one apart
    (subst₂ (λ (n : ℕ) (es : List Edge). AreChangesAlong n es m steps cs) count looked_at are)

-- what an engine says of an apply is what a plan's edge apply asks
pub apply_is_meant : (run : RunView) (asked : EdgeMap) (apply : Apply) (cs : List VectorChanges) → IsDigraph run.graph.now → IsApplyOfRun run asked apply
    → AreApart cs → AreChangesOf apply cs → AreChangesOfApply run asked cs
apply_is_meant run asked apply cs graph is once changes p m g view long one =
    let indices = indices_of asked.first asked.second in
    let parts = is.parts p m view.functions view.sets in
    changes_are_meant apply.flat.now p m g asked.ends indices cs (subst IsDigraph (sym is.graph) graph)
    (ap (λ (d : Digraph). d.vertices) is.graph ∙ view.vertices) (ap (λ (d : Digraph). d.edges) is.graph ∙ view.edges) long (one m) once
    (changes m (steps_at p.edge_functions indices) (passes p.filters m asked.ends.from) (passes p.filters m asked.ends.to)
    (ap (λ vs. vs.vectors) is.vectors ∙ view.vectors) (subst (λ ns. HasSizes ns m) (sym is.sizes) view.sizes) parts.0 parts.1 parts.2)

-- what follows from two facts of a result
pub from_both : {A E : Type 0} (P Q R : A → Type 0) (r : Result A E) → ((a : A) → P a → Q a → R a) → IfOk r P → IfOk r Q → IfOk r R
from_both P Q R (Ok a) f p q = f a p q
from_both P Q R (Err e) f p q = tt
