-- What a follower says of an apply, in the words of the meaning.
use Rattle.std.proofs.Common.{ℤ, List, ap, sym, ◌∙◌, subst}
use Rattle.algorithm_meaning.specs.EdgeApply.{passes}
use Rattle.kernels.specs.Registers.{HasSizes}
use Rattle.vectors.specs.declared.changes.VectorChanges.{VectorChanges}
use Rattle.plans.specs.Reducing.{indices_of, steps_at}
use Rattle.flat_snapshot.specs.Digraph.{Digraph, IsDigraph}
use Rattle.edge_fold.specs.Changed.{AreApart}
use Rattle.edge_apply.specs.declared.apply.Apply.{Apply}
use Rattle.run_state.specs.declared.run_view.RunView.{RunView}
use Rattle.follow_engine.specs.Reduced.{AreChangesReduced}
use Rattle.runner.specs.EdgeMap.{AreChangesOfApply, IsApplyOfRun}
use Rattle.runner.specs.declared.edge_maps.EdgeMap.{EdgeMap}
use Rattle.runner.proofs.EdgeMaps.{changes_are_meant}

-- changes of an apply of a run are those that the meaning of the plan's edge apply has
pub followed_is_meant : (run : RunView) (asked : EdgeMap) (apply : Apply) (cs : List VectorChanges) → IsDigraph run.graph.now → IsApplyOfRun run asked apply
    → AreApart cs → AreChangesReduced apply cs → AreChangesOfApply run asked cs
followed_is_meant run asked apply cs graph is once changes p m g view long one =
    let indices = indices_of asked.first asked.second in
    let parts = is.parts p m view.functions view.sets in
    changes_are_meant apply.flat.now p m g asked.ends indices cs (subst IsDigraph (sym is.graph) graph)
    (ap (λ (d : Digraph). d.vertices) is.graph ∙ view.vertices) (ap (λ (d : Digraph). d.edges) is.graph ∙ view.edges) long (one m) once
    (λ x r given entries. changes m (steps_at p.edge_functions indices) (passes p.filters m asked.ends.from) (passes p.filters m asked.ends.to)
    (ap (λ vs. vs.vectors) is.vectors ∙ view.vectors) (subst (λ (ns : List ℤ). HasSizes ns m) (sym is.sizes) view.sizes) parts.0 parts.1 parts.2
    x (λ k. ((one k x).reduction, (one k x).alone)) entries)
