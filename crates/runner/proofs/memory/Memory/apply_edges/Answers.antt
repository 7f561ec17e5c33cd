-- Proofs of `apply_edges`, src/applies.rt.
use Rattle.std.proofs.Common.{◌≡◌, ◌∙◌, ◌+◌, ℕ, List, Option, ap, sym, subst}
use Rattle.algorithm_meaning.specs.EdgeApply.{after_edge_apply}
use Rattle.algorithm_meaning.specs.State.{GraphValue, StateValue}
use Rattle.run_state.specs.View.{HasEntryForEach}
use Rattle.plans.specs.Machine.{At}
use Rattle.plans.specs.Reducing.{AreReduced, indices_of, steps_at}
use Rattle.runner.specs.EdgeMap.{AreChangesTo}
use Rattle.runner.specs.declared.memory.Memory.{Memory}
use Rattle.runner.specs.inside.Position.{loops_of}
use Rattle.runner.specs.inside.Results.{with_both}
use Rattle.runner.proofs.Applying.{are_reduced, edges_done, function_indices}
use Rattle.runner.proofs.Stepping.{stands}
use Rattle.runner.proofs.memory.Memory.apply_edges.Goals as goal

pub returns-clause-done : goal.returns-clause-done
returns-clause-done over c p g t same on functions is reduces =
    let run = c.args.self.now in
    let s = run.state.state in
    let ends = c.args.applies.ends in
    let part = c.args.applies.first in
    let second = c.args.applies.second in
    let cs = c.in_ok-changes.changes.vectors.items in
    let vertices : c.args.applies.graph.now.vertices ≡ g.vertices = sym (ap (λ (x : GraphValue). x.vertices) same) in
    let edges : c.args.applies.graph.now.edges ≡ g.edges = sym (ap (λ (x : GraphValue). x.edges) same) in
    let view = c.view-view.ensures.seen p g functions vertices edges in
    let entries = subst (λ (n : ℕ). HasEntryForEach n s.vectors) on c.view-view.ensures.entries in
    let indices = ap (λ (o : Option ℕ). indices_of part.function o) c.function_of-both.ensures in
    let reduced = λ (k : StateValue). subst (λ (fs : List ℕ). AreReduced (steps_at p.edge_functions fs) k) (sym indices) (are_reduced p ends part second t is reduces k) in
    let after = after_edge_apply p.filters p.edge_functions g ends (function_indices part second) s in
    let changes = subst (λ (fs : List ℕ). AreChangesTo g.vertices s.vectors (after_edge_apply p.filters p.edge_functions g ends fs s) cs) indices
    (c.in_ok-changes.ensures.changes p s g view entries reduced) in
    let changes_here = subst (λ (n : ℕ). AreChangesTo n s.vectors after cs) (sym on) changes in
    let new : Memory = record { loops = run.loops; state = c.take_changes.new.state; block = run.block; registers = run.registers } in
    edges_done c.args.instruction.now run new p g ends part second t is (λ index.
    stands (index + 1) (loops_of run) run.state c.take_changes.new.state _ (c.in_ok-take_changes.ensures.ok after changes_here)
    ∙ (λ j. At (index + 1) (loops_of run) (with_both (on j) part.result (c.result_of-second.ensures j) after s)))
