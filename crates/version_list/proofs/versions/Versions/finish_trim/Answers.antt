-- Proofs of `finish_trim`, src/versions.rt.
use Rattle.std.proofs.Common.{rules, sym, subst}
use Rattle.tree_batch.specs.Digraph.{IsDigraph}
use Rattle.version_list.specs.declared.step.Step.TheVariants.{Trim}
use Rattle.version_list.specs.Machine.{State, newest_graph, reply_to}
use Rattle.version_list.specs.Timeline.{Timeline, IsAccepted}
use Rattle.version_list.specs.inside.Fields.{base}
use Rattle.version_list.proofs.LastBatches.{replay_is_digraph, step_is_digraph}
use Rattle.version_list.proofs.versions.Versions.finish_trim.Goals as goal

pub invariant_of-self : goal.invariant_of-self
invariant_of-self c =
    let t : Timeline = c.args.self.now in
    let faithful = c.self.invariant in
    let ok : IsDigraph (newest_graph t.state) =
    subst (λ (u : Timeline). IsDigraph (newest_graph u.state)) c.self.view_is (replay_is_digraph (base c.self.inside) c.self.inside.history.items faithful.legal faithful.begun) in
    let accepted : IsAccepted (reply_to t.state Trim) = subst IsAccepted (sym c.requires) tt in
    record {
      legal = search rules;
      begun = subst (λ (s : State). IsDigraph (newest_graph s)) (sym c.at-self-inside.ensures) (step_is_digraph t.state Trim accepted ok);
      state = search rules;
    }
