-- Proofs of `trim`, src/locked_state.rt.
use Rattle.std.proofs.Common.{List, refl, sym, subst}
use Rattle.version_list.specs.declared.step.Step.TheVariants.{Trim}
use Rattle.version_list.specs.declared.step.Reply.TheVariants.{Trimmed}
use Rattle.version_list.specs.Machine.{State, opened}
use Rattle.shared_graph.specs.declared.entry.Entry.{Entry}
use Rattle.shared_graph.specs.inside.Locked.{IsTimelineOf}
use Rattle.shared_graph.proofs.Steps.{timeline_trimmed}
use Rattle.shared_graph.proofs.locked_state.LockedState.trim.Goals as goal

pub invariant_of-self : goal.invariant_of-self
invariant_of-self g c =
    let base : State = opened g.J.Naming.vertices g.J.Naming.room in
    let log : List Entry = c.self.inside.published_log in
    let p = c.in-Ok.prepared in
    let e : Entry = record { by = c.args.me.now.number; done = record { step = Trim; reply = Trimmed p.count } } in
    subst (λ (l : List Entry). IsTimelineOf base l c.finish_trim.new.self) (sym c.record.ensures.log)
    (timeline_trimmed base log e c.self.inside.versions c.finish_trim.new.self c.self.invariant refl c.finish_trim.ensures.trimmed.timeline)
