-- Proofs of `commit`, src/locked_state.rt.
use Rattle.std.proofs.Common.{List, sym, subst}
use Rattle.version_list.specs.Machine.{State, opened}
use Rattle.shared_graph.specs.declared.entry.Entry.{Entry}
use Rattle.shared_graph.specs.Histories.{state_at}
use Rattle.shared_graph.specs.inside.Locked.{IsTimelineOf}
use Rattle.shared_graph.proofs.Newest.{newest_made}
use Rattle.shared_graph.proofs.Steps.{timeline_push}
use Rattle.shared_graph.proofs.locked_state.LockedState.commit.Goals as goal

pub record-requires-clause-newest : goal.record-requires-clause-newest
record-requires-clause-newest g c =
    let log : List Entry = c.self.inside.published_log in
    newest_made c.prepare_commit.new.versions c.args.batch c.in_ok-prepared.prepared (state_at (opened g.J.Naming.vertices g.J.Naming.room) log) c.in_ok-prepared.newest
    c.in_ok-prepared.ensures.timeline.state c.in_ok-prepared.ensures.prepared c.in_ok-prepared.ensures.number c.in_ok-prepared.ensures.graph c.in_ok-prepared.ensures.recent

pub invariant_of-self-2 : goal.invariant_of-self-2
invariant_of-self-2 g c =
    let base : State = opened g.J.Naming.vertices g.J.Naming.room in
    let log : List Entry = c.self.inside.published_log in
    let e : Entry = record { by = c.prepare_commit.new.me.number; done = c.in_ok-prepared.prepared.done } in
    subst (λ (l : List Entry). IsTimelineOf base l c.finish.new.self) (sym c.record.ensures.log)
    (timeline_push base log e c.prepare_commit.new.versions c.finish.new.self c.in_ok-prepared.ensures.timeline c.finish.ensures.accepted)
