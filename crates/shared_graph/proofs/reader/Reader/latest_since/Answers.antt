-- Proofs of `latest_since`, src/reader.rt.
use Rattle.std.proofs.Common.{Option, IfSome, Vec, Global, List, sym, subst}
use Rattle.std.specs.Arc.{arc_value}
use Rattle.tree_batch.specs.Edge.{Ends}
use Rattle.version_list.specs.Machine.{State, opened}
use Rattle.shared_graph.specs.declared.entry.Entry.{Entry}
use Rattle.shared_graph.specs.Differences.{AreEdgesSince}
use Rattle.shared_graph.specs.Histories.{state_at}
use Rattle.shared_graph.specs.inside.Recent.{AreRecent}
use Rattle.shared_graph.proofs.Recent.{edges_given}
use Rattle.shared_graph.proofs.reader.Reader.latest_since.Goals as goal
use Rattle.shared_graph.proofs.reader.Reader.latest_since.Goals.{in-Some, in-None}

pub returns-clause-edges : goal.returns-clause-edges
returns-clause-edges g c =
    let n = g.J.Naming.vertices in
    let room = g.J.Naming.room in
    let log : List Entry = c.newest.new.self.shown in
    let s : State = state_at (opened n room) log in
    let k = c.args.version in
    elim c.match-recent.branch [
      | in-Some w ↦
          let are = subst (λ o. IfSome o (λ edges. AreRecent s.batches (arc_value edges))) w.in-Some.is c.in_ok-snapshot.ensures.recent in
          let recent : AreRecent s.batches w.deref.result.now = subst (AreRecent s.batches) (sym w.deref.ensures) are in
          subst (λ (o : Option (Vec Ends Global)). IfSome o (λ edges. AreEdgesSince s k edges.items)) (sym w.edges-is)
          (edges_given n room log w.deref.result.now k c.in_ok-snapshot.snapshot.number w.since-edges.result c.in_ok-snapshot.ensures.count c.newest.ensures.legal recent
          c.in_ok-snapshot.ensures.newest.number_is w.since-edges.ensures.known w.since-edges.ensures.ascending w.since-edges.ensures.listed)
      | in-None w ↦ subst (λ (o : Option (Vec Ends Global)). IfSome o (λ edges. AreEdgesSince s k edges.items)) (sym w.edges-is) tt
    ]
