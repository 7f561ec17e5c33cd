-- Proofs of `newest_since`, src/last_run.rt.
use Rattle.std.specs.Arc.{arc_value}
use Rattle.shared_graph.specs.Histories.{IsVersionOf}
use Rattle.snapshot_runs.proofs.Beside.{alike_given}
use Rattle.snapshot_runs.proofs.last_run.LastRun.newest_since.Goals as goal

pub returns-then-knows-clause-edges : goal.returns-then-knows-clause-edges
returns-then-knows-clause-edges g c =
    let n = g.J.Naming.vertices in
    let last = c.args.self.now in
    let was : IsVersionOf n last.history last.version (arc_value last.run_record.graph) = record { made = last.made; graph_is = last.graph_is } in
    alike_given n g.J.Naming.room c.latest_since.new.self.shown last.history last.version c.in_ok-snapshot.snapshot.number (arc_value c.in_ok-snapshot.snapshot.graph)
    (arc_value last.run_record.graph) c.in_ok-snapshot.edges c.latest_since.ensures.legal c.in_ok-snapshot.ensures.newest c.if-knows.ensures was c.in_ok-snapshot.ensures.edges
