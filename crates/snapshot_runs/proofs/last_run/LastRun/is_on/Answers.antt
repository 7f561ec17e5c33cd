-- Proofs of `is_on`, src/last_run.rt.
use Rattle.std.proofs.Common.{◌≡◌, ℕ, MatchBool, List, ◌∙◌, subst}
use Rattle.std.proofs.lemmas.Bool.Decides.{Decides-eqb}
use mathlib.Core.List.{IsPrefix}
use Rattle.std.specs.Arc.{arc_value}
use Rattle.shared_graph.specs.declared.entry.Entry.{Entry}
use Rattle.shared_graph.specs.Histories.{IsVersionOf}
use Rattle.snapshot_runs.proofs.Beside.{if_tested, one_version}
use Rattle.snapshot_runs.proofs.last_run.LastRun.is_on.Goals as goal

pub returns : goal.returns
returns g c =
    let n = g.J.Naming.vertices in
    let last = c.args.self.now in
    let held = c.args.held.now in
    let was : IsVersionOf n last.history last.version (arc_value last.run_record.graph) = record { made = last.made; graph_is = last.graph_is } in
    let begins = subst (λ (h : List Entry). MatchBool c.begins-2.result (IsPrefix last.history h) (IsPrefix h last.history)) c.history.ensures c.begins-2.ensures in
    if_tested _ (Decides-eqb last.version c.snapshot.result.now.number).0
    (λ (same : last.version ≡ c.snapshot.result.now.number). one_version n c.begins-2.result last.history held.history last.version held.version (arc_value last.run_record.graph) held.graph begins (same ∙ c.snapshot.ensures.number) was
    c.snapshot.ensures.version)
