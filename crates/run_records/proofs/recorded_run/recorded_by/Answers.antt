-- Proofs of `recorded_by`, src/recorded_run.rt.
use Rattle.std.proofs.Common.{◌≡◌, Option, IfSome, subst}
use Rattle.std.specs.Arc.{arc_value}
use Rattle.run_records.specs.declared.recorded_run.FormerRecord.{FormerRecord}
use Rattle.run_records.specs.Former.{IsFormerOf}
use Rattle.run_records.proofs.Showing.{shown_of_same}
use Rattle.run_records.proofs.recorded_run.recorded_by.Goals as goal

pub returns-in_ok-clone-in-None-clause-means : goal.returns-in_ok-clone-in-None-clause-means
returns-in_ok-clone-in-None-clause-means g c =
    let plan : arc_value c.in_ok-clone-in-None.field-0 ≡ arc_value c.args.plan.now = c.in_ok-clone-in-None.ensures.cases in
    let graph : arc_value c.in_ok-graph.graph ≡ arc_value c.args.graph.now = c.in_ok-graph.ensures.cases in
    shown_of_same c.run_recorded.result _ _ _ _ c.args.turns plan graph c.run_recorded.ensures.means

pub returns-in-Some-clause-means : goal.returns-in-Some-clause-means
returns-in-Some-clause-means g c =
    let former = subst (λ (o : Option FormerRecord). IfSome o (IsFormerOf (arc_value c.args.plan.now) (arc_value c.args.graph.now))) c.in-Some.is c.requires.former in
    let graph : arc_value c.in_ok-graph.graph ≡ arc_value c.args.graph.now = c.in_ok-graph.ensures.cases in
    shown_of_same c.run_after.result _ _ _ _ c.args.turns former.of graph c.run_after.ensures.means
