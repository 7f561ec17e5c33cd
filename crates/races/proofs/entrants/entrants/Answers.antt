-- Proofs of `entrants`, src/entrants.rt.
use Rattle.std.proofs.Common.{◌≡◌, ◌∙◌, length, sym, ap, rules}
use Rattle.std.proofs.lemmas.Iterator.{YieldsList-from_map_by, YieldsList-from_zip}
use Rattle.std.proofs.lemmas.Iterator.Adapters.{YieldsList-from_vec}
use Rattle.std.proofs.lemmas.Iterator.Consumers.{map_from_collect}
use Rattle.std.proofs.lemmas.List.{length-map}
use Rattle.std.proofs.lemmas.Result.{IfOk-weaker}
use Rattle.std.specs.Arc.{arc_value}
use Rattle.std.specs.Global.{Global}
use Rattle.std.specs.declared.sync.Arc.{Arc}
use Rattle.plans.specs.declared.plan.Plan.{Plan}
use Rattle.shared_graph.specs.declared.reader.Reader.{Reader}
use Rattle.races.specs.declared.entrants.Entrant.{Entrant}
use Rattle.snapshot_runs.specs.Runs.{plan_of_runs}
use Rattle.races.proofs.Zipped.{first_of_zipped}
use Rattle.races.proofs.entrants.entrants.Goals as goal

pub returns : goal.returns
returns g c =
    let shared = c.in_ok-shared_plans.field-0.items in
    let as_many : length c.args.readers.items ≡ length shared =
    c.requires ∙ sym (length-map c.args.plans.now (λ p. arc_value p.now)) ∙ ap length (sym c.in_ok-shared_plans.ensures) ∙ length-map shared (λ p. arc_value p) in
    IfOk-weaker c.collect.result _ _
    (λ all is. is ∙ first_of_zipped (λ (p : Arc Plan Global). arc_value p) shared c.args.readers.items as_many ∙ c.in_ok-shared_plans.ensures)
    (map_from_collect c.collect.result c.collect.ensures.ran
    (YieldsList-from_map_by _ (λ (e : Entrant g.row.J.Denot g.J.Naming). plan_of_runs e.runs) (λ (pair : Arc Plan Global × Reader g.row.J.Denot). arc_value pair.0)
    (YieldsList-from_zip (YieldsList-from_vec shared (cc) (cc)) (YieldsList-from_vec c.args.readers.items (cc) (cc))) c.map.ensures.closure (λ x r q k. search rules)))
