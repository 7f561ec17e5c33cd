-- Proofs of `run_all_late`, src/racing.rt.
use Rattle.std.proofs.Common.{arith, map}
use Rattle.std.proofs.lemmas.List.{nil_from_length}
use Rattle.std.proofs.lemmas.List.Elements.{All-rest}
use Rattle.races.specs.inside.Racing.{RanEarly}
use Rattle.races.proofs.Runs.{running_goes_on, running_ends_at}
use Rattle.snapshot_runs.specs.Runs.{plan_of_runs}
use Rattle.races.proofs.racing.run_all_late.Goals as goal

pub loop-one-preserved : goal.loop-one-preserved
loop-one-preserved g c =
    let steps = c.in-Some.ensures.steps.0 in (
      tt,
      tt,
      All-rest (RanEarly g.J.Naming.vertices c.args.turns c.args.workers) c.in-Some.one c.next.new.self.rest.items c.loop-one.one-iterator.rest.items steps c.loop-one.invariant.2,
      running_goes_on g.J.Naming.vertices g.J.Naming.room c.args.turns c.args.told.now
          (map (λ r. plan_of_runs r.runs) c.args.ran.items) c.in-Some.one c.loop-one.one-iterator.rest.items c.next.new.self.rest.items _ _ _ steps
          c.loop-one.invariant.3 c.in_ok-run_again.ensures.ran c.in_ok-push.ensures.items,
      (λ _. c.in_ok-run_again.ensures.workers),
    )

pub returns-clause-ran : goal.returns-clause-ran
returns-clause-ran g c =
    running_ends_at g.J.Naming.vertices g.J.Naming.room c.args.turns c.args.told.now (map (λ r. plan_of_runs r.runs) c.args.ran.items) c.loop-one.one-iterator.rest.items _ c.loop-one.invariant.3
    (nil_from_length c.loop-one.one-iterator.rest.items (omega (arith, c.in-None.ensures.steps.0, c.loop-one.one-iterator.rest.ok.0)))
