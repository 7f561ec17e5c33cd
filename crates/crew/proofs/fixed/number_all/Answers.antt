-- Proofs of `number_all`, src/fixed.rt.
use Rattle.std.proofs.Common.{◌≡◌, ◌+◌, IfSome, arith}
use Rattle.std.proofs.lemmas.List.Elements.{All-pop}
use Rattle.crew.proofs.Findings.{length_pushed, popped_rest}
use Rattle.crew.proofs.Turns.{each_more}
use Rattle.crew.proofs.fixed.number_all.Goals as goal

pub loop-others-preserved : goal.loop-others-preserved
loop-others-preserved g c =
    let keeps = g.W.Work.keeps c.args.work.now in
    let popped = All-pop keeps _ _ _ c.pop.ensures.items c.loop-others.invariant.states in
    record {
      len = length_pushed _ _ _ _ c.in_ok-push.ensures.items c.loop-others.invariant.len;
      jobs = each_more (λ i job. (job.worker + i ≡ c.args.workers) × IfSome job.state keeps) _ _ _ _ c.in_ok-push.ensures.items c.loop-others.invariant.len c.loop-others.invariant.jobs
          (omega arith, popped.1);
      states = popped.0;
      rest = (let left = popped_rest c.loop-others.states c.pop.new.self c.pop.result c.pop.ensures.cases in let before = c.loop-others.invariant.rest in omega arith);
    }
