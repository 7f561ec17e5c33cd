-- Proofs of `hire_all`, src/claimed.rt.
use Rattle.std.proofs.Common.{arith}
use Rattle.std.proofs.lemmas.List.Elements.{All-pop}
use Rattle.crew.specs.inside.Claims.{view_of}
use Rattle.crew.specs.inside.Workers.{IsHired}
use Rattle.crew.proofs.Findings.{all_pushed, length_pushed, popped_rest}
use Rattle.crew.proofs.Gathering.{hired_more}
use Rattle.crew.proofs.claimed.hire_all.Goals as goal

pub loop-others-preserved : goal.loop-others-preserved
loop-others-preserved g c =
    let keeps = g.W.Work.keeps c.args.work.now in
    let popped = All-pop keeps _ _ _ c.pop.ensures.items c.loop-others.invariant.states in
    record {
      own = c.hire.ensures.rest.0;
      view = hired_more c.loop-others.others (view_of c.loop-others.own) (view_of c.hire.new.claim) c.loop-others.invariant.view c.hire.ensures.rest.1;
      len = length_pushed _ _ _ _ c.in_ok-push.ensures.items c.loop-others.invariant.len;
      jobs = all_pushed (IsHired keeps c.args.word.now.table_id) _ _ _ c.in_ok-push.ensures.items c.loop-others.invariant.jobs (c.hire.ensures.hired.0, c.hire.ensures.hired.1, popped.1);
      states = popped.0;
      rest = (let left = popped_rest c.loop-others.states c.pop.new.self c.pop.result c.pop.ensures.cases in let before = c.loop-others.invariant.rest in omega arith);
    }
