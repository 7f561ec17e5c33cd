-- Proofs of `run_alone`, src/alone.rt.
use Rattle.std.proofs.Common.{refl, arith}
use Rattle.std.proofs.lemmas.List.Elements.{All-pop}
use Rattle.crew.proofs.Findings.{all_pushed, length_pushed, popped_rest}
use Rattle.crew.proofs.alone.run_alone.Goals as goal

pub state_or_new-requires-after_bounds : goal.state_or_new-requires-after_bounds
state_or_new-requires-after_bounds g c κs within = (All-pop (g.W.Work.keeps c.args.work.now) _ _ _ c.pop.ensures.items c.requires.states).1

pub returns-in_err-state-clause-states : goal.returns-in_err-state-clause-states
returns-in_err-state-clause-states g c = (All-pop (g.W.Work.keeps c.args.work.now) _ _ _ c.pop.ensures.items c.requires.states).0

pub returns-in_err-found-clause-states : goal.returns-in_err-found-clause-states
returns-in_err-found-clause-states g c = (All-pop (g.W.Work.keeps c.args.work.now) _ _ _ c.pop.ensures.items c.requires.states).0

pub returns-clause-states : goal.returns-clause-states
returns-clause-states g c =
    let keeps = g.W.Work.keeps c.args.work.now in
    all_pushed keeps _ _ _ c.in_ok-push.ensures.items (All-pop keeps _ _ _ c.pop.ensures.items c.requires.states).0 c.in_ok-found.ensures.state

pub returns-clause-back : goal.returns-clause-back
returns-clause-back g c =
    let left = popped_rest c.args.states.now c.pop.new.self c.pop.result c.pop.ensures.cases in
    let more = length_pushed _ _ _ _ c.in_ok-push.ensures.items refl in
    omega arith
