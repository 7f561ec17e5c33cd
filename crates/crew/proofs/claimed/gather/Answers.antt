-- Proofs of `gather`, src/claimed.rt.
use Rattle.std.proofs.Common.{◌≡◌, refl, subst, length, IfOk, arith}
use Rattle.std.proofs.lemmas.List.Elements.{All-pop}
use Rattle.crew.specs.inside.Claims.{view_of}
use Rattle.crew.specs.inside.Finding.{IsAnswered}
use Rattle.crew.specs.Pieces.{pieces_of}
use Rattle.crew.specs.inside.Workers.{HasClaimed}
use Rattle.crew.proofs.Findings.{all_pushed, all_appended, length_popped, length_pushed, done_popped, pieces_of-appended}
use Rattle.crew.proofs.Gathering.{IsGathered, gathers_more, gathered, none_left}
use Rattle.crew.proofs.claimed.gather.Goals as goal

pub dismiss-requires-clause-worker : goal.dismiss-requires-clause-worker
dismiss-requires-clause-worker g c =
    let Claimed = HasClaimed (g.W.Work.keeps c.args.run.now.work.now) (g.W.Work.answers c.args.run.now.work.now) c.args.word.now.table_id c.args.run.now.pieces in
    (done_popped Claimed _ _ _ _ _ c.pop.ensures.items c.in-Some.is c.in_ok-turn.was c.loop-worker.invariant.workers).0

pub loop-worker-smaller : goal.loop-worker-smaller
loop-worker-smaller g c = let one = length_popped _ _ _ _ c.pop.ensures.items c.in-Some.is in omega arith

pub loop-worker-preserved : goal.loop-worker-preserved
loop-worker-preserved g c =
    let Claimed = HasClaimed (g.W.Work.keeps c.args.run.now.work.now) (g.W.Work.answers c.args.run.now.work.now) c.args.word.now.table_id c.args.run.now.pieces in
    let popped = All-pop (λ r. IfOk r Claimed) _ _ _ c.pop.ensures.items c.loop-worker.invariant.workers in
    let done = done_popped Claimed _ _ _ _ _ c.pop.ensures.items c.in-Some.is c.in_ok-turn.was c.loop-worker.invariant.workers in
    let theirs = c.in_ok-turn.field-0 in
    let out = length_popped _ _ _ _ c.pop.ensures.items c.in-Some.is in
    record {
      own = c.dismiss.ensures.0;
      claimed = gathers_more c.args.run.now.pieces (length c.pop.new.self.items) (view_of c.loop-worker.own) (view_of theirs.turn) (view_of c.dismiss.new.claim) (pieces_of c.loop-worker.found.items)
          (pieces_of theirs.found.items) (pieces_of c.bring_back.new.found.items)
          (subst (λ n. IsGathered c.args.run.now.pieces n (view_of c.loop-worker.own) (pieces_of c.loop-worker.found.items)) out c.loop-worker.invariant.claimed)
          c.dismiss.ensures.1 done.1 done.2 done.3 done.6 (pieces_of-appended _ _ _ c.in_ok-bring_back.ensures.found);
      workers = popped.0;
      answered = all_appended (IsAnswered (g.W.Work.answers c.args.run.now.work.now) c.args.run.now.pieces) _ _ _ c.in_ok-bring_back.ensures.found c.loop-worker.invariant.answered done.5;
      states = all_pushed (g.W.Work.keeps c.args.run.now.work.now) _ _ _ c.in_ok-bring_back.ensures.states c.loop-worker.invariant.states done.4;
      back = (let more = length_pushed _ _ _ _ c.in_ok-bring_back.ensures.states refl in let before = c.loop-worker.invariant.back in omega arith);
    }

pub returns-clause-found : goal.returns-clause-found
returns-clause-found g c =
    let empty = none_left c.pop.result c.loop-worker.workers.len c.in_default.not-Some c.pop.ensures.variant in
    let none : length c.loop-worker.workers.items ≡ 0 = omega (arith, c.loop-worker.workers.ok.0) in (
      c.loop-worker.invariant.answered,
      gathered c.args.run.now.pieces c.draw.result (view_of c.loop-worker.own) (view_of c.draw.new.claim) (pieces_of c.loop-worker.found.items)
          (subst (λ n. IsGathered c.args.run.now.pieces n (view_of c.loop-worker.own) (pieces_of c.loop-worker.found.items)) none c.loop-worker.invariant.claimed) c.draw.ensures.draws,
    )

pub returns-clause-back : goal.returns-clause-back
returns-clause-back g c =
    let empty = none_left c.pop.result c.loop-worker.workers.len c.in_default.not-Some c.pop.ensures.variant in
    let all = c.loop-worker.invariant.back in
    omega (arith, c.loop-worker.workers.ok.0)
