-- Proofs of `gather`, src/fixed.rt.
use Rattle.std.proofs.Common.{◌≡◌, refl, ◌+◌, ◌-◌, ◌%◌, ◌<◌, ℕ, subst, length, arith}
use Rattle.std.proofs.Math.Nat.{mod-lt}
use Rattle.std.proofs.lemmas.Result.{IfOk-at_ok}
use Rattle.crew.specs.inside.ClaimWord.{times}
use Rattle.crew.specs.inside.Finding.{IsAnswered}
use Rattle.crew.specs.Pieces.{pieces_of}
use Rattle.crew.specs.inside.Workers.{HasEvery, GivesEvery}
use Rattle.crew.proofs.Findings.{all_pushed, all_appended, length_popped, length_pushed, pieces_of-appended}
use Rattle.crew.proofs.Gathering.{none_left}
use Rattle.crew.proofs.Turns.{each_popped, last_popped, every_gathered}
use Rattle.crew.proofs.fixed.gather.Goals as goal

pub loop-worker-smaller : goal.loop-worker-smaller
loop-worker-smaller g c = let one = length_popped _ _ _ _ c.pop.ensures.items c.in-Some.is in omega arith

pub loop-worker-preserved : goal.loop-worker-preserved
loop-worker-preserved g c =
    let n = length c.args.workers.items in
    let keeps = g.W.Work.keeps c.args.work.now in
    let answers = g.W.Work.answers c.args.work.now in
    let Every = λ (worker : ℕ). HasEvery keeps answers c.args.pieces n worker in
    let out = length c.pop.new.self.items in
    let one = length_popped _ _ _ _ c.pop.ensures.items c.in-Some.is in
    let last = last_popped (GivesEvery keeps answers c.args.pieces n) _ _ _ _ c.pop.ensures.items c.in-Some.is c.loop-worker.invariant.workers in
    let done = λ (worker : ℕ) (is : worker + out ≡ n). IfOk-at_ok (Every worker) c.in_ok-state.was (last worker is) in
    let some = done (n - out) (let most = c.loop-worker.invariant.out in omega arith) in
    let theirs = c.in_ok-state.field-0 in
    record {
      workers = each_popped (GivesEvery keeps answers c.args.pieces n) _ _ _ c.pop.ensures.items c.loop-worker.invariant.workers;
      out = (let most = c.loop-worker.invariant.out in omega arith);
      answered = all_appended (IsAnswered answers c.args.pieces) _ _ _ c.in_ok-bring_back.ensures.found c.loop-worker.invariant.answered some.1;
      every = every_gathered n out c.args.pieces (pieces_of c.loop-worker.found.items) (pieces_of theirs.found.items) (pieces_of c.bring_back.new.found.items)
          (pieces_of-appended _ _ _ c.in_ok-bring_back.ensures.found)
          (subst (λ m. (j : ℕ) → j < c.args.pieces → j % n + m < n → 0 < times (j + 1) (pieces_of c.loop-worker.found.items)) one c.loop-worker.invariant.every)
          (λ worker is. (done worker is).2);
      states = all_pushed keeps _ _ _ c.in_ok-bring_back.ensures.states c.loop-worker.invariant.states some.0;
      back = (let more = length_pushed _ _ _ _ c.in_ok-bring_back.ensures.states refl in let before = c.loop-worker.invariant.back in omega arith);
    }

pub returns-clause-found : goal.returns-clause-found
returns-clause-found g c =
    let empty = none_left c.pop.result c.loop-worker.workers.len c.in_default.not-Some c.pop.ensures.variant in
    let none : length c.loop-worker.workers.items ≡ 0 = omega (arith, c.loop-worker.workers.ok.0) in (
      c.loop-worker.invariant.answered,
      λ j below. c.loop-worker.invariant.every j below (omega (arith, none, mod-lt j c.requires.some)),
    )

pub returns-clause-back : goal.returns-clause-back
returns-clause-back g c =
    let empty = none_left c.pop.result c.loop-worker.workers.len c.in_default.not-Some c.pop.ensures.variant in
    let all = c.loop-worker.invariant.back in
    omega (arith, c.loop-worker.workers.ok.0)
