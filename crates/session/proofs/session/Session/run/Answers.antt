-- Proofs of `run`, src/session.rt.
use Rattle.std.proofs.Common.{◌≡◌, ◌+◌, ◌<◌, ◌≤◌, List, [], ◌∷◌, ◌++◌, take, length, sym, ap, ◌∙◌, subst, arith}
use Rattle.std.proofs.lemmas.List.{take_more, take_all}
use Rattle.std.specs.Result.{IsErrAnd}
use Rattle.session.specs.declared.error.SessionError.{SessionError}
use Rattle.session.specs.declared.error.SessionError.TheVariants.{NoMemory}
use Rattle.session.specs.declared.step.SessionStep.{SessionStep}
use Rattle.session.specs.World.{step_replies, world_after}
use Rattle.session.specs.Standing.{SessionValue, IsAt}
use Rattle.session.proofs.Running.{one_more_taken, stops}
use Rattle.session.proofs.session.Session.run.Goals as goal

pub loop-step-preserved : goal.loop-step-preserved
loop-step-preserved c =
    let i = c.loop-step.step-index in
    let steps : List SessionStep = c.args.steps.now in
    let step : SessionStep = c.step-item.result in
    let within : i < length steps = omega arith in
    let more : take (i + 1) steps ≡ take i steps ++ step ∷ [] = take_more steps i step within ∙ ap (λ (x : SessionStep). take i steps ++ x ∷ []) (sym c.step-item.is) in
    record {
      stands = λ programs w at.
          let so_far = c.loop-step.invariant.stands programs w at in
          one_more_taken programs w (take i steps) (take (i + 1) steps) step c.in_ok-clone.field-0 _ _ c.in_ok-reply.reply _ more c.in_ok-clone.ensures.cases so_far.0 c.push_reserved.ensures.items
          (c.in_ok-reply.ensures.takes programs (world_after programs w (take i steps)) so_far.1);
      count = omega (arith, c.push_reserved.ensures.len, c.loop-step.invariant.count);
      room = c.push_reserved.ensures.capacity ∙ c.loop-step.invariant.room;
    }

pub returns-in_err-clone-clause-runs : goal.returns-in_err-clone-clause-runs
returns-in_err-clone-clause-runs c = λ programs w at.
    let within : c.loop-step.step-index < length c.args.steps.now = omega arith in
    stops programs w c.args.steps.now (λ v. v.items) _ _ c.loop-step.step-index c.from_residual-in_err-clone.ensures.1 within (c.loop-step.invariant.stands programs w at).1

pub returns-in_err-reply-clause-runs : goal.returns-in_err-reply-clause-runs
returns-in_err-reply-clause-runs c = λ programs w at.
    let within : c.loop-step.step-index < length c.args.steps.now = omega arith in
    let same : c.step.new.self ≡ c.loop-step.self = c.in_err-reply.ensures.err in
    let memory : c.in_err-reply.field-0.0 ≡ NoMemory = c.in_err-reply.ensures.only_memory in
    stops programs w c.args.steps.now (λ v. v.items) _ _ c.loop-step.step-index
    (subst (λ (x : SessionError). IsErrAnd c.from_residual-in_err-reply.result (λ e. e ≡ x)) memory c.from_residual-in_err-reply.ensures.1) within
    (subst (λ (s : SessionValue). IsAt programs (world_after programs w (take c.loop-step.step-index c.args.steps.now)) s) (sym same) (c.loop-step.invariant.stands programs w at).1)

pub returns-clause-runs : goal.returns-clause-runs
returns-clause-runs c = λ programs w at.
    let i = c.loop-step.step-index in
    let steps : List SessionStep = c.args.steps.now in
    let past : length steps ≤ i = c.loop-step-test.false in
    let all : take i steps ≡ steps = take_all i steps past in
    let there = c.loop-step.invariant.stands programs w at in
    (there.0 ∙ ap (step_replies programs w) all, subst (λ (ss : List SessionStep). IsAt programs (world_after programs w ss) c.loop-step.self) all there.1)
