-- Proofs of `run`, src/versions.rt.
use Rattle.std.proofs.Common.{◌≡◌, ◌+◌, ◌<◌, List, [], ◌∷◌, ◌++◌, take, length, sym, ap, ◌∙◌, arith}
use Rattle.std.proofs.lemmas.List.{take_more}
use Rattle.version_list.specs.declared.step.Step.{Step}
use Rattle.version_list.specs.declared.step.Reply.{Reply}
use Rattle.version_list.specs.Machine.{reply_to}
use Rattle.version_list.specs.Timeline.{Timeline, replies_to, advanced, advanced_through}
use Rattle.version_list.proofs.Running.{advanced_through-push, replies_to-push}
use Rattle.version_list.proofs.versions.Versions.run.Goals as goal

pub loop-step-preserved : goal.loop-step-preserved
loop-step-preserved c =
    let start : Timeline = c.args.self.now in
    let i = c.loop-step.step-index in
    let steps : List Step = c.args.steps.now in
    let step : Step = c.step-item.result in
    let within : i < length steps = omega arith in
    let more : take (i + 1) steps ≡ take i steps ++ step ∷ [] = take_more steps i step within ∙ ap (λ (x : Step). take i steps ++ x ∷ []) (sym c.step-item.is) in
    let so_far = c.loop-step.invariant.timeline in
    let answer = c.in_ok-reply.ensures in
    let reply_is : c.in_ok-reply.reply ≡ reply_to (advanced_through start (take i steps)).state step = answer.0 ∙ ap (λ (t : Timeline). reply_to t.state step) so_far in
    record {
      replies =
          c.push_reserved.ensures.items ∙ ap (λ (l : List Reply). l ++ c.in_ok-reply.reply ∷ []) c.loop-step.invariant.replies
          ∙ ap (λ (r : Reply). replies_to start.state (take i steps) ++ r ∷ []) reply_is
          ∙ sym (replies_to-push start (take i steps) step) ∙ ap (replies_to start.state) (sym more);
      timeline = answer.1 ∙ ap (λ (t : Timeline). advanced t step) so_far ∙ sym (advanced_through-push start (take i steps) step) ∙ ap (advanced_through start) (sym more);
      count = omega (arith, c.push_reserved.ensures.len, c.loop-step.invariant.count);
      room = c.push_reserved.ensures.capacity ∙ c.loop-step.invariant.room;
    }
