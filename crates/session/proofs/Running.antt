-- Steps that are taken one after another.
use Rattle.std.proofs.Common.{◌≡◌, ℕ, ◌<◌, List, [], ◌∷◌, ◌++◌, Result, Ok, Err, length, take, refl, sym, ap, ◌∙◌, subst}
use Rattle.std.specs.Result.{IsErrAnd}
use Rattle.session.specs.declared.error.SessionError.{SessionError}
use Rattle.session.specs.declared.error.SessionError.TheVariants.{NoMemory}
use Rattle.session.specs.declared.step.SessionStep.{SessionStep}
use Rattle.session.specs.declared.step.SessionReply.{SessionReply}
use Rattle.session.specs.World.{ScheduledProgram, World, step_answer, step_replies, world_after}
use Rattle.session.specs.Standing.{SessionValue, IsAt, Takes, Runs}

-- one more step
pub world_after-push : (programs : List ScheduledProgram) (w : World) (steps : List SessionStep) (step : SessionStep)
    → world_after programs w (steps ++ step ∷ []) ≡ (step_answer programs (world_after programs w steps) step).world
world_after-push programs w [] step = refl
world_after-push programs w (first ∷ rest) step = world_after-push programs (step_answer programs w first).world rest step

pub replies_to-push : (programs : List ScheduledProgram) (w : World) (steps : List SessionStep) (step : SessionStep)
    → step_replies programs w (steps ++ step ∷ []) ≡ step_replies programs w steps ++ (step_answer programs (world_after programs w steps) step).reply ∷ []
replies_to-push programs w [] step = refl
replies_to-push programs w (first ∷ rest) step = ap (λ (l : List SessionReply). (step_answer programs w first).reply ∷ l) (replies_to-push programs (step_answer programs w first).world rest step)

-- one more step is taken
pub one_more_taken : (programs : List ScheduledProgram) (w : World) (steps more : List SessionStep) (step copy : SessionStep) (old new : List SessionReply) (reply : SessionReply) (s : SessionValue)
    → more ≡ steps ++ step ∷ [] → copy ≡ step
    → old ≡ step_replies programs w steps → new ≡ old ++ reply ∷ [] → Takes programs (step_answer programs (world_after programs w steps) copy) reply s
    → (new ≡ step_replies programs w more) × IsAt programs (world_after programs w more) s
one_more_taken programs w steps more step copy old new reply s is copied so_far next takes =
    let there = subst (λ (st : SessionStep). Takes programs (step_answer programs (world_after programs w steps) st) reply s) copied takes in
    let replies : new ≡ step_replies programs w more =
    next ∙ ap (λ (l : List SessionReply). l ++ reply ∷ []) so_far ∙ ap (λ (r : SessionReply). step_replies programs w steps ++ r ∷ []) there.reply_is
    ∙ sym (replies_to-push programs w steps step) ∙ ap (step_replies programs w) (sym is) in
    (replies, subst (λ (v : World). IsAt programs v s) (sym (world_after-push programs w steps step) ∙ ap (world_after programs w) (sym is)) there.stands)

-- where memory runs out
pub stops : {A : Type 0} (programs : List ScheduledProgram) (w : World) (steps : List SessionStep) (replies : A → List SessionReply) (result : Result A SessionError) (s : SessionValue) (k : ℕ)
    → IsErrAnd result (λ e. e ≡ NoMemory)
    → k < length steps → IsAt programs (world_after programs w (take k steps)) s → Runs programs w steps replies result s
stops programs w steps replies (Ok x) s k is within at = absurd is
stops {A} programs w steps replies (Err e) s k is within at = subst (λ (f : SessionError). Runs {A = A} programs w steps replies (Err f) s) (sym is) (k, within, at)
