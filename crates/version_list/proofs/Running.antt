-- Steps that are taken one after another.
use Rattle.std.proofs.Common.{◌≡◌, ℕ, List, [], ◌∷◌, ◌++◌, refl, sym, ap, ◌∙◌}
use Rattle.version_list.specs.declared.step.Step.{Step}
use Rattle.version_list.specs.declared.step.Step.TheVariants.{Commit, Acquire, Release, Trim}
use Rattle.version_list.specs.declared.step.Reply.{Reply}
use Rattle.version_list.specs.declared.step.Reply.TheVariants.{Version, Ticket, Released, Trimmed, Refused}
use Rattle.version_list.specs.Machine.{State, reply_to, changed, state_after}
use Rattle.version_list.specs.Timeline.{Timeline, replies_to, with_reply, advanced, advanced_through}

-- a refusal changes nothing
changed-refused : (s : State) (step : Step) (number : ℕ) → changed s step (Refused number) ≡ s
changed-refused s (Commit batch) number = refl
changed-refused s (Acquire which) number = refl
changed-refused s (Release ticket) number = refl
changed-refused s Trim number = refl

state-with_reply : (t : Timeline) (step : Step) (reply : Reply) → reply_to t.state step ≡ reply → (with_reply t step reply).state ≡ state_after t.state step
state-with_reply t step (Version number) is = refl
state-with_reply t step (Ticket number version) is = refl
state-with_reply t step Released is = refl
state-with_reply t step (Trimmed count) is = refl
state-with_reply t step (Refused number) is = sym (ap (changed t.state step) is ∙ changed-refused t.state step number)

state-advanced : (t : Timeline) (step : Step) → (advanced t step).state ≡ state_after t.state step
state-advanced t step = state-with_reply t step (reply_to t.state step) refl

-- one more step
pub advanced_through-push : (t : Timeline) (steps : List Step) (step : Step) → advanced_through t (steps ++ step ∷ []) ≡ advanced (advanced_through t steps) step
advanced_through-push t [] step = refl
advanced_through-push t (first ∷ rest) step = advanced_through-push (advanced t first) rest step

pub replies_to-push : (t : Timeline) (steps : List Step) (step : Step) → replies_to t.state (steps ++ step ∷ []) ≡ replies_to t.state steps ++ reply_to (advanced_through t steps).state step ∷ []
replies_to-push t [] step = refl
replies_to-push t (first ∷ rest) step =
    let after = state-advanced t first in
    let later = replies_to-push (advanced t first) rest step in
    ap (λ (l : List Reply). reply_to t.state first ∷ l)
    (ap (λ (s : State). replies_to s (rest ++ step ∷ [])) (sym after) ∙ later ∙ ap (λ (s : State). replies_to s rest ++ reply_to (advanced_through (advanced t first) rest).state step ∷ []) after)
