-- The numbers that replies give ascend by one.
use Rattle.std.proofs.Common.{◌≡◌, ◌⊎◌, ℕ, ◌+◌, List, [], ◌∷◌, ◌++◌, length, inl, inr, refl, ap, subst, arith, length-append}
use Rattle.std.proofs.lemmas.Bool.{cases_Bool}
use Rattle.std.specs.List.{flat_map, range_with_len}
use Rattle.tree_batch.specs.Edge.{misfits}
use Rattle.version_list.specs.declared.step.Step.{Step}
use Rattle.version_list.specs.declared.step.Step.TheVariants.{Commit, Acquire, Release, Trim}
use Rattle.version_list.specs.declared.step.Reply.{Reply}
use Rattle.version_list.specs.declared.step.Done.{Done}
use Rattle.version_list.specs.Machine.{State, opened, reply_to, state_after, newest_number, newest_graph, number_asked, lacks_room, lacks_steps, is_kept, is_open}
use Rattle.version_list.specs.Timeline.{IsLegal, replay, replies_to}
use Rattle.version_laws.specs.Numbering.{CountsFromOne, replies_in, version_in, ticket_in, versions_in, tickets_in}

-- no number is given and the last one stays, or the next one is given
abbrev Next : ℕ → List ℕ → ℕ → Type 0
Next last numbers now = ((numbers ≡ []) × (now ≡ last)) ⊎ ((numbers ≡ (last + 1) ∷ []) × (now ≡ last + 1))

-- after a number the others go on
joined : (last now : ℕ) (numbers more : List ℕ) → Next last numbers now → more ≡ range_with_len (now + 1) (length more) → numbers ++ more ≡ range_with_len (last + 1) (length (numbers ++ more))
joined last now numbers more (inl none) rest = rw (none.0) (subst (λ n. more ≡ range_with_len (n + 1) (length more)) none.1 rest)
joined last now numbers more (inr one) rest = rw (one.0) (ap (λ l. (last + 1) ∷ l) (subst (λ n. more ≡ range_with_len (n + 1) (length more)) one.1 rest))

counted : (last now : ℕ) (numbers : List ℕ) → Next last numbers now → now ≡ last + length numbers
counted last now numbers (inl none) = rw (none.0) (omega (arith, none.1))
counted last now numbers (inr one) = rw (one.0) (omega (arith, one.1))

-- where each step gives no number or the next, all steps give one after another
module _ (numbers_of : Reply → List ℕ) (last : State → ℕ) (steps_count : (s : State) (step : Step) → Next (last s) (numbers_of (reply_to s step)) (last (state_after s step))) where
  replies_count : (s : State) (steps : List Step) → flat_map numbers_of (replies_to s steps) ≡ range_with_len (last s + 1) (length (flat_map numbers_of (replies_to s steps)))
  replies_count s [] = refl
  replies_count s (step ∷ steps) =
      joined (last s) (last (state_after s step)) (numbers_of (reply_to s step)) (flat_map numbers_of (replies_to (state_after s step) steps)) (steps_count s step)
      (replies_count (state_after s step) steps)

  entry_counts : (s : State) (done : Done) (history : List Done) → IsLegal s (done ∷ history) → Next (last s) (numbers_of done.reply) (last (state_after s done.step))
  entry_counts s done history legal = subst (λ (r : Reply). Next (last s) (numbers_of r) (last (state_after s done.step))) legal.0 (steps_count s done.step)

  history_counts : (s : State) (history : List Done) → IsLegal s history → flat_map numbers_of (replies_in history) ≡ range_with_len (last s + 1) (length (flat_map numbers_of (replies_in history)))
  history_counts s [] legal = refl
  history_counts s (done ∷ history) legal =
      joined (last s) (last (state_after s done.step)) (numbers_of done.reply) (flat_map numbers_of (replies_in history)) (entry_counts s done history legal)
      (history_counts (state_after s done.step) history legal.2)

  history_total : (s : State) (history : List Done) → IsLegal s history → last (replay s history) ≡ last s + length (flat_map numbers_of (replies_in history))
  history_total s [] legal = omega arith
  history_total s (done ∷ history) legal =
      let one = counted (last s) (last (state_after s done.step)) (numbers_of done.reply) (entry_counts s done history legal) in
      let rest = history_total (state_after s done.step) history legal.2 in
      omega (arith, one, rest, length-append (numbers_of done.reply) (flat_map numbers_of (replies_in history)))

version_step : (s : State) (step : Step) → Next (newest_number s) (version_in (reply_to s step)) (newest_number (state_after s step))
version_step s (Commit batch) = elim (cases_Bool (misfits (newest_graph s).vertices batch)) [
  | inl outside ↦ rw (outside) (inl (refl, refl))
  | inr inside ↦ elim (cases_Bool (lacks_room s 1)) [
    | inl full ↦ rw (inside, full) (inl (refl, refl))
    | inr room ↦ rw (inside, room) (inr (refl, length-append s.batches (batch ∷ [])))
  ]
]
version_step s (Acquire which) = elim (cases_Bool (is_kept s (number_asked s which))) [
  | inl kept ↦ elim (cases_Bool (lacks_room s 2)) [ inl full ↦ rw (kept, full) (inl (refl, refl)) | inr room ↦ rw (kept, room) (inl (refl, refl)) ]
  | inr lost ↦ rw (lost) (inl (refl, refl))
]
version_step s (Release number) = elim (cases_Bool (is_open s number)) [ inl is ↦ rw (is) (inl (refl, refl)) | inr closed ↦ rw (closed) (inl (refl, refl)) ]
version_step s Trim = elim (cases_Bool (lacks_steps s 1)) [ inl full ↦ rw (full) (inl (refl, refl)) | inr room ↦ rw (room) (inl (refl, refl)) ]

ticket_step : (s : State) (step : Step) → Next s.given (ticket_in (reply_to s step)) (state_after s step).given
ticket_step s (Commit batch) = elim (cases_Bool (misfits (newest_graph s).vertices batch)) [
  | inl outside ↦ rw (outside) (inl (refl, refl))
  | inr inside ↦ elim (cases_Bool (lacks_room s 1)) [ inl full ↦ rw (inside, full) (inl (refl, refl)) | inr room ↦ rw (inside, room) (inl (refl, refl)) ]
]
ticket_step s (Acquire which) = elim (cases_Bool (is_kept s (number_asked s which))) [
  | inl kept ↦ elim (cases_Bool (lacks_room s 2)) [ inl full ↦ rw (kept, full) (inl (refl, refl)) | inr room ↦ rw (kept, room) (inr (refl, refl)) ]
  | inr lost ↦ rw (lost) (inl (refl, refl))
]
ticket_step s (Release number) = elim (cases_Bool (is_open s number)) [ inl is ↦ rw (is) (inl (refl, refl)) | inr closed ↦ rw (closed) (inl (refl, refl)) ]
ticket_step s Trim = elim (cases_Bool (lacks_steps s 1)) [ inl full ↦ rw (full) (inl (refl, refl)) | inr room ↦ rw (room) (inl (refl, refl)) ]

pub versions_of_history : (n room : ℕ) (history : List Done) → IsLegal (opened n room) history → CountsFromOne (versions_in (replies_in history))
versions_of_history n room history legal = history_counts version_in newest_number version_step (opened n room) history legal

pub newest_of_history : (n room : ℕ) (history : List Done) → IsLegal (opened n room) history → newest_number (replay (opened n room) history) ≡ length (versions_in (replies_in history))
newest_of_history n room history legal = omega (arith, history_total version_in newest_number version_step (opened n room) history legal)

pub versions_of_steps : (n room : ℕ) (steps : List Step) → CountsFromOne (versions_in (replies_to (opened n room) steps))
versions_of_steps n room steps = replies_count version_in newest_number version_step (opened n room) steps

pub tickets_of_history : (n room : ℕ) (history : List Done) → IsLegal (opened n room) history → CountsFromOne (tickets_in (replies_in history))
tickets_of_history n room history legal = history_counts ticket_in (λ (s : State). s.given) ticket_step (opened n room) history legal

pub tickets_of_steps : (n room : ℕ) (steps : List Step) → CountsFromOne (tickets_in (replies_to (opened n room) steps))
tickets_of_steps n room steps = replies_count ticket_in (λ (s : State). s.given) ticket_step (opened n room) steps
