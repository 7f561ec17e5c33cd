-- That the accepted steps of a legal history are counted, and are few.
use Rattle.std.proofs.Common.{◌≡◌, ℕ, ◌+◌, ◌≤◌, ◌==◌, true, List, [], ◌∷◌, length, inl, inr, refl, sym, ap, ◌∙◌, subst, arith, length-append}
use Rattle.std.specs.List.{list_any}
use Rattle.std.proofs.lemmas.Bool.{false≢true, cases_Bool, ltb-false}
use Rattle.tree_batch.specs.Edge.{misfits}
use Rattle.version_list.specs.declared.step.Step.{Step}
use Rattle.version_list.specs.declared.step.Step.TheVariants.{Commit, Acquire, Release, Trim}
use Rattle.version_list.specs.declared.step.Reply.TheVariants.{Trimmed, Refused}
use Rattle.version_list.specs.declared.step.Done.{Done}
use Rattle.version_list.specs.declared.step.Which.{Which}
use Rattle.tree_batch.specs.declared.batch.Entry.{Entry}
use Rattle.version_list.specs.Machine.{OpenTicket, State, opened, reply_to, state_after, number_asked, lacks_room, newest_graph, lacks_steps, is_kept, is_open}
use Rattle.version_list.specs.Timeline.{IsAccepted, IsLegal, replay}
use Rattle.version_list.specs.Trims.{entries_with, entries_since_trim}
use Rattle.version_list.proofs.Holding.{others}
use Rattle.version_list.proofs.Stepping.{has_steps}

-- with the release of each open ticket the steps can be counted
abbrev pub Fits : State → Type 0
Fits s = s.steps + length s.open_tickets ≤ 18446744073709551615

-- the step is one more, and can be counted; the entries since the last trim are counted
pub record Counts (old : State) (step : Step) (new : State) : Type 0 where
  pub steps : new.steps ≡ old.steps + 1
  pub used : new.used ≡ entries_with old.used step
  pub fits : Fits new

commit_counts : (s : State) (batch : List Entry) → IsAccepted (reply_to s (Commit batch)) → Counts s (Commit batch) (state_after s (Commit batch))
commit_counts s batch accepted = elim (cases_Bool (misfits (newest_graph s).vertices batch)) [
  | inl outside ↦ absurd (rw (outside) at accepted)
  | inr inside ↦ elim (cases_Bool (lacks_room s 1)) [
    | inl full ↦ absurd (rw (inside, full) at accepted)
    | inr room ↦ rw (inside, room) (record { steps = refl; used = refl; fits = omega (arith, has_steps s 1 room) })
  ]
]

acquire_counts : (s : State) (which : Which) → IsAccepted (reply_to s (Acquire which)) → Counts s (Acquire which) (state_after s (Acquire which))
acquire_counts s which accepted =
    let k = number_asked s which in
    let more = length-append s.open_tickets (record { number = s.given + 1; version = k } ∷ []) in
    elim (cases_Bool (is_kept s k)) [
      | inr lost ↦ absurd (rw (lost) at accepted)
      | inl kept ↦ elim (cases_Bool (lacks_room s 2)) [
        | inl full ↦ absurd (rw (kept, full) at accepted)
        | inr room ↦ rw (kept, room) (record { steps = refl; used = refl; fits = omega (arith, has_steps s 2 room, more) })
      ]
    ]

-- closing the tickets of a number closes no more than there are
others_are_few : (number : ℕ) (tickets : List OpenTicket) → length (others number tickets) ≤ length tickets
others_are_few number [] = omega arith
others_are_few number (t ∷ tickets) = elim (cases_Bool (t.number == number)) [
  | inl closed ↦ rw (closed) (omega (arith, others_are_few number tickets))
  | inr stays ↦ rw (stays) (omega (arith, others_are_few number tickets))
]

-- closing an open ticket leaves fewer
others_are_fewer : (number : ℕ) (tickets : List OpenTicket) → list_any (λ t. t.number == number) tickets ≡ true → length (others number tickets) + 1 ≤ length tickets
others_are_fewer number [] is = absurd (false≢true is)
others_are_fewer number (t ∷ tickets) is = elim (cases_Bool (t.number == number)) [
  | inl closed ↦ rw (closed) (omega (arith, others_are_few number tickets))
  | inr stays ↦
      let rest : list_any (λ t. t.number == number) tickets ≡ true = rw (stays) at is in
      rw (stays) (omega (arith, others_are_fewer number tickets rest))
]

release_counts : (s : State) (number : ℕ) → IsAccepted (reply_to s (Release number)) → Fits s → Counts s (Release number) (state_after s (Release number))
release_counts s number accepted fits = elim (cases_Bool (is_open s number)) [
  | inl is ↦ rw (is) (record { steps = refl; used = refl; fits = omega (arith, fits, others_are_fewer number s.open_tickets is) })
  | inr closed ↦ absurd (rw (closed) at accepted)
]

trim_counts : (s : State) → IsAccepted (reply_to s Trim) → Counts s Trim (state_after s Trim)
trim_counts s accepted = elim (cases_Bool (lacks_steps s 1)) [
  | inl full ↦ absurd (rw (full) at accepted)
  | inr room ↦ rw (room) (record { steps = refl; used = refl; fits = omega (arith, ltb-false 18446744073709551615 (s.steps + length s.open_tickets + 1) room) })
]

pub step_counts : (s : State) (step : Step) → IsAccepted (reply_to s step) → Fits s → Counts s step (state_after s step)
step_counts s (Commit batch) accepted fits = commit_counts s batch accepted
step_counts s (Acquire which) accepted fits = acquire_counts s which accepted
step_counts s (Release number) accepted fits = release_counts s number accepted fits
step_counts s Trim accepted fits = trim_counts s accepted

-- so are the steps of a legal history
pub legal_counts : (s : State) (history : List Done) → IsLegal s history → Fits s
    → ((replay s history).steps ≡ s.steps + length history) × ((replay s history).used ≡ entries_since_trim s.used history) × Fits (replay s history)
legal_counts s [] legal fits = (omega arith, refl, fits)
legal_counts s (done ∷ history) legal fits =
    let accepted : IsAccepted (reply_to s done.step) = subst IsAccepted (sym legal.0) legal.1 in
    let one = step_counts s done.step accepted fits in
    let rest = legal_counts (state_after s done.step) history legal.2 one.fits in
    (omega (arith, one.steps, rest.0), rest.1 ∙ ap (λ n. entries_since_trim n history) one.used, rest.2)

-- a history that is legal from the opening has no more entries than can be counted
pub opened_counts : (n room : ℕ) (history : List Done) → IsLegal (opened n room) history → length history ≤ 18446744073709551615
opened_counts n room history legal =
    let all = legal_counts (opened n room) history legal (omega arith) in
    omega (arith, all.0, all.2)

-- a trim is answered the entries since the last one
pub trim_is_answered : (n room count : ℕ) (history : List Done) → IsLegal (opened n room) history → reply_to (replay (opened n room) history) Trim ≡ Trimmed count
    → count ≡ entries_since_trim 0 history
trim_is_answered n room count history legal is =
    let s : State = replay (opened n room) history in
    let all = legal_counts (opened n room) history legal (omega arith) in
    elim (cases_Bool (lacks_steps s 1)) [
      | inl full ↦ let no : Refused 123 ≡ Trimmed count = rw (full) at is in absurd cc
      | inr room ↦ let so : Trimmed s.used ≡ Trimmed count = rw (room) at is in let used = all.1 in cc
    ]
