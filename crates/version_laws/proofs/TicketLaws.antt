-- What a ticket keeps, step by step.
use Rattle.std.proofs.Common.{◌≡◌, ◌≢◌, ℕ, ◌+◌, ◌≤◌, ◌==◌, true, false, not, Some, None, List, [], ◌∷◌, ◌++◌, inl, inr, refl, sym, ap, ◌∙◌, subst, arith, length-append}
use Rattle.std.proofs.lemmas.Bool.{cases_Bool, cases_lt, eq-eqb, ne_eqb, or_right}
use Rattle.std.proofs.lemmas.List.{take-append-le}
use Rattle.std.specs.Option.{option_map}
use Rattle.tree_batch.specs.declared.batch.Entry.{Entry}
use Rattle.tree_batch.specs.Edge.{misfits}
use Rattle.tree_batch.specs.Digraph.{Digraph, graph_through}
use Rattle.version_list.specs.declared.step.Step.{Step}
use Rattle.version_list.specs.declared.step.Step.TheVariants.{Commit, Acquire, Release, Trim}
use Rattle.version_list.specs.declared.step.Reply.{Reply}
use Rattle.version_list.specs.declared.step.Reply.TheVariants.{Version, Ticket, Released, Trimmed, Refused}
use Rattle.version_list.specs.declared.step.Which.{Which}
use Rattle.version_list.specs.declared.step.Done.{Done}
use Rattle.version_list.specs.Machine.{State, opened, changed, reply_to, state_after, newest_number, newest_graph, version_graph, number_asked, lacks_room, lacks_steps, is_kept, is_open}
use Rattle.version_list.specs.Machine.{ticket_version, ticket_graph}
use Rattle.version_list.specs.Timeline.{Timeline, IsLegal, advanced, advanced_through, beginning, replay, with_reply}
use Rattle.version_list.specs.inside.Held.{AreTickets, holder_count}
use Rattle.version_list.proofs.Holding.{is_open_is, is_held_is, ticket_version-push, ticket_version-others, ticket_holds}
use Rattle.version_list.proofs.Keeping.{some_of, kept_is_made, tickets_committed, tickets_opened, tickets_closed}
use Rattle.version_laws.specs.Keeping.{HasNoReleaseOf, Keeps, release_of, state_through, steps_in, ticket_given}

-- open tickets stay what they are
commit_tickets : (s : State) (batch : List Entry) → AreTickets s → AreTickets (state_after s (Commit batch))
commit_tickets s batch tickets = elim (cases_Bool (misfits (newest_graph s).vertices batch)) [
  | inl outside ↦ rw (outside) tickets
  | inr inside ↦ elim (cases_Bool (lacks_room s 1)) [
    | inl full ↦ rw (inside, full) tickets
    | inr room ↦ rw (inside, room) (tickets_committed s tickets batch (s.used + 1) (s.steps + 1))
  ]
]

acquire_tickets : (s : State) (which : Which) → AreTickets s → AreTickets (state_after s (Acquire which))
acquire_tickets s which tickets = elim (cases_Bool (is_kept s (number_asked s which))) [
  | inl kept ↦ elim (cases_Bool (lacks_room s 2)) [
    | inl full ↦ rw (kept, full) tickets
    | inr room ↦ rw (kept, room) (tickets_opened s tickets (number_asked s which) (s.used + 1) (s.steps + 1) (kept_is_made s tickets (number_asked s which) kept))
  ]
  | inr lost ↦ rw (lost) tickets
]

release_tickets : (s : State) (number : ℕ) → AreTickets s → AreTickets (state_after s (Release number))
release_tickets s number tickets = elim (cases_Bool (is_open s number)) [
  | inl is ↦
      let version = some_of (ticket_version s.open_tickets number) (sym (is_open_is s.open_tickets number) ∙ is) in
      rw (is) (tickets_closed s tickets number version.0 (s.used + 1) (s.steps + 1) version.1)
  | inr closed ↦ rw (closed) tickets
]

trim_tickets : (s : State) → AreTickets s → AreTickets (state_after s Trim)
trim_tickets s tickets = elim (cases_Bool (lacks_steps s 1)) [
  | inl full ↦ rw (full) tickets
  | inr room ↦ rw (room) (record { distinct = tickets.distinct; given = tickets.given; made = tickets.made })
]

step_tickets : (s : State) (step : Step) → AreTickets s → AreTickets (state_after s step)
step_tickets s (Commit batch) tickets = commit_tickets s batch tickets
step_tickets s (Acquire which) tickets = acquire_tickets s which tickets
step_tickets s (Release number) tickets = release_tickets s number tickets
step_tickets s Trim tickets = trim_tickets s tickets

replay_tickets : (s : State) (history : List Done) → AreTickets s → AreTickets (replay s history)
replay_tickets s [] tickets = tickets
replay_tickets s (done ∷ history) tickets = replay_tickets (state_after s done.step) history (step_tickets s done.step tickets)

opened_tickets : (n room : ℕ) → AreTickets (opened n room)
opened_tickets n room = record { distinct = tt; given = λ number past. refl; made = λ k past. refl }

-- histories in two parts
replay_append : (s : State) (before after : List Done) → replay s (before ++ after) ≡ replay (replay s before) after
replay_append s [] after = refl
replay_append s (done ∷ before) after = replay_append (state_after s done.step) before after

legal_after : (s : State) (before after : List Done) → IsLegal s (before ++ after) → IsLegal (replay s before) after
legal_after s [] after legal = legal
legal_after s (done ∷ before) after legal = legal_after (state_after s done.step) before after legal.2

-- a version that was made has its graph, and stays made
abbrev Stays : State → ℕ → State → Type 0
Stays s k t = (version_graph t k ≡ version_graph s k) × (k ≤ newest_number t)

step_stays : (s : State) (step : Step) (k : ℕ) → k ≤ newest_number s → Stays s k (state_after s step)
step_stays s (Commit batch) k made = elim (cases_Bool (misfits (newest_graph s).vertices batch)) [
  | inl outside ↦ rw (outside) (refl, made)
  | inr inside ↦ elim (cases_Bool (lacks_room s 1)) [
    | inl full ↦ rw (inside, full) (refl, made)
    | inr room ↦ rw (inside, room) (ap (graph_through s.opening) (take-append-le k s.batches (batch ∷ []) made), simp length-append (omega (arith, made)))
  ]
]
step_stays s (Acquire which) k made = elim (cases_Bool (is_kept s (number_asked s which))) [
  | inl kept ↦ elim (cases_Bool (lacks_room s 2)) [ inl full ↦ rw (kept, full) (refl, made) | inr room ↦ rw (kept, room) (refl, made) ]
  | inr lost ↦ rw (lost) (refl, made)
]
step_stays s (Release number) k made = elim (cases_Bool (is_open s number)) [ inl is ↦ rw (is) (refl, made) | inr closed ↦ rw (closed) (refl, made) ]
step_stays s Trim k made = elim (cases_Bool (lacks_steps s 1)) [ inl full ↦ rw (full) (refl, made) | inr room ↦ rw (room) (refl, made) ]

pub versions_stay : (s : State) (history : List Done) (k : ℕ) → k ≤ newest_number s → version_graph (replay s history) k ≡ version_graph s k
versions_stay s [] k made = refl
versions_stay s (done ∷ history) k made =
    let one = step_stays s done.step k made in
    versions_stay (state_after s done.step) history k one.1 ∙ one.0

-- an open ticket stays open on its version until its release
step_keeps : (s : State) (step : Step) (number k : ℕ) → AreTickets s → step ≢ Release number → ticket_version s.open_tickets number ≡ Some k
    → ticket_version (state_after s step).open_tickets number ≡ Some k
step_keeps s (Commit batch) number k tickets other is = elim (cases_Bool (misfits (newest_graph s).vertices batch)) [
  | inl outside ↦ rw (outside) is
  | inr inside ↦ elim (cases_Bool (lacks_room s 1)) [ inl full ↦ rw (inside, full) is | inr room ↦ rw (inside, room) is ]
]
step_keeps s (Acquire which) number k tickets other is =
    let new : ticket_version s.open_tickets (s.given + 1) ≡ None = tickets.given (s.given + 1) (omega arith) in
    let lost_number : s.given + 1 ≡ number → ⊥ = λ same. let no : None ≡ Some k = sym new ∙ ap (ticket_version s.open_tickets) same ∙ is in cc in
    let apart : s.given + 1 == number ≡ false = ne_eqb (s.given + 1) number lost_number in
    elim (cases_Bool (is_kept s (number_asked s which))) [
      | inl kept ↦ elim (cases_Bool (lacks_room s 2)) [
        | inl full ↦ rw (kept, full) is
        | inr room ↦ rw (kept, room) (ticket_version-push s.open_tickets (record { number = s.given + 1; version = number_asked s which }) new number ∙ rw (apart) is)
      ]
      | inr lost ↦ rw (lost) is
    ]
step_keeps s (Release gone) number k tickets other is =
    let apart : gone == number ≡ false = ne_eqb gone number (λ same. other (ap Release same)) in
    elim (cases_Bool (is_open s gone)) [
      | inl open_one ↦ rw (open_one) (ticket_version-others s.open_tickets gone number ∙ rw (apart) is)
      | inr closed ↦ rw (closed) is
    ]
step_keeps s Trim number k tickets other is = elim (cases_Bool (lacks_steps s 1)) [ inl full ↦ rw (full) is | inr room ↦ rw (room) is ]

replay_keeps : (s : State) (history : List Done) (number k : ℕ) → AreTickets s → HasNoReleaseOf number (steps_in history) → ticket_version s.open_tickets number ≡ Some k
    → ticket_version (replay s history).open_tickets number ≡ Some k
replay_keeps s [] number k tickets none is = is
replay_keeps s (done ∷ history) number k tickets none is =
    replay_keeps (state_after s done.step) history number k (step_tickets s done.step tickets) none.1 (step_keeps s done.step number k tickets none.0 is)

-- an open ticket keeps its version
open_keeps : (s : State) (number k : ℕ) (g : Digraph) → ticket_version s.open_tickets number ≡ Some k → version_graph s k ≡ g → Keeps s number k g
open_keeps s number k g is graph =
    let some = ticket_holds s.open_tickets number k is in
    let kept : is_kept s k ≡ true = or_right _ _ (is_held_is s.open_tickets k ∙ ap not (ne_eqb (holder_count s.open_tickets k) 0 some)) in
    record {
      version = is;
      graph = ap (option_map (version_graph s)) is ∙ ap Some graph;
      kept = rw (kept) (ap Some graph);
    }

-- a hold opens its ticket, on a version that was made
hold_opens : (s : State) (which : Which) (number k : ℕ) → AreTickets s → reply_to s (Acquire which) ≡ Ticket number k
    → (ticket_version (state_after s (Acquire which)).open_tickets number ≡ Some k) × (k ≤ newest_number s)
hold_opens s which number k tickets is =
    let new : ticket_version s.open_tickets (s.given + 1) ≡ None = tickets.given (s.given + 1) (omega arith) in
    elim (cases_Bool (is_kept s (number_asked s which))) [
      | inl kept ↦ elim (cases_Bool (lacks_room s 2)) [
        | inl full ↦ let no : Refused 123 ≡ Ticket number k = rw (kept, full) at is in absurd cc
        | inr room ↦
            let so : Ticket (s.given + 1) (number_asked s which) ≡ Ticket number k = rw (kept, room) at is in
            let number_is : s.given + 1 ≡ number = cc in
            let version_is : number_asked s which ≡ k = cc in
            let here : s.given + 1 == number ≡ true = eq-eqb (s.given + 1) number number_is in
            rw (kept, room) (
              ticket_version-push s.open_tickets (record { number = s.given + 1; version = number_asked s which }) new number ∙ rw (here) (ap Some version_is),
              subst (λ v. v ≤ newest_number s) version_is (kept_is_made s tickets (number_asked s which) kept),
            )
      ]
      | inr lost ↦ let no : Refused 121 ≡ Ticket number k = rw (lost) at is in absurd cc
    ]

pub tickets_keep : (n room number k : ℕ) (which : Which) (before between : List Done) → IsLegal (opened n room) (before ++ ticket_given which number k ∷ between)
    → HasNoReleaseOf number (steps_in between)
    → Keeps (replay (opened n room) (before ++ ticket_given which number k ∷ between)) number k (version_graph (replay (opened n room) before) k)
tickets_keep n room number k which before between legal none =
    let s : State = replay (opened n room) before in
    let tickets : AreTickets s = replay_tickets (opened n room) before (opened_tickets n room) in
    let rest : IsLegal s (ticket_given which number k ∷ between) = legal_after (opened n room) before (ticket_given which number k ∷ between) legal in
    let start : State = state_after s (Acquire which) in
    let opens = hold_opens s which number k tickets rest.0 in
    let one : Stays s k start = step_stays s (Acquire which) k opens.1 in
    let is : ticket_version (replay start between).open_tickets number ≡ Some k = replay_keeps start between number k (step_tickets s (Acquire which) tickets) none opens.0 in
    let graph : version_graph (replay start between) k ≡ version_graph s k = versions_stay start between k one.1 ∙ one.0 in
    subst (λ (t : State). Keeps t number k (version_graph s k)) (sym (replay_append (opened n room) before (ticket_given which number k ∷ between)))
    (open_keeps (replay start between) number k (version_graph s k) is graph)

-- a ticket that was given and is open no more
abbrev Gone : State → ℕ → Type 0
Gone s number = (ticket_version s.open_tickets number ≡ None) × (number ≤ s.given)

step_gone : (s : State) (step : Step) (number : ℕ) → AreTickets s → Gone s number → Gone (state_after s step) number
step_gone s (Commit batch) number tickets gone = elim (cases_Bool (misfits (newest_graph s).vertices batch)) [
  | inl outside ↦ rw (outside) gone
  | inr inside ↦ elim (cases_Bool (lacks_room s 1)) [ inl full ↦ rw (inside, full) gone | inr room ↦ rw (inside, room) gone ]
]
step_gone s (Acquire which) number tickets gone =
    let new : ticket_version s.open_tickets (s.given + 1) ≡ None = tickets.given (s.given + 1) (omega arith) in
    let apart : s.given + 1 == number ≡ false = ne_eqb (s.given + 1) number (λ same. absurd (omega (arith, same, gone.1))) in
    elim (cases_Bool (is_kept s (number_asked s which))) [
      | inl kept ↦ elim (cases_Bool (lacks_room s 2)) [
        | inl full ↦ rw (kept, full) gone
        | inr room ↦ rw (kept, room) (ticket_version-push s.open_tickets (record { number = s.given + 1; version = number_asked s which }) new number ∙ rw (apart) gone.0, omega (arith, gone.1))
      ]
      | inr lost ↦ rw (lost) gone
    ]
step_gone s (Release other) number tickets gone = elim (cases_Bool (is_open s other)) [
  | inl open_one ↦ rw (open_one) (ticket_version-others s.open_tickets other number ∙ elim (cases_Bool (other == number)) [ inl same ↦ rw (same) refl | inr apart ↦ rw (apart) gone.0 ], gone.1)
  | inr closed ↦ rw (closed) gone
]
step_gone s Trim number tickets gone = elim (cases_Bool (lacks_steps s 1)) [ inl full ↦ rw (full) gone | inr room ↦ rw (room) gone ]

replay_gone : (s : State) (history : List Done) (number : ℕ) → AreTickets s → Gone s number → Gone (replay s history) number
replay_gone s [] number tickets gone = gone
replay_gone s (done ∷ history) number tickets gone =
    replay_gone (state_after s done.step) history number (step_tickets s done.step tickets) (step_gone s done.step number tickets gone)

-- a release closes its ticket
release_closes : (s : State) (number : ℕ) → AreTickets s → reply_to s (Release number) ≡ Released → Gone (state_after s (Release number)) number
release_closes s number tickets is = elim (cases_Bool (is_open s number)) [
  | inl open_one ↦
      let version = some_of (ticket_version s.open_tickets number) (sym (is_open_is s.open_tickets number) ∙ open_one) in
      let given : number ≤ s.given = elim (cases_lt s.given number) [
        | inl past ↦ let no : None ≡ Some version.0 = sym (tickets.given number past) ∙ version.1 in absurd cc
        | inr within ↦ within
      ] in
      let here : number == number ≡ true = eq-eqb number number refl in
      rw (open_one) (ticket_version-others s.open_tickets number number ∙ rw (here) refl, given)
  | inr closed ↦ let no : Refused 122 ≡ Released = rw (closed) at is in absurd cc
]

pub tickets_go : (n room number : ℕ) (before after : List Done) → IsLegal (opened n room) (before ++ release_of number ∷ after)
    → ticket_graph (replay (opened n room) (before ++ release_of number ∷ after)) number ≡ None
tickets_go n room number before after legal =
    let s : State = replay (opened n room) before in
    let tickets : AreTickets s = replay_tickets (opened n room) before (opened_tickets n room) in
    let rest : IsLegal s (release_of number ∷ after) = legal_after (opened n room) before (release_of number ∷ after) legal in
    let start : State = state_after s (Release number) in
    let gone : Gone (replay start after) number = replay_gone start after number (step_tickets s (Release number) tickets) (release_closes s number tickets rest.0) in
    ap (λ (t : State). ticket_graph t number) (replay_append (opened n room) before (release_of number ∷ after)) ∙ ap (option_map (version_graph (replay start after))) gone.0

-- the same of steps, of which some may be refused
abbrev after_steps : State → List Step → State
after_steps s [] = s
after_steps s (step ∷ steps) = after_steps (state_after s step) steps

refused_state : (s : State) (step : Step) (number : ℕ) → changed s step (Refused number) ≡ s
refused_state s (Commit batch) number = refl
refused_state s (Acquire which) number = refl
refused_state s (Release ticket) number = refl
refused_state s Trim number = refl

replied_state : (t : Timeline) (step : Step) (reply : Reply) → reply_to t.state step ≡ reply → (with_reply t step reply).state ≡ state_after t.state step
replied_state t step (Version number) is = refl
replied_state t step (Ticket number version) is = refl
replied_state t step Released is = refl
replied_state t step (Trimmed count) is = refl
replied_state t step (Refused number) is = sym (ap (changed t.state step) is ∙ refused_state t.state step number)

through : (t : Timeline) (steps : List Step) → (advanced_through t steps).state ≡ after_steps t.state steps
through t [] = refl
through t (step ∷ steps) = through (advanced t step) steps ∙ ap (λ (s : State). after_steps s steps) (replied_state t step (reply_to t.state step) refl)

steps_append : (s : State) (before after : List Step) → after_steps s (before ++ after) ≡ after_steps (after_steps s before) after
steps_append s [] after = refl
steps_append s (step ∷ before) after = steps_append (state_after s step) before after

steps_tickets : (s : State) (steps : List Step) → AreTickets s → AreTickets (after_steps s steps)
steps_tickets s [] tickets = tickets
steps_tickets s (step ∷ steps) tickets = steps_tickets (state_after s step) steps (step_tickets s step tickets)

steps_stay : (s : State) (steps : List Step) (k : ℕ) → k ≤ newest_number s → version_graph (after_steps s steps) k ≡ version_graph s k
steps_stay s [] k made = refl
steps_stay s (step ∷ steps) k made =
    let one = step_stays s step k made in
    steps_stay (state_after s step) steps k one.1 ∙ one.0

steps_keep : (s : State) (steps : List Step) (number k : ℕ) → AreTickets s → HasNoReleaseOf number steps → ticket_version s.open_tickets number ≡ Some k
    → ticket_version (after_steps s steps).open_tickets number ≡ Some k
steps_keep s [] number k tickets none is = is
steps_keep s (step ∷ steps) number k tickets none is = steps_keep (state_after s step) steps number k (step_tickets s step tickets) none.1 (step_keeps s step number k tickets none.0 is)

steps_gone : (s : State) (steps : List Step) (number : ℕ) → AreTickets s → Gone s number → Gone (after_steps s steps) number
steps_gone s [] number tickets gone = gone
steps_gone s (step ∷ steps) number tickets gone = steps_gone (state_after s step) steps number (step_tickets s step tickets) (step_gone s step number tickets gone)

pub tickets_keep_through : (n room number k : ℕ) (which : Which) (before between : List Step) → reply_to (state_through (opened n room) before) (Acquire which) ≡ Ticket number k
    → HasNoReleaseOf number between
    → Keeps (state_through (opened n room) (before ++ Acquire which ∷ between)) number k (version_graph (state_through (opened n room) before) k)
tickets_keep_through n room number k which before between is none =
    let s : State = after_steps (opened n room) before in
    let s_is : state_through (opened n room) before ≡ s = through (beginning (opened n room)) before in
    let tickets : AreTickets s = steps_tickets (opened n room) before (opened_tickets n room) in
    let start : State = state_after s (Acquire which) in
    let opens = hold_opens s which number k tickets (subst (λ (t : State). reply_to t (Acquire which) ≡ Ticket number k) s_is is) in
    let one : Stays s k start = step_stays s (Acquire which) k opens.1 in
    let open_one : ticket_version (after_steps start between).open_tickets number ≡ Some k = steps_keep start between number k (step_tickets s (Acquire which) tickets) none opens.0 in
    let graph : version_graph (after_steps start between) k ≡ version_graph s k = steps_stay start between k one.1 ∙ one.0 in
    let end_is : state_through (opened n room) (before ++ Acquire which ∷ between) ≡ after_steps start between =
    through (beginning (opened n room)) (before ++ Acquire which ∷ between) ∙ steps_append (opened n room) before (Acquire which ∷ between) in
    subst (λ (t : State). Keeps t number k (version_graph (state_through (opened n room) before) k)) (sym end_is)
    (subst (λ (u : State). Keeps (after_steps start between) number k (version_graph u k)) (sym s_is)
    (open_keeps (after_steps start between) number k (version_graph s k) open_one graph))

pub tickets_go_through : (n room number : ℕ) (before after : List Step) → reply_to (state_through (opened n room) before) (Release number) ≡ Released
    → ticket_graph (state_through (opened n room) (before ++ Release number ∷ after)) number ≡ None
tickets_go_through n room number before after is =
    let s : State = after_steps (opened n room) before in
    let s_is : state_through (opened n room) before ≡ s = through (beginning (opened n room)) before in
    let tickets : AreTickets s = steps_tickets (opened n room) before (opened_tickets n room) in
    let start : State = state_after s (Release number) in
    let closed : Gone start number = release_closes s number tickets (subst (λ (t : State). reply_to t (Release number) ≡ Released) s_is is) in
    let gone : Gone (after_steps start after) number = steps_gone start after number (step_tickets s (Release number) tickets) closed in
    let end_is : state_through (opened n room) (before ++ Release number ∷ after) ≡ after_steps start after =
    through (beginning (opened n room)) (before ++ Release number ∷ after) ∙ steps_append (opened n room) before (Release number ∷ after) in
    ap (λ (t : State). ticket_graph t number) end_is ∙ ap (option_map (version_graph (after_steps start after))) gone.0
