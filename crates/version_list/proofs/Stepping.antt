-- What an accepted step does to a timeline, and to the fields that stand for its state.
use Rattle.std.proofs.Common.{◌≡◌, ℕ, ◌+◌, ◌≤◌, ◌==◌, nat_eq, true, false, if◌then◌else◌, Option, Some, None, IfSome, is_some, List, [], ◌∷◌, ◌++◌, length, vec_capacity, inl, inr, refl, sym, ap, ◌∙◌}
use Rattle.std.proofs.Common.{subst, arith, length-append}
use Rattle.std.proofs.lemmas.Bool.{cases_Bool, ltb-false, or_parts}
use Rattle.indexmap.specs.IndexMap.{get, index_map_len}
use Rattle.std.proofs.Math.Seq.{take-length}
use Rattle.tree_batch.specs.declared.batch.Entry.{Entry}
use Rattle.tree_batch.specs.Edge.{misfits}
use Rattle.tree_batch.specs.Digraph.{Digraph, IsDigraph, graph_after, graph_through}
use Rattle.version_list.specs.declared.step.Step.{Step}
use Rattle.version_list.specs.declared.step.Step.TheVariants.{Commit, Acquire, Release}
use Rattle.version_list.specs.declared.step.Reply.{Reply}
use Rattle.version_list.specs.declared.step.Reply.TheVariants.{Version, Ticket, Released, Refused}
use Rattle.version_list.specs.declared.step.Which.{Which}
use Rattle.version_list.specs.declared.step.Done.{Done}
use Rattle.version_list.specs.declared.prepared.Prepared.{Prepared}
use Rattle.version_list.specs.declared.prepared.PreparedAcquire.{PreparedAcquire}
use Rattle.version_list.specs.declared.versions.Versions.TheInside.{Inside}
use Rattle.version_list.specs.Machine.{State, OpenTicket, reply_to, changed, state_after, newest_number, lacks_room, newest_graph, version_graph, number_asked, is_kept, kept_graph, is_open}
use Rattle.version_list.specs.Machine.{ticket_version}
use Rattle.version_list.specs.Timeline.{Timeline, IsLegal, IsAccepted, replay, Accepts}
use Rattle.version_list.specs.Prepared.{IsPrepared, IsPreparedAcquire}
use Rattle.version_list.specs.inside.Held.{AreTickets, Holds, HasRoom, one_more}
use Rattle.version_list.specs.inside.Fields.{base, timeline, Shows, IsFaithful}
use Rattle.version_list.proofs.Holding.{others, is_open_is, length-others}
use Rattle.version_list.proofs.Keeping.{kept_is_made, holds_opened, tickets_committed, holds_committed, tickets_opened, tickets_closed}

-- a history with one more entry
pub replay-pushed : (s : State) (history : List Done) (done : Done) → replay s (history ++ done ∷ []) ≡ state_after (replay s history) done.step
replay-pushed s [] done = refl
replay-pushed s (first ∷ rest) done = replay-pushed (state_after s first.step) rest done

pub legal_pushed : (s : State) (history : List Done) (done : Done) → IsLegal s history → reply_to (replay s history) done.step ≡ done.reply → IsAccepted done.reply → IsLegal s (history ++ done ∷ [])
legal_pushed s [] done legal is accepted = (is, accepted, tt)
legal_pushed s (first ∷ rest) done legal is accepted = (legal.0, legal.1, legal_pushed (state_after s first.step) rest done legal.2 is accepted)

-- one more batch
graph_through-pushed : (g : Digraph) (batches : List (List Entry)) (batch : List Entry) → graph_through g (batches ++ batch ∷ []) ≡ graph_after (graph_through g batches) batch
graph_through-pushed g [] batch = refl
graph_through-pushed g (first ∷ rest) batch = graph_through-pushed (graph_after g first) rest batch

-- the newest version's graph is taken through all batches
pub newest_graph_is : (s : State) → version_graph s (newest_number s) ≡ newest_graph s
newest_graph_is s = ap (graph_through s.opening) (take-length s.batches)

module _ (a b : Inside) (kept : IsFaithful a) (step : Step) (reply : Reply) (answer : reply_to (timeline a).state step ≡ reply) (accepted : IsAccepted reply)
    (same_base : base b ≡ base a) (history : b.history.items ≡ a.history.items ++ record { step = step; reply = reply } ∷ []) (unreserved : b.reserved ≡ 0) where
  abbrev done : Done
  done = record { step = step; reply = reply }

  state_is : (timeline b).state ≡ state_after (timeline a).state step
  state_is = ap (λ t. replay t b.history.items) same_base ∙ ap (replay (base a)) history ∙ replay-pushed (base a) a.history.items done

  pub accepts_step : Accepts (timeline a) step reply (timeline b)
  accepts_step = record { is_answer = answer; accepted = accepted; base = same_base; history = history; state = state_is; reserved = unreserved }

  pub kept_step : Shows b (state_after (timeline a).state step) → IsFaithful b
  kept_step shows = record {
    legal = subst (λ t. IsLegal t b.history.items) (sym same_base) (subst (IsLegal (base a)) (sym history) (legal_pushed (base a) a.history.items done kept.legal answer accepted));
    begun = subst (λ (s : State). IsDigraph (newest_graph s)) (sym same_base) kept.begun;
    state = subst (Shows b) (sym state_is) shows;
  }

module _ (s : State) (batch : List Entry) (inside : misfits (newest_graph s).vertices batch ≡ false) (has_room : lacks_room s 1 ≡ false) where
  -- a commit that is not refused
  pub commit_reply : reply_to s (Commit batch) ≡ Version (newest_number s + 1)
  commit_reply = rw (inside, has_room) refl

  pub commit_after : state_after s (Commit batch) ≡ record s { batches = s.batches ++ batch ∷ []; used = s.used + 1; steps = s.steps + 1 }
  commit_after = ap (changed s (Commit batch)) commit_reply

module _ (s : State) (which : Which) (kept : is_kept s (number_asked s which) ≡ true) (has_room : lacks_room s 2 ≡ false) where
  -- an acquire that is not refused
  pub acquire_reply : reply_to s (Acquire which) ≡ Ticket (s.given + 1) (number_asked s which)
  acquire_reply = rw (kept, has_room) refl

  pub acquire_after : state_after s (Acquire which) ≡ record s {
    open_tickets = s.open_tickets ++ record { number = s.given + 1; version = number_asked s which } ∷ [];
    given = s.given + 1;
    used =
        s.used + 1;
    steps = s.steps + 1;
  }
  acquire_after = ap (changed s (Acquire which)) acquire_reply

module _ (s : State) (number version : ℕ) (held : ticket_version s.open_tickets number ≡ Some version) where
  -- a release that is not refused
  pub release_reply : reply_to s (Release number) ≡ Released
  release_reply = let is : is_open s number ≡ true = is_open_is s.open_tickets number ∙ ap is_some held in rw (is) refl

  pub release_after : state_after s (Release number) ≡ record s { open_tickets = others number s.open_tickets; used = s.used + 1; steps = s.steps + 1 }
  release_after = ap (changed s (Release number)) release_reply

-- where there is room for so many more entries and steps
module _ (s : State) (n : ℕ) (has_room : lacks_room s n ≡ false) where
  pub has_entries : s.used + length s.open_tickets + n ≤ s.room
  has_entries = ltb-false s.room (s.used + length s.open_tickets + n) (or_parts _ _ has_room).0

  pub has_steps : s.steps + length s.open_tickets + n ≤ 18446744073709551615
  has_steps = ltb-false 18446744073709551615 (s.steps + length s.open_tickets + n) (or_parts _ _ has_room).1

module _ (a b : Inside) (s : State) (shows : Shows a s) (done : Done) (same_room : b.room ≡ a.room) (history : b.history.items ≡ a.history.items ++ done ∷ []) (more_steps : b.steps ≡ a.steps + 1)
    (unreserved : b.reserved ≡ 0) where
  count : length b.history.items ≡ length a.history.items + 1
  count = ap length history ∙ length-append a.history.items (done ∷ [])

  no_ticket_room : 2 ≤ b.reserved → HasRoom b.held
  no_ticket_room two = absurd (omega (arith, two, unreserved))

  pub shows_committed : (batch : List Entry) → lacks_room s 1 ≡ false → b.newest ≡ graph_after a.newest batch → b.number ≡ a.number + 1 → b.given ≡ a.given → b.held ≡ a.held
      → length b.history.items + length s.open_tickets ≤ vec_capacity b.history → Shows b (record s { batches = s.batches ++ batch ∷ []; used = s.used + 1; steps = s.steps + 1 })
  shows_committed batch has_room newest number given held reserved = record {
    number = number ∙ ap (λ n. n + 1) shows.number ∙ sym (length-append s.batches (batch ∷ []));
    newest = newest ∙ ap (λ g. graph_after g batch) shows.newest ∙ sym (graph_through-pushed s.opening s.batches batch);
    given = given ∙ shows.given;
    held = rw (held) (holds_committed s shows.tickets a.held batch (s.used + 1) (s.steps + 1) shows.held);
    tickets = tickets_committed s shows.tickets batch (s.used + 1) (s.steps + 1);
    used = ap (λ n. n + 1) shows.used ∙ sym count;
    room = shows.room ∙ sym same_room;
    within_room = omega (arith, shows.within_room, same_room);
    steps = more_steps ∙ ap (λ n. n + 1) shows.steps;
    few = omega (arith, shows.few, number, given, more_steps);
    counted = omega (arith, has_steps s 1 has_room, shows.steps, more_steps);
    fits = omega (arith, has_entries s 1 has_room, shows.used, shows.room, same_room, count);
    reserved = omega (arith, reserved, unreserved);
    ticket_room = no_ticket_room;
  }

  pub shows_acquired : (version : ℕ) → version ≤ newest_number s → lacks_room s 2 ≡ false → b.newest ≡ a.newest → b.number ≡ a.number → b.given ≡ a.given + 1
      → Holds b.held (s.open_tickets ++ record { number = s.given + 1; version = version } ∷ []) (version_graph s)
      → length b.history.items + length s.open_tickets + 1 ≤ vec_capacity b.history
      → Shows b (record s { open_tickets = s.open_tickets ++ record { number = s.given + 1; version = version } ∷ []; given = s.given + 1; used = s.used + 1; steps = s.steps + 1 })
  shows_acquired version made has_room newest number given held reserved =
      let open_count = length-append s.open_tickets (record { number = s.given + 1; version = version } ∷ []) in
      record {
        number = number ∙ shows.number;
        newest = newest ∙ shows.newest;
        given = given ∙ ap (λ n. n + 1) shows.given;
        held = held;
        tickets = tickets_opened s shows.tickets version (s.used + 1) (s.steps + 1) made;
        used = ap (λ n. n + 1) shows.used ∙ sym count;
        room = shows.room ∙ sym same_room;
        within_room = omega (arith, shows.within_room, same_room);
        steps = more_steps ∙ ap (λ n. n + 1) shows.steps;
        few = omega (arith, shows.few, number, given, more_steps);
        counted = omega (arith, has_steps s 2 has_room, shows.steps, more_steps, open_count);
        fits = omega (arith, has_entries s 2 has_room, shows.used, shows.room, same_room, count, open_count);
        reserved = omega (arith, reserved, open_count, unreserved);
        ticket_room = no_ticket_room;
      }

  pub shows_released : (number version : ℕ) → ticket_version s.open_tickets number ≡ Some version → b.newest ≡ a.newest → b.number ≡ a.number → b.given ≡ a.given
      → Holds b.held (others number s.open_tickets) (version_graph s) → vec_capacity b.history ≡ vec_capacity a.history
      → Shows b (record s { open_tickets = others number s.open_tickets; used = s.used + 1; steps = s.steps + 1 })
  shows_released number version is_open newest same_number given held capacity =
      let one_fewer = length-others s.open_tickets number version shows.tickets.distinct is_open in
      record {
        number = same_number ∙ shows.number;
        newest = newest ∙ shows.newest;
        given = given ∙ shows.given;
        held = held;
        tickets = tickets_closed s shows.tickets number version (s.used + 1) (s.steps + 1) is_open;
        used = ap (λ n. n + 1) shows.used ∙ sym count;
        room = shows.room ∙ sym same_room;
        within_room = omega (arith, shows.within_room, same_room);
        steps = more_steps ∙ ap (λ n. n + 1) shows.steps;
        few = omega (arith, shows.few, same_number, given, more_steps);
        counted = omega (arith, shows.counted, more_steps, one_fewer);
        fits = omega (arith, shows.fits, same_room, count, one_fewer);
        reserved = omega (arith, shows.reserved, capacity, count, one_fewer, unreserved);
        ticket_room = no_ticket_room;
      }

-- memory is reserved for n entries more
module _ (a b : Inside) (kept : IsFaithful a) (newest : b.newest ≡ a.newest) (number : b.number ≡ a.number) (same_room : b.room ≡ a.room) (given : b.given ≡ a.given)
    (same_base : base b ≡ base a) (history : b.history.items ≡ a.history.items) (same_steps : b.steps ≡ a.steps) where
  pub same_timeline : timeline b ≡ record (timeline a) { reserved = b.reserved }
  same_timeline = λ i. record { base = same_base i; history = history i; state = replay (same_base i) (history i); reserved = b.reserved }

  pub kept_reserved : Holds b.held (timeline a).state.open_tickets (version_graph (timeline a).state)
      → length a.history.items + length (timeline a).state.open_tickets + b.reserved ≤ vec_capacity b.history
      → (2 ≤ b.reserved → HasRoom b.held) → IsFaithful b
  kept_reserved held reserved ticket_room =
      let shows = kept.state in
      let s : State = (timeline a).state in
      let count : length b.history.items ≡ length a.history.items = ap length history in
      let state_is : (timeline b).state ≡ s = ap (λ (t : Timeline). t.state) same_timeline in
      record {
        legal = subst (λ (t : Timeline). IsLegal t.base t.history) (sym same_timeline) kept.legal;
        begun = subst (λ (t : State). IsDigraph (newest_graph t)) (sym same_base) kept.begun;
        state = subst (Shows b) (sym state_is) (record {
          number = number ∙ shows.number;
          newest = newest ∙ shows.newest;
          given = given ∙ shows.given;
          held = held;
          tickets = shows.tickets;
          used = shows.used ∙ sym count;
          room = shows.room ∙ sym same_room;
          within_room = omega (arith, shows.within_room, same_room);
          steps = same_steps ∙ shows.steps;
          few = omega (arith, shows.few, number, given, same_steps);
          counted = omega (arith, shows.counted, same_steps);
          fits = omega (arith, shows.fits, same_room, count);
          reserved = omega (arith, reserved, count);
          ticket_room = ticket_room;
        });
      }

-- a commit that was answered with a version was neither outside nor without room
pub commit_room : (s : State) (batch : List Entry) (number : ℕ) → reply_to s (Commit batch) ≡ Version number → lacks_room s 1 ≡ false
commit_room s batch number is = elim (cases_Bool (misfits (newest_graph s).vertices batch)) [
  | inl outside ↦ let no : Refused 111 ≡ Version number = rw (outside) at is in absurd cc
  | inr inside ↦ elim (cases_Bool (lacks_room s 1)) [ inl full ↦ let no : Refused 123 ≡ Version number = rw (inside, full) at is in absurd cc | inr room ↦ room ]
]

-- the version that a commit makes
pub next_version : (s : State) (batch : List Entry) (number : ℕ) → reply_to s (Commit batch) ≡ Version number
    → (newest_number (state_after s (Commit batch)) ≡ newest_number s + 1) × (version_graph (state_after s (Commit batch)) (newest_number s + 1) ≡ graph_after
    (version_graph s (newest_number s)) batch)
next_version s batch number is =
    let after : State = record s { batches = s.batches ++ batch ∷ []; used = s.used + 1; steps = s.steps + 1 } in
    let after_is : state_after s (Commit batch) ≡ after = ap (changed s (Commit batch)) is in
    let count : newest_number after ≡ newest_number s + 1 = length-append s.batches (batch ∷ []) in (
      ap newest_number after_is ∙ count,
      ap (λ (t : State). version_graph t (newest_number s + 1)) after_is ∙ ap (version_graph after) (sym count) ∙ newest_graph_is after
          ∙ graph_through-pushed s.opening s.batches batch ∙ ap (λ (g : Digraph). graph_after g batch) (sym (newest_graph_is s)),
    )

-- a hold changes no version
pub held_versions : (s : State) (which : Which) (number version : ℕ) → reply_to s (Acquire which) ≡ Ticket number version → (newest_number (state_after s (Acquire which)) ≡ newest_number s)
    × (version_graph (state_after s (Acquire which)) ≡ version_graph s)
held_versions s which number version is =
    let after_is = ap (changed s (Acquire which)) is in
    (ap newest_number after_is, ap version_graph after_is)

-- a release changes no version
pub released_versions : (s : State) (ticket : ℕ) → reply_to s (Release ticket) ≡ Released → (newest_number (state_after s (Release ticket)) ≡ newest_number s)
    × (version_graph (state_after s (Release ticket)) ≡ version_graph s)
released_versions s ticket is =
    let after_is = ap (changed s (Release ticket)) is in
    (ap newest_number after_is, ap version_graph after_is)

-- a hold that was answered with a ticket is of a kept version, and had room
pub acquire_room : (s : State) (which : Which) (number version : ℕ) → reply_to s (Acquire which) ≡ Ticket number version → (is_kept s (number_asked s which) ≡ true) × (lacks_room s 2 ≡ false)
acquire_room s which number version is = elim (cases_Bool (is_kept s (number_asked s which))) [
  | inl kept ↦ elim (cases_Bool (lacks_room s 2)) [ inl full ↦ let no : Refused 123 ≡ Ticket number version = rw (kept, full) at is in absurd cc | inr room ↦ (kept, room) ]
  | inr lost ↦ let no : Refused 121 ≡ Ticket number version = rw (lost) at is in absurd cc
]

-- a version whose graph is kept was made
pub found_is_made : (s : State) → AreTickets s → (k : ℕ) (found : Option Digraph) → found ≡ kept_graph s k → IfSome found (λ g. k ≤ newest_number s)
found_is_made s tickets k None is = tt
found_is_made s tickets k (Some g) is = elim (cases_Bool (is_kept s k)) [
  | inl kept ↦ kept_is_made s tickets k kept
  | inr lost ↦ let no : ◌≡◌ {A = Option Digraph} (Some g) None = rw (lost) at is in absurd cc
]

-- a commit that was prepared is finished
module _ (a b : Inside) (kept : IsFaithful a) (batch : List Entry) (p : Prepared) (ready : IsPrepared (timeline a) batch p) (newest : b.newest ≡ p.graph) (number : b.number ≡ p.number)
    (same_room : b.room ≡ a.room) (given : b.given ≡ a.given) (held : b.held ≡ a.held) (same_base : base b ≡ base a) (history : b.history.items ≡ a.history.items ++ p.done ∷ [])
    (more_steps : b.steps ≡ a.steps + 1)
    (capacity : vec_capacity b.history ≡ vec_capacity a.history) (unreserved : b.reserved ≡ 0) where
  abbrev before : State
  before = (timeline a).state

  abbrev entry : Done
  entry = record { step = Commit batch; reply = Version (newest_number before + 1) }

  next_is : b.newest ≡ graph_after a.newest batch
  next_is = newest ∙ ready.graph ∙ ap (λ (g : Digraph). graph_after g batch) (newest_graph_is before ∙ sym kept.state.newest)

  items : b.history.items ≡ a.history.items ++ entry ∷ []
  items = history ∙ ap (λ (d : Done). a.history.items ++ d ∷ []) ready.done

  fits : length b.history.items + length before.open_tickets ≤ vec_capacity b.history
  fits = omega (arith, kept.state.reserved, ready.reserved, capacity, ap length items, length-append a.history.items (entry ∷ []))

  pub kept_commit : IsFaithful b
  kept_commit = kept_step a b kept (Commit batch) (Version (newest_number before + 1)) ready.is_answer tt same_base items unreserved
      (subst (Shows b) (sym (ap (changed before (Commit batch)) ready.is_answer))
      (shows_committed a b before kept.state entry same_room items more_steps unreserved batch (commit_room before batch (newest_number before + 1) ready.is_answer) next_is
      (number ∙ ready.number ∙ ap (λ n. n + 1) (sym kept.state.number)) given held fits))

  pub accepts_commit : Accepts (timeline a) p.done.step p.done.reply (timeline b)
  accepts_commit = subst (λ (d : Done). Accepts (timeline a) d.step d.reply (timeline b)) (sym ready.done)
      (accepts_step a b kept (Commit batch) (Version (newest_number before + 1)) ready.is_answer tt same_base items unreserved)

-- a hold that was prepared is finished
module _ (a b : Inside) (kept : IsFaithful a) (p : PreparedAcquire) (ready : IsPreparedAcquire (timeline a) p.which p) (newest : b.newest ≡ a.newest) (number : b.number ≡ a.number)
    (same_room : b.room ≡ a.room) (given : b.given ≡ p.ticket.number) (same_base : base b ≡ base a)
    (tickets : (q : ℕ) → get nat_eq b.held.tickets q ≡ (if p.ticket.number == q then Some p.version else get nat_eq a.held.tickets q))
    (count : get nat_eq a.held.tickets p.ticket.number ≡ None → index_map_len b.held.tickets ≡ index_map_len a.held.tickets + 1)
    (versions : (q : ℕ) → get nat_eq b.held.versions q ≡ (if p.version == q then Some (one_more p.kept (get nat_eq a.held.versions p.version)) else get nat_eq a.held.versions q))
    (history : b.history.items ≡ a.history.items ++ record { step = Acquire p.which; reply = Ticket p.ticket.number p.version } ∷ []) (more_steps : b.steps ≡ a.steps + 1)
    (capacity : vec_capacity b.history ≡ vec_capacity a.history) (unreserved : b.reserved ≡ 0) where
  abbrev held_state : State
  held_state = (timeline a).state

  abbrev hold_entry : Done
  hold_entry = record { step = Acquire p.which; reply = Ticket p.ticket.number p.version }

  hold_answer : reply_to held_state (Acquire p.which) ≡ Ticket p.ticket.number p.version
  hold_answer = ready.is_answer ∙ ap (λ n. Ticket n (number_asked held_state p.which)) (sym ready.ticket) ∙ ap (Ticket p.ticket.number) (sym ready.version)

  allowed : (is_kept held_state (number_asked held_state p.which) ≡ true) × (lacks_room held_state 2 ≡ false)
  allowed = acquire_room held_state p.which p.ticket.number p.version hold_answer

  abbrev opened_ticket : OpenTicket
  opened_ticket = record { number = p.ticket.number; version = p.version }

  new_number : ticket_version held_state.open_tickets p.ticket.number ≡ None
  new_number = kept.state.tickets.given p.ticket.number (omega (arith, ready.ticket))

  opened_holds : Holds b.held (held_state.open_tickets ++ opened_ticket ∷ []) (version_graph held_state)
  opened_holds =
      holds_opened a.held b.held held_state.open_tickets (version_graph held_state) opened_ticket new_number tickets (count (kept.state.held.tickets p.ticket.number ∙ new_number))
      (λ q. versions q ∙ ap (λ (g : Digraph). if p.version == q then Some (one_more g (get nat_eq a.held.versions p.version)) else get nat_eq a.held.versions q)
      (ready.kept ∙ ready.graph)) kept.state.held

  ticket_is : opened_ticket ≡ record { number = held_state.given + 1; version = number_asked held_state p.which }
  ticket_is = λ i. record { number = ready.ticket i; version = ready.version i }

  hold_fits : length b.history.items + length held_state.open_tickets + 1 ≤ vec_capacity b.history
  hold_fits = omega (arith, kept.state.reserved, ready.reserved, capacity, ap length history, length-append a.history.items (hold_entry ∷ []))

  pub kept_acquire : IsFaithful b
  kept_acquire = kept_step a b kept (Acquire p.which) (Ticket p.ticket.number p.version) hold_answer tt same_base history unreserved
      (subst (Shows b) (sym (acquire_after held_state p.which allowed.0 allowed.1))
      (shows_acquired a b held_state kept.state hold_entry same_room history more_steps unreserved (number_asked held_state p.which)
      (kept_is_made held_state kept.state.tickets (number_asked held_state p.which) allowed.0) allowed.1 newest number
      (given ∙ ready.ticket ∙ ap (λ n. n + 1) (sym kept.state.given))
      (subst (λ (t : OpenTicket). Holds b.held (held_state.open_tickets ++ t ∷ []) (version_graph held_state)) ticket_is opened_holds) hold_fits))

  pub accepts_acquire : Accepts (timeline a) (Acquire p.which) (Ticket p.ticket.number p.version) (timeline b)
  accepts_acquire = accepts_step a b kept (Acquire p.which) (Ticket p.ticket.number p.version) hold_answer tt same_base history unreserved
