-- What is kept of tickets and versions, as tickets are opened and closed and versions are made.
use Rattle.std.proofs.Common.{◌≡◌, ℕ, ◌+◌, ◌-◌, ◌<◌, ◌≤◌, ◌==◌, nat_eq, true, false, not, if◌then◌else◌, Option, Some, None, is_some, List, [], ◌∷◌, ◌++◌, length, inl, inr, refl, sym, ap, ◌∙◌, subst}
use Rattle.std.proofs.Common.{arith, length-append}
use Rattle.std.proofs.lemmas.Bool.{false≢true, cases_Bool, lt-ltb, eqb-true, eqb-false, ne_eqb, not-true, cases_lt, cases_eq}
use Rattle.std.proofs.lemmas.List.{take-append-le}
use Rattle.std.specs.List.{list_any}
use Rattle.std.specs.Option.{option_map, option_map_or, IfSome}
use Rattle.indexmap.specs.IndexMap.{IsUnchanged, get, index_map_len}
use Rattle.tree_batch.specs.declared.batch.Entry.{Entry}
use Rattle.tree_batch.specs.Digraph.{Digraph, graph_through}
use Rattle.version_list.specs.declared.held.HeldVersion.{HeldVersion}
use Rattle.version_list.specs.declared.held.HeldVersions.{HeldVersions}
use Rattle.version_list.specs.Machine.{OpenTicket, State, ticket_version, newest_number, version_graph, ticket_graph, kept_graph, is_kept}
use Rattle.version_list.specs.inside.Held.{holder_count, one_more, one_fewer, held_by, Holds, AreDistinct, AreTickets}
use Rattle.version_list.proofs.Holding.{others, is_held_is, ticket_version-push, ticket_version-others, AreDistinct-push, AreDistinct-others, length-others, holder_count-push, holder_count-others}
use Rattle.version_list.proofs.Holding.{holder_count-le-length, ticket_holds}

-- how many hold a version, one more and one fewer
held_by-more : (n : ℕ) (g : Digraph) → Some (one_more g (held_by n g)) ≡ held_by (n + 1) g
held_by-more n g = elim (cases_Bool (n == 0)) [
  | inl none ↦ subst (λ m. Some (one_more g (held_by m g)) ≡ held_by (m + 1) g) (sym (eqb-true n 0 none)) refl
  | inr some ↦ let more : n + 1 == 0 ≡ false = ne_eqb (n + 1) 0 (λ e. absurd (omega arith)) in rw (some, more) refl
]

held_by-fewer : (n : ℕ) (g : Digraph) → one_fewer (held_by (n + 1) g) ≡ held_by n g
held_by-fewer n g = elim (cases_Bool (n == 0)) [
  | inl none ↦ subst (λ m. one_fewer (held_by (m + 1) g) ≡ held_by m g) (sym (eqb-true n 0 none)) refl
  | inr some ↦
      let more : n + 1 == 0 ≡ false = ne_eqb (n + 1) 0 (λ e. absurd (omega arith)) in
      let two : 1 < n + 1 = omega (arith, eqb-false n 0 some) in
      let back : n + 1 - 1 ≡ n = omega arith in
      rw (more, lt-ltb 1 (n + 1) two, back, some) refl
]

-- a map with the same entries
pub holds_unchanged : (kept new : HeldVersions) (ts : List OpenTicket) (graph_of : ℕ → Digraph) → IsUnchanged kept.tickets new.tickets → IsUnchanged kept.versions new.versions → Holds kept ts graph_of
    → Holds new ts graph_of
holds_unchanged kept new ts graph_of tickets versions holds = record {
  tickets = λ q. rw (tickets) (holds.tickets q);
  count = ap length tickets ∙ holds.count;
  versions = λ k. rw (versions) (holds.versions k);
}

-- the versions that are held have the same graphs
pub holds_graphs : (kept : HeldVersions) (ts : List OpenTicket) (f g : ℕ → Digraph) → ((k : ℕ) → (holder_count ts k ≡ 0 → ⊥) → f k ≡ g k) → Holds kept ts f → Holds kept ts g
holds_graphs kept ts f g same holds = record {
  tickets = holds.tickets;
  count = holds.count;
  versions = λ k. elim (cases_Bool (holder_count ts k == 0)) [
    | inl none ↦ holds.versions k ∙ rw (none) refl
    | inr some ↦ holds.versions k ∙ ap (held_by (holder_count ts k)) (same k (eqb-false (holder_count ts k) 0 some))
  ];
}

pub holds_opened : (kept new : HeldVersions) (ts : List OpenTicket) (graph_of : ℕ → Digraph) (x : OpenTicket) → ticket_version ts x.number ≡ None
    → ((q : ℕ) → get nat_eq new.tickets q ≡ (if x.number == q then Some x.version else get nat_eq kept.tickets q))
    → index_map_len new.tickets ≡ index_map_len kept.tickets + 1
    → ((q : ℕ) → get nat_eq new.versions q ≡ (if x.version == q then Some (one_more (graph_of x.version) (get nat_eq kept.versions x.version)) else get nat_eq kept.versions q))
    → Holds kept ts graph_of → Holds new (ts ++ x ∷ []) graph_of
holds_opened kept new ts graph_of x none tickets count versions holds = record {
  tickets = λ q. tickets q ∙ ap (λ (o : Option ℕ). if x.number == q then Some x.version else o) (holds.tickets q) ∙ sym (ticket_version-push ts x none q);
  count = omega (arith, count, holds.count, length-append ts (x ∷ []));
  versions = λ k.
      let counted = holder_count-push ts x k in
      elim (cases_Bool (x.version == k)) [
        | inl here ↦
            let is : x.version ≡ k = eqb-true x.version k here in
            let more : holder_count (ts ++ x ∷ []) k ≡ holder_count ts k + 1 = rw (here) at counted in
            let was : get nat_eq kept.versions x.version ≡ held_by (holder_count ts k) (graph_of k) = ap (get nat_eq kept.versions) is ∙ holds.versions k in
            let now : get nat_eq new.versions k ≡ Some (one_more (graph_of x.version) (get nat_eq kept.versions x.version)) = rw (here) at (versions k) in
            now ∙ ap (λ (g : Digraph). Some (one_more g (get nat_eq kept.versions x.version))) (ap graph_of is) ∙ ap (λ (o : Option HeldVersion). Some (one_more (graph_of k) o)) was
            ∙ held_by-more (holder_count ts k) (graph_of k) ∙ ap (λ n. held_by n (graph_of k)) (sym more)
        | inr other ↦
            let same : holder_count (ts ++ x ∷ []) k ≡ holder_count ts k + 0 = rw (other) at counted in
            let as_before : holder_count (ts ++ x ∷ []) k ≡ holder_count ts k = omega (arith, same) in
            let now : get nat_eq new.versions k ≡ get nat_eq kept.versions k = rw (other) at (versions k) in
            now ∙ holds.versions k ∙ ap (λ n. held_by n (graph_of k)) (sym as_before)
      ];
}

pub holds_closed : (kept new : HeldVersions) (ts : List OpenTicket) (graph_of : ℕ → Digraph) (number version : ℕ) → AreDistinct ts → ticket_version ts number ≡ Some version
    → ((q : ℕ) → get nat_eq new.tickets q ≡ (if number == q then None else get nat_eq kept.tickets q))
    → index_map_len new.tickets + 1 ≡ index_map_len kept.tickets
    → ((q : ℕ) → get nat_eq new.versions q ≡ (if version == q then one_fewer (get nat_eq kept.versions version) else get nat_eq kept.versions q))
    → Holds kept ts graph_of → Holds new (others number ts) graph_of
holds_closed kept new ts graph_of number version distinct is_open tickets count versions holds = record {
  tickets = λ q. tickets q ∙ ap (λ (o : Option ℕ). if number == q then None else o) (holds.tickets q) ∙ sym (ticket_version-others ts number q);
  count = omega (arith, count, holds.count, length-others ts number version distinct is_open);
  versions = λ k.
      let counted = holder_count-others ts number version k distinct is_open in
      elim (cases_Bool (version == k)) [
        | inl here ↦
            let is : version ≡ k = eqb-true version k here in
            let fewer : holder_count (others number ts) k + 1 ≡ holder_count ts k = rw (here) at counted in
            let was : get nat_eq kept.versions version ≡ held_by (holder_count (others number ts) k + 1) (graph_of k) = ap (get nat_eq kept.versions) is ∙ holds.versions k
            ∙ ap (λ n. held_by n (graph_of k)) (sym fewer) in
            let now : get nat_eq new.versions k ≡ one_fewer (get nat_eq kept.versions version) = rw (here) at (versions k) in
            now ∙ ap one_fewer was ∙ held_by-fewer (holder_count (others number ts) k) (graph_of k)
        | inr other ↦
            let same : holder_count (others number ts) k + 0 ≡ holder_count ts k = rw (other) at counted in
            let as_before : holder_count (others number ts) k ≡ holder_count ts k = omega (arith, same) in
            let now : get nat_eq new.versions k ≡ get nat_eq kept.versions k = rw (other) at (versions k) in
            now ∙ holds.versions k ∙ ap (λ n. held_by n (graph_of k)) (sym as_before)
      ];
}

-- what a version's holders say of it
pub held_is_made : (s : State) → AreTickets s → (k : ℕ) → (holder_count s.open_tickets k ≡ 0 → ⊥) → k ≤ newest_number s
held_is_made s tickets k held = elim (cases_lt (newest_number s) k) [ inl past ↦ absurd (held (tickets.made k past)) | inr made ↦ made ]

-- so was the version of an open ticket
pub open_is_made : (s : State) → AreTickets s → (number : ℕ) (version : Option ℕ) → version ≡ ticket_version s.open_tickets number → IfSome version (λ k. k ≤ newest_number s)
open_is_made s tickets number None is = tt
open_is_made s tickets number (Some k) is = held_is_made s tickets k (ticket_holds s.open_tickets number k (sym is))

pub kept_is_made : (s : State) → AreTickets s → (k : ℕ) → is_kept s k ≡ true → k ≤ newest_number s
kept_is_made s tickets k kept = elim (cases_eq k (newest_number s)) [
  | inl newest ↦ omega arith
  | inr older ↦
      let not_newest : k == newest_number s ≡ false = ne_eqb k (newest_number s) older in
      let held : list_any (λ t. t.version == k) s.open_tickets ≡ true = rw (not_newest) at kept in
      let some : holder_count s.open_tickets k == 0 ≡ false = not-true (holder_count s.open_tickets k == 0) (sym (is_held_is s.open_tickets k) ∙ held) in
      held_is_made s tickets k (eqb-false (holder_count s.open_tickets k) 0 some)
]

module _ (s : State) (tickets : AreTickets s) where
  pub tickets_committed : (batch : List Entry) (used steps : ℕ) → AreTickets (record s { batches = s.batches ++ batch ∷ []; used = used; steps = steps })
  tickets_committed batch used steps = record {
    distinct = tickets.distinct;
    given = tickets.given;
    made = λ k past. tickets.made k (omega (arith, past, length-append s.batches (batch ∷ [])));
  }

  pub holds_committed : (kept : HeldVersions) (batch : List Entry) (used steps : ℕ) → Holds kept s.open_tickets (version_graph s)
      → Holds kept s.open_tickets (version_graph (record s { batches = s.batches ++ batch ∷ []; used = used; steps = steps }))
  holds_committed kept batch used steps =
      holds_graphs kept s.open_tickets (version_graph s) (version_graph (record s { batches = s.batches ++ batch ∷ []; used = used; steps = steps }))
      (λ k held. ap (graph_through s.opening) (sym (take-append-le k s.batches (batch ∷ []) (held_is_made s tickets k held))))

  pub tickets_opened : (version used steps : ℕ) → version ≤ newest_number s → AreTickets
      (record s { open_tickets = s.open_tickets ++ record { number = s.given + 1; version = version } ∷ []; given = s.given + 1; used = used; steps = steps })
  tickets_opened version used steps made =
      let x : OpenTicket = record { number = s.given + 1; version = version } in
      let new : ticket_version s.open_tickets (s.given + 1) ≡ None = tickets.given (s.given + 1) (omega arith) in
      record {
        distinct = AreDistinct-push s.open_tickets x tickets.distinct new;
        given = λ number past.
            let apart : s.given + 1 == number ≡ false = ne_eqb (s.given + 1) number (λ e. absurd (omega arith)) in
            ticket_version-push s.open_tickets x new number ∙ rw (apart) (tickets.given number (omega (arith, past)));
        made = λ k past.
            let apart : version == k ≡ false = ne_eqb version k (λ e. absurd (omega arith)) in
            holder_count-push s.open_tickets x k ∙ rw (apart) (omega (arith, tickets.made k past));
      }

  pub tickets_closed : (number version used steps : ℕ) → ticket_version s.open_tickets number ≡ Some version
      → AreTickets (record s { open_tickets = others number s.open_tickets; used = used; steps = steps })
  tickets_closed number version used steps is_open = record {
    distinct = AreDistinct-others s.open_tickets number tickets.distinct;
    given = λ n past. ticket_version-others s.open_tickets number n ∙ elim (cases_Bool (number == n)) [ inl is ↦ rw (is) refl | inr other ↦ rw (other) (tickets.given n past) ];
    made = λ k past. omega (arith, tickets.made k past, holder_count-others s.open_tickets number version k tickets.distinct is_open);
  }

-- how the graphs of tickets and of kept versions are found
graph_held : (n : ℕ) (g : Digraph) → (n ≡ 0 → ⊥) → option_map (λ (held : HeldVersion). held.graph) (held_by n g) ≡ Some g
graph_held n g some = let is : n == 0 ≡ false = ne_eqb n 0 some in rw (is) refl

module _ (s : State) (kept : HeldVersions) (holds : Holds kept s.open_tickets (version_graph s)) where
  pub graph_of_ticket : (number version : ℕ) → get nat_eq kept.tickets number ≡ Some version
      → option_map (λ (held : HeldVersion). held.graph) (get nat_eq kept.versions version) ≡ ticket_graph s number
  graph_of_ticket number version is =
      let open_ticket : ticket_version s.open_tickets number ≡ Some version = sym (holds.tickets number) ∙ is in
      ap (option_map (λ (held : HeldVersion). held.graph)) (holds.versions version)
      ∙ graph_held (holder_count s.open_tickets version) (version_graph s version) (ticket_holds s.open_tickets number version open_ticket)
      ∙ sym (ap (option_map (version_graph s)) open_ticket)

  pub graph_of_held : (k : ℕ) → (k ≡ newest_number s → ⊥) → option_map (λ (held : HeldVersion). held.graph) (get nat_eq kept.versions k) ≡ kept_graph s k
  graph_of_held k older =
      let not_newest : k == newest_number s ≡ false = ne_eqb k (newest_number s) older in
      let held : list_any (λ t. t.version == k) s.open_tickets ≡ not (holder_count s.open_tickets k == 0) = is_held_is s.open_tickets k in
      elim (cases_Bool (holder_count s.open_tickets k == 0)) [
        | inl none ↦ ap (option_map (λ (held : HeldVersion). held.graph)) (holds.versions k) ∙ rw (none, not_newest, held, none) refl
        | inr some ↦ ap (option_map (λ (held : HeldVersion). held.graph)) (holds.versions k) ∙ rw (some, not_newest, held, some) refl
      ]

  pub few_holders : (k limit : ℕ) → length s.open_tickets < limit → (held : HeldVersion) → get nat_eq kept.versions k ≡ Some held → held.holders < limit
  few_holders k limit few held is =
      let same : held_by (holder_count s.open_tickets k) (version_graph s k) ≡ Some held = sym (holds.versions k) ∙ is in
      elim (cases_Bool (holder_count s.open_tickets k == 0)) [
        | inl none ↦ let no : None ≡ Some held = rw (none) at same in cc
        | inr some ↦
            let one : Some (record { graph = version_graph s k; holders = holder_count s.open_tickets k }) ≡ Some held = rw (some) at same in
            let count : holder_count s.open_tickets k ≡ held.holders = ap (λ (o : Option HeldVersion). option_map_or (λ (h : HeldVersion). h.holders) o 0) one in
            omega (arith, count, holder_count-le-length s.open_tickets k)
      ]

-- a version whose graph is found is kept
pub kept_from_graph : (s : State) (k : ℕ) (g : Digraph) → Some g ≡ kept_graph s k → (is_kept s k ≡ true) × (version_graph s k ≡ g)
kept_from_graph s k g is = elim (cases_Bool (is_kept s k)) [
  | inl kept ↦ let same : Some g ≡ Some (version_graph s k) = is ∙ rw (kept) refl in (kept, cc)
  | inr lost ↦ let no : Some g ≡ None = is ∙ rw (lost) refl in absurd cc
]

pub some_of : {A : Type 0} (o : Option A) → is_some o ≡ true → (x : A) × (o ≡ Some x)
some_of None is = absurd (false≢true is)
some_of (Some x) is = (x, refl)
