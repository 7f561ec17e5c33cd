-- The version that a ticket holds.
use Rattle.std.proofs.Common.{◌≡◌, ◌≢◌, ℕ, ◌+◌, ◌==◌, ◌||◌, Bool, false, not, if◌then◌else◌, Some, is_some, sym, ap, ◌∙◌, arith}
use Rattle.std.specs.Option.{option_map, unwrap_or}
use Rattle.std.proofs.lemmas.Bool.{ne_eqb, or_right}
use Rattle.tree_batch.specs.Digraph.{Digraph}
use Rattle.version_list.specs.declared.step.Step.TheVariants.{Release}
use Rattle.version_list.specs.declared.step.Reply.TheVariants.{Released, Refused}
use Rattle.version_list.specs.Machine.{State, newest_number, version_graph, is_kept, ticket_version, ticket_graph, changed, state_after}
use Rattle.version_list.specs.inside.Held.{holder_count, AreTickets}
use Rattle.version_list.specs.Kept.{IsHeld}
use Rattle.version_list.proofs.Holding.{others, is_open_is, is_held_is, holder_count-others, ticket_holds}
use Rattle.version_list.proofs.Keeping.{held_is_made}

module _ (s : State) (tickets : AreTickets s) (number k : ℕ) (is : ticket_version s.open_tickets number ≡ Some k) where
  -- the state after the ticket's release
  released : state_after s (Release number) ≡ record s { open_tickets = others number s.open_tickets; used = s.used + 1; steps = s.steps + 1 }
  released = ap (λ (b : Bool). changed s (Release number) (if b then Released else Refused 122)) (is_open_is s.open_tickets number ∙ ap is_some is)

  -- the others have as many holders as before
  as_many : (other : ℕ) → other ≢ k → holder_count (others number s.open_tickets) other ≡ holder_count s.open_tickets other
  as_many other apart =
      let unlike : k == other ≡ false = ne_eqb k other (λ e. apart (sym e)) in
      let counted : holder_count (others number s.open_tickets) other + 0 ≡ holder_count s.open_tickets other =
      rw (unlike) at (holder_count-others s.open_tickets number k other tickets.distinct is) in
      omega (arith, counted)

  pub held_is : (g : Digraph) → Some g ≡ ticket_graph s number → IsHeld s number k g
  held_is g found =
      let some = ticket_holds s.open_tickets number k is in
      record {
        ticket = is;
        graph = ap (λ o. unwrap_or o g) (found ∙ ap (option_map (version_graph s)) is);
        made = held_is_made s tickets k some;
        kept = or_right _ _ (is_held_is s.open_tickets k ∙ ap not (ne_eqb (holder_count s.open_tickets k) 0 some));
        alone = λ other apart.
            ap (λ (t : State). is_kept t other) released
            ∙ ap (λ b. (other == newest_number s) || b) (is_held_is (others number s.open_tickets) other ∙ ap (λ n. not (n == 0)) (as_many other apart) ∙ sym (is_held_is s.open_tickets other));
      }
