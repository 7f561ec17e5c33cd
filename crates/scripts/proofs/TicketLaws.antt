-- The version that a command is about.
use Rattle.std.proofs.Common.{◌≡◌, ℕ, Bor, Option, Some, None, sym, ap, ◌∙◌, arith}
use Rattle.std.specs.Option.{option_map, IfSome, MatchOption}
use Rattle.std.proofs.lemmas.Bool.{eq-eqb, or_left}
use Rattle.tree_batch.specs.Digraph.{Digraph}
use Rattle.version_list.specs.Machine.{State, newest_number, version_graph, ticket_version}
use Rattle.version_list.specs.Kept.{IsHeld}
use Rattle.version_flats.specs.VersionFlats.{IsKept}
use Rattle.scripts.specs.Replies.{graph_of}

-- the newest version is kept
pub newest_is_kept : (s : State) (k : ℕ) (g : Digraph) → k ≡ newest_number s → g ≡ version_graph s (newest_number s) → IsKept s k g
newest_is_kept s k g is graph = record { kept = or_left _ _ (eq-eqb k (newest_number s) is); made = omega (arith, is); graph = graph ∙ ap (version_graph s) (sym is) }

-- so is the one that a ticket holds
module _ (s : State) (number : ℕ) where
  pub graph_found : (found : Option (ℕ × Bor Digraph)) → MatchOption found (ticket_version s.open_tickets number ≡ None) (λ v. IsHeld s number v.0 v.1.now)
      → option_map (λ v. v.1.now) found ≡ graph_of s (Some number)
  graph_found None none = sym (ap (option_map (version_graph s)) none)
  graph_found (Some v) held = ap Some held.graph ∙ sym (ap (option_map (version_graph s)) held.ticket)

  pub kept_found : (found : Option (ℕ × Bor Digraph)) → MatchOption found (ticket_version s.open_tickets number ≡ None) (λ v. IsHeld s number v.0 v.1.now) → IfSome found (λ v. IsKept s v.0 v.1.now)
  kept_found None none = tt
  kept_found (Some v) held = record { kept = held.kept; made = held.made; graph = held.graph }
