-- Held versions: which version a ticket holds, its graph, that it is kept, and that the release of the ticket lets no other go.
use Rattle.std.specs.Prelude.{◌≡◌, ◌≢◌, ℕ, ◌≤◌, true, Some}
use Rattle.tree_batch.specs.Digraph.{Digraph}
use Rattle.version_list.specs.declared.step.Step.TheVariants.{Release}
use Rattle.version_list.specs.Machine.{State, newest_number, version_graph, is_kept, ticket_version, state_after}

-- the ticket of this number holds version k, whose graph is g; the version is kept, and the ticket's release lets no other go
pub record IsHeld (s : State) (number k : ℕ) (g : Digraph) : Type 0 where
  pub ticket : ticket_version s.open_tickets number ≡ Some k
  pub graph : g ≡ version_graph s k
  pub made : k ≤ newest_number s
  pub kept : is_kept s k ≡ true
  pub alone : (other : ℕ) → other ≢ k → is_kept (state_after s (Release number)) other ≡ is_kept s other
