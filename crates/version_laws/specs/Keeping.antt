-- What a ticket keeps, and the entries of a history that give it and give it back.
use Rattle.std.specs.Prelude.{◌≡◌, ◌≢◌, ℕ, Some, List, map}
use Rattle.std.specs.List.{AllByRecursion}
use Rattle.tree_batch.specs.Digraph.{Digraph}
use Rattle.version_list.specs.declared.step.Done.{Done}
use Rattle.version_list.specs.declared.step.Step.{Step}
use Rattle.version_list.specs.declared.step.Which.{Which}
use Rattle.version_list.specs.declared.step.Step.TheVariants.{Acquire, Release}
use Rattle.version_list.specs.declared.step.Reply.TheVariants.{Ticket, Released}
use Rattle.version_list.specs.Machine.{State, kept_graph, ticket_graph, ticket_version}
use Rattle.version_list.specs.Timeline.{advanced_through, beginning}

-- the ticket of this number is open on version k, which is kept and has this graph
pub record Keeps (s : State) (number k : ℕ) (g : Digraph) : Type 0 where
  pub version : ticket_version s.open_tickets number ≡ Some k
  pub graph : ticket_graph s number ≡ Some g
  pub kept : kept_graph s k ≡ Some g

-- a hold that was answered with the ticket of this number, on version k
abbrev pub ticket_given : Which → (number k : ℕ) → Done
ticket_given asked number k = record { step = Acquire asked; reply = Ticket number k }

-- the ticket of this number was given back
abbrev pub release_of : ℕ → Done
release_of number = record { step = Release number; reply = Released }

-- no step gives the ticket of this number back
abbrev pub HasNoReleaseOf : ℕ → List Step → Type 0
HasNoReleaseOf number steps = AllByRecursion (λ step. step ≢ Release number) steps

-- the steps of a history
abbrev pub steps_in : List Done → List Step
steps_in history = map (λ done. done.step) history

-- the state after steps, those that were refused among them
abbrev pub state_through : State → List Step → State
state_through s steps = (advanced_through (beginning s) steps).state
