-- Tables of open tickets and of the versions that they hold: what they keep, and what one holder more or fewer makes of a version.
use Rattle.std.specs.Prelude.{◌≡◌, ℕ, ◌+◌, ◌-◌, ◌<◌, ◌==◌, nat_eq, nat_lt, if◌then◌else◌, List, [], ◌∷◌, length, Option, Some, None}
use Rattle.indexmap.specs.IndexMap.{get, index_map_len, spare}
use Rattle.tree_batch.specs.Digraph.{Digraph}
use Rattle.version_list.specs.declared.held.HeldVersion.{HeldVersion}
use Rattle.version_list.specs.declared.held.HeldVersions.{HeldVersions}
use Rattle.version_list.specs.Machine.{OpenTicket, State, ticket_version, newest_number}

-- how many open tickets hold version k
abbrev pub holder_count : List OpenTicket → ℕ → ℕ
holder_count [] k = 0
holder_count (t ∷ ts) k = (if t.version == k then 1 else 0) + holder_count ts k

-- a version with this graph, held by one more ticket
abbrev pub one_more : Digraph → Option HeldVersion → HeldVersion
one_more g None = record { graph = g; holders = 1 }
one_more g (Some held) = record { graph = held.graph; holders = held.holders + 1 }

-- a version held by one ticket fewer; None where no other holds it
abbrev pub one_fewer : Option HeldVersion → Option HeldVersion
one_fewer None = None
one_fewer (Some held) = if nat_lt 1 held.holders then Some (record { graph = held.graph; holders = held.holders - 1 }) else None

-- a version with this graph that n tickets hold; None where n is 0
abbrev pub held_by : ℕ → Digraph → Option HeldVersion
held_by n g = if n == 0 then None else Some (record { graph = g; holders = n })

-- each of the open tickets is kept, and each version that they hold with its graph and the count of its holders; no other is
pub record Holds (held : HeldVersions) (open_tickets : List OpenTicket) (graph_of : ℕ → Digraph) : Type 0 where
  pub tickets : (number : ℕ) → get nat_eq held.tickets number ≡ ticket_version open_tickets number
  pub count : index_map_len held.tickets ≡ length open_tickets
  pub versions : (k : ℕ) → get nat_eq held.versions k ≡ held_by (holder_count open_tickets k) (graph_of k)

-- there is room for one more ticket and one more version
abbrev pub HasRoom : HeldVersions → Type 0
HasRoom held = (0 < spare held.tickets) × (0 < spare held.versions)

-- no two tickets have one number
abbrev pub AreDistinct : List OpenTicket → Type 0
AreDistinct [] = Unit {0}
AreDistinct (t ∷ ts) = (ticket_version ts t.number ≡ None) × AreDistinct ts

-- the open tickets are distinct, have numbers that were given, and hold versions that were made
pub record AreTickets (s : State) : Type 0 where
  pub distinct : AreDistinct s.open_tickets
  pub given : (number : ℕ) → s.given < number → ticket_version s.open_tickets number ≡ None
  pub made : (k : ℕ) → newest_number s < k → holder_count s.open_tickets k ≡ 0
