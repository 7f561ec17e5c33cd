-- Beside `Entry`: definitions that no public contract cites.
use Rattle.std.specs.Prelude.{ℕ, MatchOption, ◌≡◌, ℤ, Option, Some, None, List}
use Rattle.weighted_edges.specs.Edge.{Edge}
use Rattle.edge_updates.specs.declared.edge_update.EdgeUpdate.{EdgeUpdate}
use Rattle.edge_updates.specs.EdgeUpdate.{vertex_of, neighbour_of}
use Rattle.edge_updates.specs.Updates.{weight_said}
use Rattle.tree_batch.specs.declared.batch.Entry.{Entry}
use Rattle.tree_batch.specs.Edge.{IsWithin, Ends, weight_in, IsAscending, named_by, made_by, weight_after}

-- the ends that an entry names, if it names some, are below n
abbrev pub NamesWithin : ℕ → Entry → Type 0
NamesWithin n x = MatchOption (named_by x) (Unit {0}) (IsWithin n)

-- an entry as an update of its edge with a weight, where it names one
abbrev pub IsUpdateOf : Entry → Option (EdgeUpdate × ℤ) → Type 0
IsUpdateOf x None = named_by x ≡ None
IsUpdateOf x (Some u) = (named_by x ≡ Some (vertex_of u.0, neighbour_of u.0)) × (weight_said u ≡ made_by x)

-- new is the edges after the batch, in order
pub record AreEdgesAfter (edges : List Edge) (batch : List Entry) (new : List Edge) : Type 0 where
  pub ascending : IsAscending new
  pub weights : (p : Ends) → weight_in p new ≡ weight_after edges batch p
