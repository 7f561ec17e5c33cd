-- Beside `Sources`: definitions that no public contract cites.
use Rattle.std.specs.Prelude.{◌≡◌, ℕ, ◌<◌, length, Bool, List}
use Rattle.weighted_edges.specs.Edge.{Edge}
use Rattle.flat_snapshot.specs.Neighbours.{destinations_of}
use Rattle.kernels.specs.EdgeApply.{is_member}
use Rattle.edge_apply.specs.inside.Lists.{AscendsFrom}
use Rattle.push_engine.specs.Sources.{passing_in}

-- the sources of an apply ascend, and those that pass are the vertices with edges that its end lets through
pub record AreSources (edges : List Edge) (from : ℕ → Bool) (tested : Bool) (us : List ℕ) : Type 0 where
  pub ascending : AscendsFrom 0 us
  pub passing : (u : ℕ) → 0 < length (destinations_of u edges) → is_member u (passing_in tested from us) ≡ from u
