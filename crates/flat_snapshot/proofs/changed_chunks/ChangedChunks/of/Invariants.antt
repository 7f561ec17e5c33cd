use Rattle.std.proofs.Common.{◌≡◌, ℕ, ◌/◌, ◌<◌, true, get_or}
use Rattle.tree_batch.specs.Edge.{Ends}
use Rattle.flat_snapshot.specs.inside.Chunks.{is_changed}
use Rattle.flat_snapshot.proofs.changed_chunks.ChangedChunks.of.Given as goal

abbrev pub invariant-loop-edge : goal.invariant-loop-edge
invariant-loop-edge l = record {
  outgoing : (j : ℕ) (d : Ends) → j < l.edge-index → is_changed l.outgoing.items ((get_or l.edges j d).0 / 4096) ≡ true;
  incoming : (j : ℕ) (d : Ends) → j < l.edge-index → is_changed l.incoming.items ((get_or l.edges j d).1 / 4096) ≡ true;
}
