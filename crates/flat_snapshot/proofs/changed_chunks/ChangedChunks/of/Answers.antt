-- Proofs of `of`, src/changed_chunks.rt.
use Rattle.std.proofs.Common.{◌≡◌, ◌/◌, true, arith}
use Rattle.flat_snapshot.specs.inside.Chunks.{is_changed}
use Rattle.flat_snapshot.proofs.Following.{of_listed}
use Rattle.flat_snapshot.proofs.changed_chunks.ChangedChunks.of.Goals as goal

pub returns-clause-outgoing : goal.returns-clause-outgoing
returns-clause-outgoing c =
    of_listed (λ u v. is_changed c.loop-edge.outgoing.items (u / 4096) ≡ true) c.args.edges.now (0, 0)
    (λ j lt. c.loop-edge.invariant.outgoing j (0, 0) (omega (arith, lt, c.loop-edge-test.false)))

pub returns-clause-incoming : goal.returns-clause-incoming
returns-clause-incoming c =
    of_listed (λ u v. is_changed c.loop-edge.incoming.items (v / 4096) ≡ true) c.args.edges.now (0, 0)
    (λ j lt. c.loop-edge.invariant.incoming j (0, 0) (omega (arith, lt, c.loop-edge-test.false)))
