-- Proofs of `partition_sources`, src/listed.rt.
use Rattle.std.proofs.Common.{ℕ, length, ap, ◌∙◌}
use Rattle.std.proofs.lemmas.List.{length-map}
use Rattle.flat_snapshot.specs.Neighbours.{destinations_of}
use Rattle.push_engine.proofs.listed.partition_sources.Goals as goal

pub by_degrees-requires-clause-degrees : goal.by_degrees-requires-clause-degrees
by_degrees-requires-clause-degrees c edge_aware =
    let d = c.in_ok-degrees.degrees in
    length-map d.sources.now (λ (u : ℕ). length (destinations_of u d.flat.now.edges)) ∙ ap length c.in_ok-degrees.ensures.sources
