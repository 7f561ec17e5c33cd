-- Proofs of `block`, src/adjacency.rt.
use Rattle.flat_snapshot.specs.inside.Lists.{lists_in}
use Rattle.flat_snapshot.specs.inside.Chunks.{slots_in}
use Rattle.flat_snapshot.proofs.Numbered.{few_at}
use Rattle.flat_snapshot.proofs.adjacency.Adjacency.block.Goals as goal

pub returns-clause-few : goal.returns-clause-few
returns-clause-few c =
    let a = c.self.inside in
    rw (← c.self.view_is) (few_at c.args.vertex (lists_in 0 (slots_in a.chunks.items)) c.self.invariant.2)
