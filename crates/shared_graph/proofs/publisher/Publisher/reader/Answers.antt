-- Proofs of `reader`, src/publisher.rt.
use Rattle.left_right.specs.Sides.{view as view_of}
use Rattle.shared_graph.proofs.Publishing.{admits, forks, merges}
use Rattle.shared_graph.proofs.publisher.Publisher.reader.Goals as goal

pub reader-requires : goal.reader-requires
reader-requires g c = admits

pub tell-requires : goal.tell-requires
tell-requires g c = let p = c.self.inside.writer.desk.place in forks p.id (view_of p)

pub learn-requires-clause-rule : goal.learn-requires-clause-rule
learn-requires-clause-rule g c = let p = c.in_ok-reader.reader.place in merges p.id (view_of p) c.tell.result.id (view_of c.tell.result)
