-- Proofs of `vectors_agree_where_none_differs`, src/differing_vertices.rt.
use Rattle.follow_engine.proofs.Agreeing.{agree}
use Rattle.follow_engine.proofs.differing_vertices.vectors_agree_where_none_differs.Goals as goal

pub returns : goal.returns
returns c = agree
