-- Proofs of `read_shown`, src/reader.rt.
use Rattle.left_right.specs.Sides.{view as view_of}
use Rattle.shared_graph.proofs.Publishing.{enters}
use Rattle.shared_graph.proofs.reader.read_shown.Goals as goal

pub enter_as-requires : goal.enter_as-requires
enter_as-requires g c = let p = c.args.reader.place in enters p.id (view_of p)
