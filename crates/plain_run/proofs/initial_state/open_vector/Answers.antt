-- Proofs of `open_vector`, src/initial_state.rt.
use Rattle.plain_run.proofs.Degrees.{counted_zeros}
use Rattle.plain_run.proofs.initial_state.open_vector.Goals as goal

pub returns-in_ok-degrees-in-OutDegrees : goal.returns-in_ok-degrees-in-OutDegrees
returns-in_ok-degrees-in-OutDegrees c = rw (c.in-OutDegrees.is, c.new-in-OutDegrees.ensures, c.count_sources.ensures, c.in_ok-degrees-in-OutDegrees.ensures)
    (counted_zeros c.args.graph.now.edges.now c.args.graph.now.vertices)
