-- Proofs of `open`, src/published_log.rt.
use Rattle.shared_graph.proofs.Fresh.{with_last}
use Rattle.shared_graph.proofs.published_log.PublishedLog.open.Goals as goal

pub returns-clause-readers : goal.returns-clause-readers
returns-clause-readers g c = with_last c.args.readers c.in_ok-others.others.items c.new-last.result c.requires.readers.0 c.in_ok-others.ensures.fresh c.new-last.ensures
