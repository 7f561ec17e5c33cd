-- Proofs of `append`, src/publisher.rt.
use Rattle.std.proofs.Common.{◌∙◌, drop, fold, ap}
use Rattle.shared_graph.specs.inside.Publishing.{latest}
use Rattle.shared_graph.proofs.Publishing.{last_pending}
use Rattle.shared_graph.proofs.publisher.append.Goals as goal

pub returns-in-Ok-clause-last : goal.returns-in-Ok-clause-last
returns-in-Ok-clause-last g c =
    let w = c.append.new.self in
    let before = drop c.loop.writer.behind c.loop.writer.log.items in
    ap (fold latest w.desk.shown.value) c.in-Ok.ensures.pending ∙ last_pending w.desk.shown.value c.loop.next before ∙ c.loop.invariant.value
