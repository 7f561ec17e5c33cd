-- Proofs of the publisher that `publish_once` passes to `replace_with`, src/publisher.rt.
use Rattle.std.proofs.Common.{sym, subst}
use Rattle.left_right.specs.Sides.{view as view_of}
use Rattle.shared_graph.specs.inside.Publishing.{GoesOn}
use Rattle.shared_graph.proofs.Publishing.{publishes}
use Rattle.shared_graph.proofs.publisher.fn.publish_once.replace_with.Goals as goal

pub publish_as-requires : goal.publish_as-requires
publish_as-requires g c =
    let w = c.args.writer in
    λ next is. publishes w.desk.place.id (view_of w.desk.place) w.desk.shown.value next (subst (GoesOn w.desk.shown.value) (sym is) c.requires)
