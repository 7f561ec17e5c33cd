-- Proofs of `differ`, src/differing_vertices.rt.
use Rattle.std.proofs.Common.{◌<◌, sym, ◌∙◌, arith}
use Rattle.follow_engine.proofs.Agreeing.{differs}
use Rattle.follow_engine.proofs.differing_vertices.differ.Goals as goal

pub returns-then-has_another_entry : goal.returns-then-has_another_entry
returns-then-has_another_entry c =
    let below : c.vectors.vector < c.args.count = omega arith in
    differs c.args.now.now.vectors c.args.was.now.vectors c.args.count c.args.vertex c.vectors.vector below
    (sym c.has_another_entry.ensures ∙ c.if-has_another_entry.true)
