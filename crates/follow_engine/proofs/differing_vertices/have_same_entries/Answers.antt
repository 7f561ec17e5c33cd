-- Proofs of `have_same_entries`, src/differing_vertices.rt.
use Rattle.std.proofs.Common.{not, ap, sym, ◌∙◌}
use Rattle.algorithm_meaning.specs.Arithmetic.{int_equal}
use Rattle.algorithm_meaning.specs.Value.{entry}
use Rattle.edge_fold.proofs.ChangedRows.{equal_itself}
use Rattle.follow_engine.proofs.Agreeing.{none_more}
use Rattle.follow_engine.proofs.differing_vertices.have_same_entries.Goals as goal

pub vectors-preserved : goal.vectors-preserved
vectors-preserved c v =
    let own = entry c.args.now.now.vectors c.vectors.vector v in
    none_more c.args.now.now.vectors c.args.was.now.vectors c.vectors.vector v (c.vectors.invariant v)
    (ap not (ap (int_equal own) (sym (c.has_same_entries.ensures c.if-not-has_same_entries.false v)) ∙ equal_itself own))
