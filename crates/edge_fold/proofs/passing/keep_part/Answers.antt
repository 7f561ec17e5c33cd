-- Proofs of `keep_part`, src/passing.rt.
use Rattle.std.proofs.Common.{sym, ◌∙◌}
use Rattle.edge_fold.proofs.passing.keep_part.Goals as goal

pub returns : goal.returns
returns c m test vectors sizes is =
    c.in_ok-keep_all_where.ensures test (λ i l. c.run.ensures.passes is.steps m is.of (record { vectors = vectors; sizes = sizes }) i l ∙ sym (is.result _))
