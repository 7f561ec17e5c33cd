-- Proofs of `marked`, src/joins.rt.
use Rattle.std.proofs.lemmas.Result.{IfOk-weaker}
use Rattle.edge_fold.proofs.Findings.{never_falls}
use Rattle.edge_fold.proofs.accumulator.Accumulator.marked.Goals as goal

pub returns-clause-ascending : goal.returns-clause-ascending
returns-clause-ascending c =
    IfOk-weaker c.members.result _ _ (λ found told. never_falls found.items told)
    c.members.ensures.ascending
