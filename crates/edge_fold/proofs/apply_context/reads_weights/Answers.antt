-- Proofs of `reads_weights`, src/apply_context.rt.
use Rattle.std.proofs.Common.{List, sym, subst}
use Rattle.typed_tree.specs.FunctionStatementTree.{FunctionStatementsTree}
use Rattle.edge_fold.specs.Folded.{AreWeightless}
use Rattle.edge_fold.proofs.Edges.{one_function, two_functions}
use Rattle.edge_fold.proofs.apply_context.reads_weights.Goals as goal

pub returns-in-None-clause-weightless : goal.returns-in-None-clause-weightless
returns-in-None-clause-weightless c off m sizes steps has are =
    let one = one_function c.args.first.now c.args.second steps c.in-None.is are in
    let first = c.reads_weight.ensures.weightless off one.a m sizes one.kernel has in
    subst (λ (ss : List FunctionStatementsTree). AreWeightless m ss) (sym one.alone) (first, tt)

pub returns-else-reads_weight-clause-weightless : goal.returns-else-reads_weight-clause-weightless
returns-else-reads_weight-clause-weightless c off m sizes steps has are =
    let two = two_functions c.args.first.now c.args.second c.in-Some.second steps c.in-Some.is are in
    let first = c.reads_weight-in-Some.ensures.weightless c.if-reads_weight.false two.a m sizes two.kernel has in
    let other = c.reads_weight-else-reads_weight.ensures.weightless off two.b m sizes two.other has in
    subst (λ (ss : List FunctionStatementsTree). AreWeightless m ss) (sym two.both) (first, (other, tt))
