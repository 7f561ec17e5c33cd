-- Proofs of `fold_pair_into`, src/statements.rt.
use Rattle.std.proofs.Common.{refl}
use Rattle.edge_fold.specs.Contributions.{weighted_entries}
use Rattle.edge_fold.proofs.ShapePairs.{folded_pair_into}
use Rattle.edge_fold.proofs.scratch.Scratch.fold_pair_into.Goals as goal

pub returns-clause-folded : goal.returns-clause-folded
returns-clause-folded c done m steps edges are has =
    let es = weighted_entries c.args.sources.now c.args.weights.now in
    folded_pair_into c.args.context m steps c.in-Some.pair c.args.destination es edges c.args.self.now _ c.join_number.new.self refl (c.in-Some.ensures m steps are)
    c.in_ok-join_number.ensures c.in_ok-join_number-2.ensures has
