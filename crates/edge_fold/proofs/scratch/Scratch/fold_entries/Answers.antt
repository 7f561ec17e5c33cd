-- Proofs of `fold_entries`, src/scratch.rt.
use Rattle.std.proofs.Common.{refl}
use Rattle.edge_fold.specs.Contributions.{all_given, row}
use Rattle.edge_fold.proofs.JoinedSlots.{folded_before}
use Rattle.edge_fold.proofs.ShapePairs.{joined_contribution, joined_weighed}
use Rattle.edge_fold.proofs.scratch.Scratch.fold_entries.Goals as goal

pub returns-in-Some-clause-folded : goal.returns-in-Some-clause-folded
returns-in-Some-clause-folded g c done m steps edges are has x r by =
    let now = c.args.self.now in
    let f = c.args.context in
    let es = g.E.NeighbourEntries.entries c.args.destinations.now in
    let source = c.args.source in
    folded_before f m steps edges (row source es) now _ x r refl
    (joined_contribution f x r now.slots c.join_number.new.self source c.in-Some.contribution (all_given m steps) es (c.in-Some.ensures m steps are) by (c.in_ok-join_number.ensures x r))
    (has x r by)

pub returns-in-Some-entry_contribution-clause-folded : goal.returns-in-Some-entry_contribution-clause-folded
returns-in-Some-entry_contribution-clause-folded g c done m steps edges are has x r by =
    let now = c.args.self.now in
    let f = c.args.context in
    let es = g.E.NeighbourEntries.entries c.args.destinations.now in
    let source = c.args.source in
    folded_before f m steps edges (row source es) now _ x r refl
    (joined_weighed f m x r now.slots c.join_weights.new.self source c.in-Some-entry_contribution.given (all_given m steps) es are.vectors (c.in-Some-entry_contribution.ensures m steps are) by
    (c.in_ok-join_weights.ensures x r))
    (has x r by)
