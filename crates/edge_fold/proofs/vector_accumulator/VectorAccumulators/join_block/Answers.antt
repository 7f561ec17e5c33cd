-- Proofs of `join_block`, src/vector_accumulators.rt.
use Rattle.std.proofs.Common.{rules, ℕ, ◌<◌, ◌++◌, [], length, take, ap, sym, ◌∙◌, subst}
use Rattle.kernels.specs.Columns.{registers_at}
use Rattle.kernels.specs.Meaning.{given_by}
use Rattle.kernels.specs.ContributionColumns.{contribution_at}
use Rattle.edge_fold.specs.Contributions.{IsBy, reduced_at}
use Rattle.edge_fold.specs.inside.Contributions.{given_from}
use Rattle.edge_fold.proofs.Folds.{given_in_rounds, given_same, nothing_given, reduced_at-append}
use Rattle.edge_fold.proofs.JoinedSlots.{joined_alike, joined_more, joined_nothing}
use Rattle.edge_fold.proofs.Rows.{one_contribution_more, all_contributions, one_of_contributions}
use Rattle.edge_fold.proofs.vector_accumulator.VectorAccumulators.join_block.Goals as goal

pub contributions-init : goal.contributions-init
contributions-init c = λ x r by.
    let self = c.args.self.now in
    joined_alike c.args.context x r self self [] _ (λ v n. sym (nothing_given r v x n 0 c.args.destinations.now)) (joined_nothing c.args.context x r self)

pub contributions-preserved : goal.contributions-preserved
contributions-preserved c = λ x r by.
    let f = c.args.context in
    let ds = c.args.destinations.now in
    let gives = c.args.kernel.now.gives.items in
    let numbers = c.args.block.now.numbers.items in
    let k = c.contributions.index in
    let before = λ (i : ℕ). given_by (take k gives) (registers_at numbers i) in
    let row = contribution_at c.contribution.result in
    let more = λ (i : ℕ). one_contribution_more gives k (registers_at numbers i) ∙ ap (λ gs. before i ++ gs) (sym (c.contribution.ensures.given i)) in
    let own = λ (i : ℕ) (l : i < length ds). subst (λ gs. IsBy r x gs) (sym (c.contribution.ensures.given i)) (one_of_contributions r x gives k (registers_at numbers i) (by i l)) in
    let then = c.join_contribution.new.self in
    let first = given_from x before 0 ds in
    let last = given_from x row 0 ds in
    joined_alike f x r c.args.self.now then (first ++ last) _
    (λ v n. reduced_at-append r v n first last ∙ sym (given_in_rounds r v x n before row 0 ds) ∙ ap (λ gs. reduced_at r v n gs) (sym (given_same x _ _ more 0 ds)))
    (joined_more f x r c.args.self.now c.contributions.self then first last (c.contributions.invariant x r by) (c.in_ok-join_contribution.ensures x r own))

pub returns : goal.returns
returns c x r by =
    let gives = c.args.kernel.now.gives.items in
    let numbers = c.args.block.now.numbers.items in
    let all = λ (i : ℕ). all_contributions gives c.contributions.index (registers_at numbers i) (search rules) in
    joined_alike c.args.context x r c.args.self.now c.contributions.self _ _ (λ v n. ap (λ gs. reduced_at r v n gs) (given_same x _ _ all 0 c.args.destinations.now)) (c.contributions.invariant x r by)
