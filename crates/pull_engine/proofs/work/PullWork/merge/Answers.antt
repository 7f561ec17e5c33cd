-- Proofs of `merge`, src/pieces.rt.
use Rattle.std.proofs.Common.{ℕ, sym, ap, ◌∙◌, subst}
use Rattle.std.specs.List.{flat_map, range_with_len}
use Rattle.std.specs.List.Sorted.{IsPermutation}
use Rattle.std.proofs.lemmas.Result.{IfOk-weaker}
use Rattle.crew.specs.Pieces.{pieces_of}
use Rattle.kernels.specs.Value.{entry}
use Rattle.edge_fold.specs.Between.{edges_between}
use Rattle.edge_fold.specs.Contributions.{all_given}
use Rattle.pull_engine.specs.Ranges.{entry_after}
use Rattle.pull_engine.proofs.Merging.{gathers_pieces, pulled_parts}
use Rattle.pull_engine.proofs.Shaped.{shape_gives_only, whole_changes}
use Rattle.edge_apply.proofs.Told.{told_in_piece, told_in_pieces}
use Rattle.pull_engine.proofs.work.PullWork.merge.Goals as goal

pub returns-in_ok-changes-in-Some-clause-changes : goal.returns-in_ok-changes-in-Some-clause-changes
returns-in_ok-changes-in-Some-clause-changes c =
    let w = c.args.self.now in
    let fs = c.args.found.now in
    let y = c.in-Some.target.vector in
    let at = c.in-Some.ensures.some in
    let n = w.apply.flat.now.vertices in
    let count = c.pieces.ensures in
    IfOk-weaker c.changes_in.result _ _
    (λ cs each answers order m steps from to vectors sizes kernels is_from is_to.
    let es = edges_between from to w.apply.flat.now.edges in
    whole_changes y n es m steps c.in_ok-changes-in-Some.changes.items cs.vectors.items each
    (λ e. shape_gives_only w.shape y m e (all_given m steps e) at (w.shaped m w.apply.sizes.now steps sizes kernels e))
    (λ r by.
    let old = entry m.vectors y in
    let new = entry_after m steps y r es in
    c.in_ok-changes-in-Some.ensures (told_in_piece old new w.partition)
    (subst (λ (l : ℕ). IsPermutation (pieces_of fs) (range_with_len 1 l)) (sym count) order)
    (pulled_parts w fs y at answers m steps from to vectors sizes kernels is_from is_to r by)
    ∙ ap (λ (l : ℕ). flat_map (told_in_piece old new w.partition) (range_with_len 1 l)) count
    ∙ told_in_pieces old new w.partition n w.whole))
    c.changes_in.ensures.changes

pub returns-in-None-clause-changes : goal.returns-in-None-clause-changes
returns-in-None-clause-changes c =
    IfOk-weaker c.merge_gathered.result _ _
    (λ cs changes answers. changes (gathers_pieces c.args.self.now c.args.found.now c.in-None.ensures.none answers))
    c.merge_gathered.ensures.changes
