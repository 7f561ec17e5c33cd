-- Proofs of `merge_by_ranges`, src/merging.rt.
use denote.Param.Send.{sendable}
use Rattle.std.proofs.Crossing.{crosses}
use Rattle.std.proofs.Common.{ℕ, ap, ◌∙◌, subst}
use Rattle.std.proofs.lemmas.Result.{IfOk-weaker}
use Rattle.std.specs.List.{flat_map, range_with_len}
use Rattle.kernels.specs.Value.{entry}
use Rattle.crew.specs.Partition.{AreEnds}
use Rattle.crew.specs.Pieces.{pieces_of}
use Rattle.edge_apply.specs.inside.Merged.{changes_in_parts}
use Rattle.edge_apply.proofs.PartChanges.{parts_in_order}
use Rattle.edge_apply.proofs.Crossing.{merge_sync}
use Rattle.edge_apply.proofs.Told.{told_in_piece, told_in_pieces}
use Rattle.kernels.specs.EdgeApply.{after_edges}
use Rattle.edge_apply.proofs.merging.merge_by_ranges.Goals as goal

pub run_pieces-requires-sync-W : goal.run_pieces-requires-sync-W
run_pieces-requires-sync-W g c κs within = search (sendable, crosses, merge_sync) depth 14

pub returns-clause-changes : goal.returns-clause-changes
returns-clause-changes g c =
    let n = c.args.apply.now.flat.now.vertices in
    let ranges = c.in_ok-ranges.ranges in
    let ends = subst (λ (k : ℕ). AreEnds 0 k ranges) c.vertices-vertices.ensures.count c.in_ok-ranges.ensures.whole in
    let found = c.in_ok-parts.ensures.found in
    IfOk-weaker c.append_changes.result _ _
    (λ cs told m steps edges_of vectors sizes kernels up each x r by long.
    let old = entry m.vectors x in
    let new = entry (after_edges steps m.sets m.vectors (flat_map edges_of (pieces_of c.args.found.now)) m.vectors) x in
    told x
    ∙ ap (changes_in_parts x) c.deref.ensures.value
    ∙ parts_in_order x c.pieces-pieces.result (told_in_piece old new ranges) c.in_ok-parts.parts.items found.0
    (λ j l. let at = found.1 j l in (at.0, at.1, at.3 m steps edges_of vectors sizes kernels up each x r by long))
    ∙ ap (λ (p : ℕ). flat_map (told_in_piece old new ranges) (range_with_len 1 p)) c.pieces-pieces.ensures
    ∙ told_in_pieces old new ranges n ends)
    c.append_changes.ensures.changes
