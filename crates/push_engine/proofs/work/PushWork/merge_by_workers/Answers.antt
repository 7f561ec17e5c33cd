-- Proofs of `merge_by_workers`, src/pieces.rt.
use Rattle.std.proofs.Common.{◌∙◌}
use Rattle.std.proofs.lemmas.Result.{IfOk-weaker}
use Rattle.crew.specs.Pieces.{pieces_of}
use Rattle.edge_fold.specs.Between.{edges_between}
use Rattle.edge_fold.specs.Contributions.{all_given}
use Rattle.std.specs.List.{flat_map}
use Rattle.edge_apply.proofs.Told.{changed_by_alike}
use Rattle.push_engine.specs.Pieces.{edges_of_piece}
use Rattle.push_engine.proofs.Answered.{each_ascends, each_gathered}
use Rattle.push_engine.proofs.Merging.{merged_alike}
use Rattle.push_engine.proofs.work.PushWork.merge_by_workers.Goals as goal

pub returns-then-is_worth_workers-clause-changes : goal.returns-then-is_worth_workers-clause-changes
returns-then-is_worth_workers-clause-changes g c =
    let w = c.args.self.now in
    let fs = c.args.found.now in
    let n = w.apply.flat.now.vertices in
    let edges = w.apply.flat.now.edges in
    IfOk-weaker c.merge_by_ranges.result _ _
    (λ cs changed answers order m steps from to vectors sizes kernels is_from is_to x r by long.
    let edges_of = edges_of_piece w from to in
    changed m steps edges_of vectors sizes kernels (each_ascends w fs answers) (each_gathered w fs m steps from to answers vectors sizes kernels is_from is_to) x r by long
    ∙ changed_by_alike n x r m steps (flat_map edges_of (pieces_of fs)) (edges_between from to edges) by long
    (λ v k. merged_alike r x v (all_given m steps) edges w.tested from to w.partition w.sources.items (pieces_of fs) w.whole (w.passing m from vectors sizes is_from) order k))
    c.merge_by_ranges.ensures.changes
