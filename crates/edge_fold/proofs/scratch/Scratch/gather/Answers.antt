-- Proofs of `gather`, src/scratch.rt.
use Rattle.std.proofs.Common.{[], ◌++◌, take, drop, false, refl, ap, ◌∙◌}
use Rattle.edge_fold.specs.Folded.{waiting}
use Rattle.edge_fold.specs.Contributions.{weighted_entries, row}
use Rattle.edge_fold.proofs.Edges.{row_parts}
use Rattle.edge_fold.proofs.JoinedSlots.{folded_later}
use Rattle.edge_fold.proofs.Walks.{folded_along}
use Rattle.edge_fold.proofs.WeightColumns.{unit_parts}
use Rattle.edge_fold.proofs.scratch.Scratch.gather.Goals as goal

pub returns-then-destinations-room : goal.returns-then-destinations-room
returns-then-destinations-room c m steps edges are has x r by =
    folded_later c.args.context m steps edges (row c.args.source (weighted_entries c.args.destinations.now [])) c.args.self.now _ x r false c.requires.unweighted refl c.add.ensures.waiting
    (has x r by)

pub returns : goal.returns
returns c m steps edges are has =
    let now = c.args.self.now in
    let then = c.flush.new.self in
    let f = c.args.context in
    let s = c.args.source in
    let ds = c.args.destinations.now in
    let k = c.room-room.result in
    let plain = c.requires.unweighted in
    let front = weighted_entries (take k ds) [] in
    let back = weighted_entries (drop k ds) [] in
    let flushed = c.in_ok-flush.ensures.folded m steps (edges ++ row s front) are
    (λ y t own. folded_later f m steps edges (row s front) now _ y t false plain refl
    (c.add-2.ensures.waiting ∙ ap (λ us. waiting false now.pairs ++ row s (weighted_entries us [])) c.split_at.ensures.front) (has y t own)) in
    folded_along f m steps ((edges ++ row s front) ++ row s back) (edges ++ row s (weighted_entries ds [])) _ (row_parts s front back (weighted_entries ds []) edges (unit_parts k ds))
    (λ x r by. folded_later f m steps (edges ++ row s front) (row s back) then _ x r false plain refl
    (c.add-3.ensures.waiting ∙ ap (λ us. waiting false then.pairs ++ row s (weighted_entries us [])) c.split_at.ensures.back) (flushed x r by))
