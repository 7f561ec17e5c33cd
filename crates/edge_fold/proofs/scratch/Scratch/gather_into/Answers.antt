-- Proofs of `gather_into`, src/by_destination.rt.
use Rattle.std.proofs.Common.{[], ◌++◌, take, drop, false, refl, ap, ◌∙◌}
use Rattle.edge_fold.specs.Folded.{waiting}
use Rattle.edge_fold.specs.Contributions.{column, weighted_entries}
use Rattle.edge_fold.proofs.Columns.{column_parts}
use Rattle.edge_fold.proofs.JoinedSlots.{folded_later}
use Rattle.edge_fold.proofs.Walks.{folded_along}
use Rattle.edge_fold.proofs.WeightColumns.{unit_parts}
use Rattle.edge_fold.proofs.scratch.Scratch.gather_into.Goals as goal

pub returns-then-sources-room : goal.returns-then-sources-room
returns-then-sources-room c m steps edges are has x r by =
    folded_later c.args.context m steps edges (column c.args.destination (weighted_entries c.args.sources.now [])) c.args.self.now _ x r false c.requires.unweighted refl c.add_into.ensures.waiting
    (has x r by)

pub returns : goal.returns
returns c m steps edges are has =
    let now = c.args.self.now in
    let then = c.flush.new.self in
    let f = c.args.context in
    let d = c.args.destination in
    let ss = c.args.sources.now in
    let k = c.room-room.result in
    let plain = c.requires.unweighted in
    let front = weighted_entries (take k ss) [] in
    let back = weighted_entries (drop k ss) [] in
    let flushed = c.in_ok-flush.ensures.folded m steps (edges ++ column d front) are
    (λ y t own. folded_later f m steps edges (column d front) now _ y t false plain refl
    (c.add_into-2.ensures.waiting ∙ ap (λ us. waiting false now.pairs ++ column d (weighted_entries us [])) c.split_at.ensures.front) (has y t own)) in
    folded_along f m steps ((edges ++ column d front) ++ column d back) (edges ++ column d (weighted_entries ss [])) _ (column_parts d front back (weighted_entries ss []) edges (unit_parts k ss))
    (λ x r by. folded_later f m steps (edges ++ column d front) (column d back) then _ x r false plain refl
    (c.add_into-3.ensures.waiting ∙ ap (λ us. waiting false then.pairs ++ column d (weighted_entries us [])) c.split_at.ensures.back) (flushed x r by))
