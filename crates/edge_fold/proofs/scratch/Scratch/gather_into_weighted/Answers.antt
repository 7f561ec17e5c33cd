-- Proofs of `gather_into_weighted`, src/weighted.rt.
use Rattle.std.proofs.Common.{ℕ, ℤ, List, ◌++◌, take, drop, true, refl, ap, ◌∙◌}
use Rattle.edge_fold.specs.Folded.{waiting}
use Rattle.edge_fold.specs.Contributions.{column, weighted_entries}
use Rattle.edge_fold.proofs.Columns.{column_parts}
use Rattle.edge_fold.proofs.JoinedSlots.{folded_later}
use Rattle.edge_fold.proofs.Walks.{folded_along}
use Rattle.edge_fold.proofs.WeightColumns.{entries_parts}
use Rattle.edge_fold.proofs.scratch.Scratch.gather_into_weighted.Goals as goal

pub returns-then-sources-room : goal.returns-then-sources-room
returns-then-sources-room c m steps edges are has x r by =
    folded_later c.args.context m steps edges
    (column c.args.destination (weighted_entries c.args.sources.now c.args.weights.now)) c.args.self.now _ x r true c.requires.weighted refl c.add_into_weighted.ensures.waiting (has x r by)

pub returns : goal.returns
returns c m steps edges are has =
    let now = c.args.self.now in
    let then = c.flush.new.self in
    let f = c.args.context in
    let d = c.args.destination in
    let ss = c.args.sources.now in
    let ws = c.args.weights.now in
    let k = c.room-room.result in
    let counts = c.requires.weighted in
    let front = weighted_entries (take k ss) (take k ws) in
    let back = weighted_entries (drop k ss) (drop k ws) in
    let added = λ (us : List ℕ) (vs : List ℤ). waiting true now.pairs ++ column d (weighted_entries us vs) in
    let more = λ (us : List ℕ) (vs : List ℤ). waiting true then.pairs ++ column d (weighted_entries us vs) in
    let flushed = c.in_ok-flush.ensures.folded m steps (edges ++ column d front) are
    (λ y t own. folded_later f m steps edges (column d front) now _ y t true counts refl
    (c.add_into_weighted-2.ensures.waiting ∙ ap (λ us. added us c.split_at-2.result.0.now) c.split_at.ensures.front ∙ ap (added (take k ss)) c.split_at-2.ensures.front) (has y t own)) in
    folded_along f m steps ((edges ++ column d front) ++ column d back) (edges ++ column d (weighted_entries ss ws)) _
    (column_parts d front back (weighted_entries ss ws) edges (entries_parts k ss ws c.requires.same))
    (λ x r by. folded_later f m steps (edges ++ column d front) (column d back) then _ x r true counts refl
    (c.add_into_weighted-3.ensures.waiting ∙ ap (λ us. more us c.split_at-2.result.1.now) c.split_at.ensures.back ∙ ap (more (drop k ss)) c.split_at-2.ensures.back) (flushed x r by))
