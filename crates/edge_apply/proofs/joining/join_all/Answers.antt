-- Proofs of `join_all`, src/joining.rt.
use Rattle.std.proofs.Common.{◌≡◌, ◌<◌, ◌≤◌, ◌+◌, ◌++◌, length, get_or, take, ap}
use Rattle.std.proofs.lemmas.List.{take_all}
use Rattle.std.specs.List.{flat_map}
use Rattle.edge_fold.proofs.Walks.{folded_along}
use Rattle.crew.specs.Pieces.{pieces_of}
use Rattle.edge_apply.proofs.FoundPieces.{gathered_at, next_piece}
use Rattle.edge_apply.proofs.joining.join_all.Goals as goal

pub found-preserved : goal.found-preserved
found-preserved c m steps edges_of each has =
    let f = c.args.context in
    let fs = c.args.found.now in
    let i = c.found.one-index in
    let one = c.one-item.result in
    let inside : i < length fs = c.found-test.true in
    let is : one ≡ get_or fs i one = c.one-item.is in
    let first = flat_map edges_of (pieces_of (take i fs)) in
    folded_along f m steps (first ++ edges_of one.piece) (flat_map edges_of (pieces_of (take (i + 1) fs))) c.join_gathered.new.self (next_piece edges_of fs i one inside is)
    (c.in_ok-join_gathered.ensures m steps first (edges_of one.piece) (c.found.invariant m steps edges_of each has) (gathered_at f.vertices m steps edges_of fs i one each inside is))

pub returns : goal.returns
returns c m steps edges_of each has =
    let fs = c.args.found.now in
    let i = c.found.one-index in
    let all : length fs ≤ i = c.found-test.false in
    folded_along c.args.context m steps _ (flat_map edges_of (pieces_of fs)) c.found.scratch (ap (λ gs. flat_map edges_of (pieces_of gs)) (take_all i fs all))
    (c.found.invariant m steps edges_of each has)
