-- Proofs of `join_between`, src/joining.rt.
use Rattle.std.proofs.Common.{◌≡◌, ◌<◌, ◌≤◌, ◌+◌, ◌++◌, length, get_or, take, sym, ap, ◌∙◌}
use Rattle.std.proofs.lemmas.List.{take_all}
use Rattle.std.proofs.lemmas.List.Elements.{filter-append}
use Rattle.std.specs.List.{filter, flat_map}
use Rattle.weighted_edges.specs.Edge.{Edge}
use Rattle.edge_fold.proofs.Walks.{folded_along}
use Rattle.edge_fold.specs.Gathered.{is_in_range}
use Rattle.crew.specs.Pieces.{pieces_of}
use Rattle.edge_apply.proofs.FoundPieces.{ascending_at, gathered_at, next_piece}
use Rattle.edge_apply.proofs.joining.join_between.Goals as goal

pub found-preserved : goal.found-preserved
found-preserved c m steps edges_of up each has =
    let f = c.args.context in
    let fs = c.args.found.now in
    let i = c.found.one-index in
    let one = c.one-item.result in
    let inside : i < length fs = c.found-test.true in
    let is : one ≡ get_or fs i one = c.one-item.is in
    let test = λ (e : Edge). is_in_range c.args.low c.args.high e.1 in
    let first = flat_map edges_of (pieces_of (take i fs)) in
    folded_along f m steps (filter test first ++ filter test (edges_of one.piece)) (filter test (flat_map edges_of (pieces_of (take (i + 1) fs)))) c.join_gathered.new.self
    (sym (filter-append test first (edges_of one.piece)) ∙ ap (filter test) (next_piece edges_of fs i one inside is))
    (c.in_ok-join_gathered.ensures m steps (filter test first) (filter test (edges_of one.piece)) (c.found.invariant m steps edges_of up each has)
    (c.in_ok-part.ensures f.vertices m steps (edges_of one.piece) (ascending_at fs i one up inside is) (gathered_at f.vertices m steps edges_of fs i one each inside is)))

pub returns : goal.returns
returns c m steps edges_of up each has =
    let fs = c.args.found.now in
    let i = c.found.one-index in
    let all : length fs ≤ i = c.found-test.false in
    folded_along c.args.context m steps _ (filter (λ e. is_in_range c.args.low c.args.high e.1) (flat_map edges_of (pieces_of fs))) c.found.scratch
    (ap (λ gs. filter (λ (e : Edge). is_in_range c.args.low c.args.high e.1) (flat_map edges_of (pieces_of gs))) (take_all i fs all)) (c.found.invariant m steps edges_of up each has)
