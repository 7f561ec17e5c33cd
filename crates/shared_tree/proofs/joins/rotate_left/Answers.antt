-- Proofs of `rotate_left`, src/joins.rt.
use Rattle.std.proofs.Common.{arith}
use Rattle.std.proofs.lemmas.Result.{IfOk-weaker}
use Rattle.shared_tree.proofs.Rotations.{map_right, map_left, map_around_left, map_middle_left}
use Rattle.shared_tree.proofs.Deepened.{forked, joined_on_left}
use Rattle.shared_tree.proofs.Rotated.{single_left, double_left, rotated_left}
use Rattle.shared_tree.proofs.joins.rotate_left.Goals as goal

pub fork-requires-clause-map : goal.fork-requires-clause-map
fork-requires-clause-map g c =
    let top = c.in_ok-top.ensures in
    map_left _ _ _ _ _ _ c.requires.map top.entries

pub fork-requires-then-depth-clause-map : goal.fork-requires-then-depth-clause-map
fork-requires-then-depth-clause-map g c =
    let top = c.in_ok-top.ensures in
    map_around_left _ _ _ _ _ _ _ c.requires.map top.entries c.in_ok-lower.ensures.entries

pub fork-requires-2-clause-map : goal.fork-requires-2-clause-map
fork-requires-2-clause-map g c =
    let top = c.in_ok-top.ensures in
    let middle = c.in_ok-middle.ensures in
    map_left _ _ _ _ _ _ (map_left _ _ _ _ _ _ c.requires.map top.entries) middle.entries

pub fork-requires-3-clause-map : goal.fork-requires-3-clause-map
fork-requires-3-clause-map g c =
    let top = c.in_ok-top.ensures in
    let middle = c.in_ok-middle.ensures in
    map_right _ _ _ _ _ _ (rw top.entries at top.map) middle.entries

pub fork-requires-4-clause-map : goal.fork-requires-4-clause-map
fork-requires-4-clause-map g c =
    let top = c.in_ok-top.ensures in
    let middle = c.in_ok-middle.ensures in
    map_middle_left _ _ _ _ _ _ _ _ _ _ _ c.requires.map top.entries middle.entries c.in_ok-before.ensures.entries c.in_ok-after.ensures.entries

pub fork-requires-clause-balanced : goal.fork-requires-clause-balanced
fork-requires-clause-balanced g c =
    let top = c.in_ok-top.ensures in
    (single_left _ _ _ _ top.depth top.balanced c.requires.deeper (omega arith)).0

pub fork-requires-then-depth-clause-balanced : goal.fork-requires-then-depth-clause-balanced
fork-requires-then-depth-clause-balanced g c =
    let top = c.in_ok-top.ensures in
    rw c.in_ok-lower.ensures.depth (single_left _ _ _ _ top.depth top.balanced c.requires.deeper (omega arith)).1

pub fork-requires-2-clause-balanced : goal.fork-requires-2-clause-balanced
fork-requires-2-clause-balanced g c =
    let top = c.in_ok-top.ensures in
    let middle = c.in_ok-middle.ensures in
    (double_left _ _ _ _ top.depth top.balanced c.requires.deeper _ _ (omega arith) middle.depth middle.balanced).0

pub fork-requires-3-clause-balanced : goal.fork-requires-3-clause-balanced
fork-requires-3-clause-balanced g c =
    let top = c.in_ok-top.ensures in
    let middle = c.in_ok-middle.ensures in
    (double_left _ _ _ _ top.depth top.balanced c.requires.deeper _ _ (omega arith) middle.depth middle.balanced).1.0

pub fork-requires-4-clause-balanced : goal.fork-requires-4-clause-balanced
fork-requires-4-clause-balanced g c =
    let top = c.in_ok-top.ensures in
    let middle = c.in_ok-middle.ensures in
    rw (c.in_ok-before.ensures.depth, c.in_ok-after.ensures.depth) (double_left _ _ _ _ top.depth top.balanced c.requires.deeper _ _ (omega arith) middle.depth middle.balanced).1.1

pub returns-then-depth : goal.returns-then-depth
returns-then-depth g c =
    let top = c.in_ok-top.ensures in
    IfOk-weaker c.fork-then-depth.result _ _ (λ t f. joined_on_left _ _ _ _ _ top _ _ _ (omega arith) _ _ (forked _ _ _ _ _ c.in_ok-lower.ensures) (forked _ _ _ _ _ f)) c.fork-then-depth.ensures

pub returns : goal.returns
returns g c =
    let top = c.in_ok-top.ensures in
    let middle = c.in_ok-middle.ensures in
    IfOk-weaker c.fork-4.result _ _ (λ t f. rotated_left _ _ _ _ _ top _ _ _ c.requires.deeper _ _ _ _ _ _ _ middle (omega arith) c.in_ok-before.ensures c.in_ok-after.ensures f) c.fork-4.ensures
