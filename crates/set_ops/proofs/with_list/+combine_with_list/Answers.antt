-- Proofs of `combine_with_list` and its mutually recursive functions, src/with_list.rt.
use Rattle.std.proofs.Common.{◌≡◌, length, to_z, of_z, w64, arith, rules}
use Rattle.std.specs.Map.{keys_of}
use Rattle.ascending_lists.specs.Ascending.{least}
use Rattle.ascending_lists.proofs.Ascending.{ascends_from}
use Rattle.set_ops.specs.inside.Answers.{IsCombined, IsRejoined}
use Rattle.set_ops.proofs.Combining.{head_of, over_left, over_right, less_left, less_right, root_rejoin, unchanged, none_of, ok_is}
use Rattle.set_ops.proofs.with_list.+combine_with_list.Goals as goal

pub returns-then-is_empty : goal.returns-then-is_empty
returns-then-is_empty t c =
    let none : length c.args.second.now ≡ 0 = search rules in
    rw c.in_ok-part.ensures (unchanged c.args.task.operation c.args.first.now c.args.second.now (none_of c.args.second.now none))

pub cut_entries-below-requires : goal.cut_entries-below-requires
cut_entries-below-requires t c = ascends_from 0 (least c.args.task.base) (keys_of c.args.second.now) (omega arith) c.requires.second_over

pub combine_with_list-requires : goal.combine_with_list-requires
combine_with_list-requires t c =
    let p = c.in-Some in
    let y = c.cut_entries-below.result in
    let base = c.args.task.base in
    let a = c.args.first.now in
    let ys = c.args.second.now in (
      omega (arith, less_left base a p.left p.key p.weight p.right p.ensures ys y.0 y.2 y.1 c.cut_entries-below.ensures c.requires.first_over c.requires.second_over),
      over_left base a p.left p.key p.weight p.right p.ensures ys y.0 y.2 y.1 c.cut_entries-below.ensures c.requires.first_over c.requires.second_over,
    )

pub combine_with_list-requires-2 : goal.combine_with_list-requires-2
combine_with_list-requires-2 t c =
    let p = c.in-Some in
    let y = c.cut_entries-below.result in
    let base = c.args.task.base in
    let a = c.args.first.now in
    let ys = c.args.second.now in (
      omega (arith, less_right base a p.left p.key p.weight p.right p.ensures ys y.0 y.2 y.1 c.cut_entries-below.ensures c.requires.first_over c.requires.second_over),
      rw c.above.ensures (over_right base a p.left p.key p.weight p.right p.ensures ys y.0 y.2 y.1 c.cut_entries-below.ensures c.requires.first_over c.requires.second_over),
    )

pub rejoin-requires-clause-ascending : goal.rejoin-requires-clause-ascending
rejoin-requires-clause-ascending t c =
    let p = c.in-Some in
    let y = c.cut_entries-below.result in
    let hi : IsCombined c.args.task.operation p.right.chunk_size p.right.entries y.2 c.in_ok-above.above.part c.in_ok-above.above.common = rw c.above.ensures at c.in_ok-above.ensures in
    let same : to_z w64 (of_z w64 p.weight) ≡ p.weight = search rules in
    rw same (root_rejoin c.args.task.base c.args.first.now p.left p.key p.weight p.right p.ensures c.args.second.now y.0 y.2 y.1 c.cut_entries-below.ensures c.requires.first_over
    c.requires.second_over c.args.task.operation c.in_ok-below.below c.in_ok-above.above c.in_ok-below.ensures hi).ascending

pub rejoin-requires-clause-below_room : goal.rejoin-requires-clause-below_room
rejoin-requires-clause-below_room t c =
    let p = c.in-Some in
    let y = c.cut_entries-below.result in
    let hi : IsCombined c.args.task.operation p.right.chunk_size p.right.entries y.2 c.in_ok-above.above.part c.in_ok-above.above.common = rw c.above.ensures at c.in_ok-above.ensures in
    (root_rejoin c.args.task.base c.args.first.now p.left p.key p.weight p.right p.ensures c.args.second.now y.0 y.2 y.1 c.cut_entries-below.ensures c.requires.first_over c.requires.second_over
    c.args.task.operation c.in_ok-below.below c.in_ok-above.above c.in_ok-below.ensures hi).below_room

pub rejoin-requires-clause-above_room : goal.rejoin-requires-clause-above_room
rejoin-requires-clause-above_room t c =
    let p = c.in-Some in
    let y = c.cut_entries-below.result in
    let hi : IsCombined c.args.task.operation p.right.chunk_size p.right.entries y.2 c.in_ok-above.above.part c.in_ok-above.above.common = rw c.above.ensures at c.in_ok-above.ensures in
    (root_rejoin c.args.task.base c.args.first.now p.left p.key p.weight p.right p.ensures c.args.second.now y.0 y.2 y.1 c.cut_entries-below.ensures c.requires.first_over c.requires.second_over
    c.args.task.operation c.in_ok-below.below c.in_ok-above.above c.in_ok-below.ensures hi).above_room

pub returns : goal.returns
returns t c =
    let p = c.in-Some in
    let y = c.cut_entries-below.result in
    let op = c.args.task.operation in
    let a = c.args.first.now in
    let hi : IsCombined op p.right.chunk_size p.right.entries y.2 c.in_ok-above.above.part c.in_ok-above.above.common = rw c.above.ensures at c.in_ok-above.ensures in
    let same : to_z w64 (of_z w64 p.weight) ≡ p.weight = search rules in
    ok_is
    (λ m. IsRejoined op c.in_ok-below.below (head_of p.key p.weight y.1) c.in_ok-above.above m.part m.common)
    (λ m. IsCombined op a.chunk_size a.entries c.args.second.now m.part m.common)
    (root_rejoin c.args.task.base a p.left p.key p.weight p.right p.ensures c.args.second.now y.0 y.2 y.1 c.cut_entries-below.ensures c.requires.first_over c.requires.second_over op
    c.in_ok-below.below c.in_ok-above.above c.in_ok-below.ensures hi).whole
    c.rejoin.result (rw same at c.rejoin.ensures)
