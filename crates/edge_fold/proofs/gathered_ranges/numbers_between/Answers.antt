-- Proofs of `numbers_between`, src/gathered_ranges.rt.
use Rattle.std.proofs.Common.{◌-◌, ◌<◌, ◌≤◌, List, length, length-drop, take, drop, sym, ap, ◌∙◌, subst, arith}
use Rattle.std.proofs.lemmas.List.{take_all}
use Rattle.std.proofs.lemmas.List.Sorted.{IsNonDecreasingBy-drop}
use Rattle.std.specs.List.Sorted.{IsPartitionPoint}
use Rattle.vectors.specs.declared.changes.EntryChange.{EntryChange}
use Rattle.edge_fold.specs.Gathered.{IsNonDescending, given_numbers}
use Rattle.edge_fold.specs.Contributions.{reduced_at}
use Rattle.edge_fold.proofs.Ascending.{range_of_numbers}
use Rattle.edge_fold.proofs.gathered_ranges.numbers_between.Goals as goal

pub returns : goal.returns
returns c up r v h =
    let cs = c.args.numbers.now in
    let i = c.count_below-start.result in
    let j = c.count_below-end.result in
    let high = c.args.high in
    let long = length-drop i cs in
    let whole = take_all (length cs - i) (drop i cs) (omega (arith, long)) in
    let rest = IsNonDecreasingBy-drop (λ (e : EntryChange). e.vertex) i cs up in
    let second = c.count_below-end.ensures.split (subst (λ (ds : List EntryChange). IsNonDescending ds) (sym whole) rest) in
    let split = subst (λ (ds : List EntryChange). IsPartitionPoint (λ (e : EntryChange). e.vertex < high) (λ (e : EntryChange). high ≤ e.vertex) ds j) whole second in
    ap (λ (ds : List EntryChange). reduced_at r v h (given_numbers (take j ds))) whole
    ∙ range_of_numbers r c.args.low high v h cs i j (c.count_below-start.ensures.split up) split
