-- Proofs of `change_all` and its mutually recursive functions, src/change_all.rt.
use Rattle.std.proofs.Common.{refl, arith, rules}
use Rattle.shared_tree.proofs.ChangedMaps.{below_map, above_map, map_around, changed_around, grew_around}
use Rattle.shared_tree.proofs.tree.Tree.+change_all.Goals as goal

pub change_all-requires : goal.change_all-requires
change_all-requires g t c κs within =
    let halves = c.in-Some.ensures in
    let smaller = halves.below_smaller in
    (omega arith, (search rules, (search rules, below_map _ _ _ _ _ halves.changes)))

pub change_all-requires-2 : goal.change_all-requires-2
change_all-requires-2 g t c κs within =
    let halves = c.in-Some.ensures in
    let smaller = halves.above_smaller in
    (omega arith, (search rules, (search rules, above_map _ _ _ _ _ halves.changes)))

pub join_around-requires : goal.join_around-requires
join_around-requires g t c =
    let halves = c.in-Some.ensures in
    map_around g.C.ValueChange.makes _ _ _ _ _ _ _ _ _ c.in_ok-below.ensures.values c.in_ok-above.ensures.values _ _ c.in_ok-value.value halves.map halves.changes

pub returns-clause-values : goal.returns-clause-values
returns-clause-values g t c =
    let halves = c.in-Some.ensures in
    rw c.in_ok-tree-2.ensures
    (changed_around g.C.ValueChange.makes _ _ _ _ _ _ _ _ _ c.in_ok-below.ensures.values c.in_ok-above.ensures.values _ _ c.in_ok-value.value halves.map halves.changes c.in_ok-value.ensures.made)

pub returns-clause-growth : goal.returns-clause-growth
returns-clause-growth g t c =
    let halves = c.in-Some.ensures in
    grew_around g.C.ValueChange.weight _ _ _ _ _ _ _ _ _ halves.map.whole c.in_ok-tree-2.ensures c.in_ok-below.below.growth c.in_ok-above.above.growth c.in_ok-value.growth _ _
    c.in_ok-below.ensures.growth c.in_ok-above.ensures.growth c.in_ok-value.ensures.growth refl refl
