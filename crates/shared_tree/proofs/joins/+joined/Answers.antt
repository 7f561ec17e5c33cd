-- Proofs of `joined` and its mutually recursive functions, src/joins.rt.
use Rattle.std.proofs.Common.{arith, rules}
use Rattle.std.proofs.lemmas.Result.{IfOk-weaker}
use Rattle.shared_tree.proofs.Forks.{fork_length}
use Rattle.shared_tree.proofs.Rotations.{map_right, map_left, map_around_right, map_around_left}
use Rattle.shared_tree.proofs.Deepened.{forked, near_on_right, joined_on_right, near_on_left, joined_on_left}
use Rattle.shared_tree.proofs.joins.+joined.Goals as goal

pub joined-requires : goal.joined-requires
joined-requires g t c κs within =
    let top = c.in_ok-top.ensures in
    let short = fork_length _ _ _ _ _ top in
    (omega arith, (search rules, map_right _ _ _ _ _ _ c.requires top.entries))

pub balance-requires-clause-map : goal.balance-requires-clause-map
balance-requires-clause-map g t c =
    let top = c.in_ok-top.ensures in
    map_around_right _ _ _ _ _ _ _ c.requires top.entries c.in_ok-inner.ensures.entries

pub balance-requires-clause-left_near : goal.balance-requires-clause-left_near
balance-requires-clause-left_near g t c =
    let top = c.in_ok-top.ensures in
    (near_on_right _ _ _ _ _ top _ _ _ (omega arith) _ c.in_ok-inner.ensures).0

pub balance-requires-clause-right_near : goal.balance-requires-clause-right_near
balance-requires-clause-right_near g t c =
    let top = c.in_ok-top.ensures in
    (near_on_right _ _ _ _ _ top _ _ _ (omega arith) _ c.in_ok-inner.ensures).1

pub returns-in_ok-inner : goal.returns-in_ok-inner
returns-in_ok-inner g t c =
    let top = c.in_ok-top.ensures in
    IfOk-weaker c.balance.result _ _ (λ t f. joined_on_right _ _ _ _ _ top _ _ _ (omega arith) _ _ c.in_ok-inner.ensures f) c.balance.ensures

pub joined-requires-then-depth-2 : goal.joined-requires-then-depth-2
joined-requires-then-depth-2 g t c κs within =
    let top = c.in_ok-top-2.ensures in
    let short = fork_length _ _ _ _ _ top in
    (omega arith, (search rules, map_left _ _ _ _ _ _ c.requires top.entries))

pub balance-requires-then-depth-2-clause-map : goal.balance-requires-then-depth-2-clause-map
balance-requires-then-depth-2-clause-map g t c =
    let top = c.in_ok-top-2.ensures in
    map_around_left _ _ _ _ _ _ _ c.requires top.entries c.in_ok-inner-2.ensures.entries

pub balance-requires-then-depth-2-clause-left_near : goal.balance-requires-then-depth-2-clause-left_near
balance-requires-then-depth-2-clause-left_near g t c =
    let top = c.in_ok-top-2.ensures in
    (near_on_left _ _ _ _ _ top _ _ _ (omega arith) _ c.in_ok-inner-2.ensures).0

pub balance-requires-then-depth-2-clause-right_near : goal.balance-requires-then-depth-2-clause-right_near
balance-requires-then-depth-2-clause-right_near g t c =
    let top = c.in_ok-top-2.ensures in
    (near_on_left _ _ _ _ _ top _ _ _ (omega arith) _ c.in_ok-inner-2.ensures).1

pub returns-in_ok-inner-2 : goal.returns-in_ok-inner-2
returns-in_ok-inner-2 g t c =
    let top = c.in_ok-top-2.ensures in
    IfOk-weaker c.balance-then-depth-2.result _ _ (λ t f. joined_on_left _ _ _ _ _ top _ _ _ (omega arith) _ _ c.in_ok-inner-2.ensures f) c.balance-then-depth-2.ensures

pub returns-else-depth-2 : goal.returns-else-depth-2
returns-else-depth-2 g t c = IfOk-weaker c.fork.result _ _ (λ t f. forked _ _ _ _ _ f) c.fork.ensures
