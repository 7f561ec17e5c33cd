-- Proofs of `split` and its mutually recursive functions, src/split.rt.
use Rattle.std.proofs.Common.{arith, ap, refl}
use Rattle.shared_tree.proofs.ChangedMaps.{below_map, above_map}
use Rattle.shared_tree.proofs.Forks.{fork_length}
use Rattle.shared_tree.proofs.Splits.{split_left, split_right, split_here}
use Rattle.shared_tree.proofs.tree.Tree.+split.Goals as goal

pub split-requires : goal.split-requires
split-requires g t c κs within =
    let short = fork_length _ _ _ _ _ c.in-Some.ensures in
    (omega arith, within)

pub split-requires-then-root_key-key : goal.split-requires-then-root_key-key
split-requires-then-root_key-key g t c κs within =
    let short = fork_length _ _ _ _ _ c.in-Some.ensures in
    (omega arith, within)

pub returns-in_default-clause-split : goal.returns-in_default-clause-split
returns-in_default-clause-split g t c =
    rw (c.new.ensures, c.new-in_default.ensures) (record { whole = ap (λ tree. tree.entries) c.in_default.ensures; below = omega arith; above = omega arith })

pub join-requires : goal.join-requires
join-requires g t c =
    let root = c.in-Some.ensures in
    let whole = split_left c.args.key _ _ _ _ _ root.map root.entries _ _ _ _ c.if-key-root_key.true c.in_ok-below.ensures.split refl in
    rw (c.in_ok-value.ensures, c.in_ok-right.ensures) (above_map c.args.key _ _ _ _ whole)

pub join-requires-then-root_key-key : goal.join-requires-then-root_key-key
join-requires-then-root_key-key g t c =
    let root = c.in-Some.ensures in
    let whole = split_right c.args.key _ _ _ _ _ root.map root.entries _ _ _ _ c.if-root_key-key.true c.in_ok-inner.ensures.split refl in
    rw (c.in_ok-left.ensures, c.in_ok-value.ensures) (below_map c.args.key _ _ _ _ whole)

pub returns-in_ok-above-clause-split : goal.returns-in_ok-above-clause-split
returns-in_ok-above-clause-split g t c =
    let root = c.in-Some.ensures in
    let above = rw (c.in_ok-value.ensures, c.in_ok-right.ensures) at c.in_ok-above.ensures.join.entries in
    split_left c.args.key _ _ _ _ _ root.map root.entries _ _ _ _ c.if-key-root_key.true c.in_ok-below.ensures.split above

pub returns-in_ok-below-2-clause-split : goal.returns-in_ok-below-2-clause-split
returns-in_ok-below-2-clause-split g t c =
    let root = c.in-Some.ensures in
    let below = rw (c.in_ok-left.ensures, c.in_ok-value.ensures) at c.in_ok-below-2.ensures.join.entries in
    split_right c.args.key _ _ _ _ _ root.map root.entries _ _ _ _ c.if-root_key-key.true c.in_ok-inner.ensures.split below

pub returns-in_ok-right-2-clause-split : goal.returns-in_ok-right-2-clause-split
returns-in_ok-right-2-clause-split g t c =
    let root = c.in-Some.ensures in
    rw (c.in_ok-value.ensures, c.in_ok-left-2.ensures, c.in_ok-right-2.ensures) (split_here c.args.key _ _ _ _ _ root.map root.entries (omega arith))
