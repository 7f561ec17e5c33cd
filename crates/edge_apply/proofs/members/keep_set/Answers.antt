-- Proofs of `keep_set`, src/members.rt.
use Rattle.std.proofs.Common.{rules, ◌≡◌, ◌+◌, ◌<◌, length, get_or, sym, arith}
use Rattle.edge_apply.specs.Words.{is_set}
use Rattle.edge_apply.proofs.Kept.{one_more}
use Rattle.edge_apply.proofs.members.keep_set.Goals as goal

pub positions-preserved : goal.positions-preserved
positions-preserved c =
    let xs = c.args.block.now in
    let ys = c.positions.block in
    let i = c.positions.position in
    let x = get_or ys i 0 in
    let inside : i < length ys = omega arith in
    one_more (is_set c.args.words.now) xs ys c.positions.kept i x (c.positions.kept + c.from-kept.result) c.is_set.result c.positions.invariant inside (sym c.is_set.ensures) (search rules)
    (λ e. let one : c.from-kept.result ≡ 1 = rw e at c.from-kept.ensures in omega (arith, one))
    (λ e. let none : c.from-kept.result ≡ 0 = rw e at c.from-kept.ensures in omega (arith, none))
