-- Proofs of `fill`, src/walks.rt.
use Rattle.std.proofs.Common.{arith}
use Rattle.pages.proofs.Filling.{filled_down, left_down}
use Rattle.pages.proofs.walks.Descending.fill.Goals as goal

pub returns-clause-filled : goal.returns-clause-filled
returns-clause-filled c =
    let d = c.self.inside in
    filled_down (λ e. e.0) d.list c.args.self.now c.args.block.now c.fill_below.new.block c.min-count.result (omega (arith, c.min-count.ensures)) d.left c.self.view_is c.self.invariant
    (omega (arith, c.min-count.ensures)) c.fill_below.ensures

pub returns-clause-rest : goal.returns-clause-rest
returns-clause-rest c =
    let d = c.self.inside in
    left_down d.list c.args.self.now d.left c.min-count.result c.self.view_is c.self.invariant (omega (arith, c.min-count.ensures))
