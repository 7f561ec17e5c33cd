-- Proofs of `fill`, src/walks.rt.
use Rattle.std.proofs.Common.{arith}
use Rattle.pages.proofs.Filling.{filled_up}
use Rattle.pages.proofs.walks.Ascending.fill.Goals as goal

pub returns-clause-filled : goal.returns-clause-filled
returns-clause-filled c =
    let a = c.self.inside in
    filled_up (λ e. e.0) a.list c.args.self.now c.args.block.now c.fill_from.new.block c.min-count.result (omega (arith, c.min-count.ensures)) a.at c.self.view_is
    (omega (arith, c.min-count.ensures, c.len.ensures.count)) c.fill_from.ensures
