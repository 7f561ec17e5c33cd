-- Proofs of `fill_weighted`, src/walks.rt.
use Rattle.std.proofs.Common.{arith}
use Rattle.pages.proofs.Filling.{filled_up}
use Rattle.pages.proofs.walks.Ascending.fill_weighted.Goals as goal

pub returns-clause-keys : goal.returns-clause-keys
returns-clause-keys c =
    let a = c.self.inside in
    filled_up (λ e. e.0) a.list c.args.self.now c.args.keys.now c.fill_from.new.block c.min-filled.result (omega (arith, c.min.ensures, c.min-filled.ensures)) a.at c.self.view_is
    (omega (arith, c.min-filled.ensures, c.len.ensures.count)) c.fill_from.ensures

pub returns-clause-weights : goal.returns-clause-weights
returns-clause-weights c =
    let a = c.self.inside in
    filled_up (λ e. e.1) a.list c.args.self.now c.args.weights.now c.fill_weights_from.new.block c.min-filled.result (omega (arith, c.min.ensures, c.min-filled.ensures)) a.at c.self.view_is
    (omega (arith, c.min-filled.ensures, c.len.ensures.count)) c.fill_weights_from.ensures
