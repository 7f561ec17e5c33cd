-- Proofs of `fill_weighted`, src/walks.rt.
use Rattle.std.proofs.Common.{arith}
use Rattle.pages.proofs.Filling.{filled_down, left_down}
use Rattle.pages.proofs.walks.Descending.fill_weighted.Goals as goal

pub returns-clause-keys : goal.returns-clause-keys
returns-clause-keys c =
    let d = c.self.inside in
    filled_down (λ e. e.0) d.list c.args.self.now c.args.keys.now c.fill_below.new.block c.min-filled.result (omega (arith, c.min.ensures, c.min-filled.ensures)) d.left c.self.view_is c.self.invariant
    (omega (arith, c.min-filled.ensures)) c.fill_below.ensures

pub returns-clause-weights : goal.returns-clause-weights
returns-clause-weights c =
    let d = c.self.inside in
    filled_down (λ e. e.1) d.list c.args.self.now c.args.weights.now c.fill_weights_below.new.block c.min-filled.result
    (omega (arith, c.min.ensures, c.min-filled.ensures)) d.left c.self.view_is c.self.invariant (omega (arith, c.min-filled.ensures)) c.fill_weights_below.ensures

pub returns-clause-rest : goal.returns-clause-rest
returns-clause-rest c =
    let d = c.self.inside in
    left_down d.list c.args.self.now d.left c.min-filled.result c.self.view_is c.self.invariant (omega (arith, c.min-filled.ensures))
