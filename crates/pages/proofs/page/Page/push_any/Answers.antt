-- Proofs of `push_any`, src/applying.rt.
use Rattle.std.proofs.Common.{◌<◌, ◌++◌, length, ◌∙◌, ap, arith}
use Rattle.std.proofs.lemmas.Grind.{common_steps}
use Rattle.edge_updates.specs.Weighted.{weighted}
use Rattle.edge_updates.proofs.Weighted.{length_weighted}
use Rattle.pages.proofs.Building.{entry_some}
use Rattle.pages.proofs.page.Page.push_any.Goals as goal

pub returns : goal.returns
returns c =
    let xs = c.args.keys.now in
    let ws = c.args.weights.now in
    let filled : 0 < length xs = grind (arith, common_steps) in
    let some : 0 < length (weighted xs ws) = omega (arith, filled, length_weighted xs ws) in
    c.in_ok-push.ensures.ok ∙ ap (λ l. c.args.self.now ++ l) (entry_some c.args.vertex (weighted xs ws) some)
