-- Proofs of `weight`, src/updates.rt.
use Rattle.std.proofs.Common.{◌≡◌, pos, get_or, sym, ◌∙◌, rules}
use Rattle.std.proofs.lemmas.List.{get_or_default, get_or_past}
use Rattle.edge_updates.proofs.Weighted.{seen_weight}
use Rattle.edge_updates.proofs.updates.Updates.weight.Goals as goal

pub returns-then-index-self : goal.returns-then-index-self
returns-then-index-self c = λ d.
    let u = c.self.inside in
    let i = c.args.index in
    let is : get_or u.weights.now i (pos 0) ≡ (get_or c.args.self.now i d).1 = get_or_default u.weights.now i (pos 0) (pos 1) c.if-index-self.true
    ∙ seen_weight u.updates.now u.weights.now c.args.self.now c.self.view_is i d c.requires in
    rw (← is) (search rules)

pub returns-else-index-self : goal.returns-else-index-self
returns-else-index-self c = λ d. sym (get_or_past c.self.inside.weights.now c.args.index (pos 1) c.if-index-self.false)
    ∙ seen_weight c.self.inside.updates.now c.self.inside.weights.now c.args.self.now c.self.view_is c.args.index d c.requires
