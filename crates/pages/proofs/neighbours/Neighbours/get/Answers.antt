-- Proofs of `get`, src/neighbours.rt.
use Rattle.std.proofs.Common.{Some, w64, sym, ◌∙◌, ap, arith, rules}
use Rattle.std.proofs.lemmas.Int.{to_z-of_z}
use mir.Val.{SFits}
use Rattle.pages.proofs.Cuts.{weight_there, weight_missing}
use Rattle.pages.proofs.neighbours.Neighbours.get.Goals as goal

pub returns-then-at-next : goal.returns-then-at-next
returns-then-at-next c =
    let fits : SFits w64 c.weight.result = search rules in
    ap Some (to_z-of_z w64 c.weight.result fits ∙ c.weight.ensures)
    ∙ weight_there c.args.neighbour c.cut-at.result.0 c.args.self.now c.cut-at.ensures.below (omega (arith, c.cut-at.ensures.order)) (c.cut-at.ensures.found c.if-at-next.true)

pub returns : goal.returns
returns c =
    sym (weight_missing c.args.neighbour c.cut-at.result.0 c.args.self.now c.cut-at.ensures.below c.cut-at.result.1 (omega (arith, c.cut-at.ensures.order)) c.cut-at.ensures.above)
