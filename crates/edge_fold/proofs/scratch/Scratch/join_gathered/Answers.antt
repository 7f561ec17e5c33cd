-- Proofs of `join_gathered`, src/gathered.rt.
use Rattle.std.proofs.Common.{List, refl, sym, ap, ◌∙◌, subst}
use Rattle.edge_fold.specs.declared.gathered.GatheredIn.{GatheredIn}
use Rattle.edge_fold.specs.Gathered.{IsGatheredBy, gathered_for}
use Rattle.edge_fold.specs.Contributions.{reduced_at}
use Rattle.edge_fold.proofs.JoinedSlots.{folded_before_alike}
use Rattle.edge_fold.proofs.scratch.Scratch.join_gathered.Goals as goal

pub returns : goal.returns
returns c m steps edges more has are x r by =
    let f = c.args.context in
    let gs = c.args.gathered.now.vectors.items in
    let is = are x r by in
    let value = c.deref.ensures.value in
    let joined = c.in_ok-join_gathered.ensures x r (subst (λ (hs : List GatheredIn). IsGatheredBy r x hs) (sym value) is.reduction) in
    folded_before_alike f m steps edges more c.args.self.now _ x r (gathered_for x c.deref.result.now) refl joined
    (λ v h l. ap (λ hs. reduced_at r v h (gathered_for x hs)) value ∙ is.numbers v h l)
    (has x r by)
