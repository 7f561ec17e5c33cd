-- Proofs of `between`, src/gathered_ranges.rt.
use Rattle.std.proofs.Common.{◌≡◌, ◌<◌, ◌≤◌, ◌++◌, ◌∷◌, [], ℤ, cond, length, get_or, take, sym, ap, ◌∙◌, subst}
use Rattle.std.proofs.lemmas.List.{take_all, take_more}
use Rattle.edge_fold.specs.declared.gathered.GatheredIn.{GatheredIn}
use Rattle.edge_fold.specs.Gathered.{IsNonDescending, IsGatheredBy, gathered_for, is_in_range}
use Rattle.edge_fold.specs.Contributions.{all_given, reduced_at}
use Rattle.edge_fold.proofs.Ascending.{ascending_at, none_between, part_more}
use Rattle.edge_fold.proofs.Gathering.{is_gathered_at, is_gathered_by-push}
use Rattle.edge_fold.proofs.Meaning.{filtered_edges}
use Rattle.edge_fold.proofs.gathered.Gathered.between.Goals as goal

pub vectors-preserved : goal.vectors-preserved
vectors-preserved c =
    let gs = c.args.self.now.vectors.items in
    let i = c.vectors.of_vector-index in
    let g = c.of_vector-item.result in
    let lent = c.deref-of_vector-items.ensures.value in
    let inside : i < length gs = subst (λ hs. i < length hs) lent c.vectors-test.true in
    let is : g ≡ get_or gs i g = subst (λ hs. g ≡ get_or hs i g) lent c.of_vector-item.is in
    let fs = c.vectors.vectors.items in
    let f = c.in_ok-between.field-0 in
    let more = c.in_ok-push.ensures.items in
    let step = take_more gs i g inside ∙ ap (λ (d : GatheredIn). take i gs ++ d ∷ []) (sym is) in
    let part = c.in_ok-between.ensures in
    record {
      reduction = λ x r by.
          subst (λ hs. IsGatheredBy r x hs) (sym more) (is_gathered_by-push r x fs f (c.vectors.invariant.reduction x r by)
          (λ at. part.reduction ∙ ap (λ h. h.reduction) is ∙ is_gathered_at r x gs i g by inside (sym (ap (λ h. h.vector) is) ∙ sym part.vector ∙ at)));
      numbers = λ up x r v h.
          let own = subst (λ (d : GatheredIn). IsNonDescending d.numbers.items) (sym is) (ascending_at gs i g up inside) in
          ap (λ hs. reduced_at r v h (gathered_for x hs)) more
          ∙ part_more r x v h (is_in_range c.args.low c.args.high v) fs (take i gs) f g part.vector (c.vectors.invariant.numbers up x r v h) (λ n. part.numbers own r v n)
          ∙ ap (λ hs. cond (is_in_range c.args.low c.args.high v) (reduced_at r v h (gathered_for x hs)) h) (sym step);
    }

pub vectors-init : goal.vectors-init
vectors-init c =
    let none = c.in_ok-vectors.ensures.items in
    record {
      reduction = λ x r by. subst (λ hs. IsGatheredBy r x hs) (sym none) tt;
      numbers = λ up x r v h. ap (λ hs. reduced_at r v h (gathered_for x hs)) none ∙ none_between (is_in_range c.args.low c.args.high v) h;
    }

pub returns : goal.returns
returns c n m steps edges up are x r by =
    let gs = c.args.self.now.vectors.items in
    let i = c.vectors.of_vector-index in
    let all : length gs ≤ i = subst (λ hs. length hs ≤ i) c.deref-of_vector-items.ensures.value c.vectors-test.false in
    let is = are x r by in
    let inside = is_in_range c.args.low c.args.high in
    record {
      reduction = c.vectors.invariant.reduction x r is.reduction;
      numbers = λ v h l.
          c.vectors.invariant.numbers up x r v h
          ∙ ap (λ hs. cond (inside v) (reduced_at r v h (gathered_for x hs)) h) (take_all i gs all)
          ∙ ap (λ (y : ℤ). cond (inside v) y h) (is.numbers v h l)
          ∙ sym (filtered_edges r x v h inside (all_given m steps) edges);
    }
